-- Where nothing was read.
use Rattle.std.proofs.Common.{◌≡◌, ℕ, List, inl, refl, arith}
use Rattle.std.specs.Prelude.{Option, Some, None, true, IfSome, is_some, option_copied}
use denote.Ref.{Bor}
use Rattle.fish_cold.specs.Caching.{OnlyReads}
use Rattle.fish_cold.specs.declared.page.Page.{Page}
use Rattle.fish_disk.specs.declared.disk.Disk.{Ghosts as Disks}

told_same : (x : Option (List ℕ)) → IfSome x (λ c. x ≡ Some c)
told_same None = tt
told_same (Some c) = refl

pub nothing_read : {D : Type 0} (disks : Disks D) (d : D) → OnlyReads disks d d
nothing_read disks d = record {
  content_is = told_same (disks.content d);
  crash = record { later = omega arith; now = λ c i. i; before = λ t c early s. inl s };
  one = omega arith;
}

-- a page that is found is there
pub copied_some : (o : Option (Bor Page)) → is_some o ≡ true → (p : Page) × (option_copied o ≡ Some p)
copied_some None h = absurd (cc h)
copied_some (Some b) h = (b.now, refl)
