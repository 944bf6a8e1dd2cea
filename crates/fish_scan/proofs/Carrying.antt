-- A disk that carries a table carries it while only pages are read.
use Rattle.std.proofs.Common.{◌≡◌, ℕ, List, refl, sym, ap, ◌∙◌, subst, arith}
use Rattle.std.specs.Prelude.{Option, Some, None, IfSome, Result}
use Rattle.fish_cold.specs.Cached.{IsReadFrom, ReadsAtMost}
use Rattle.fish_cold.specs.Carries.{CarriesTable}
use Rattle.fish_cold.specs.declared.cold.Cold.{Cold}
use Rattle.fish_cold.specs.declared.refusal.ColdRefusal.{ColdRefusal}
use Rattle.std.proofs.lemmas.Option.{same_Some}
use Rattle.fish_disk.proofs.Moments.{leaves_more, leaves_none, leaves_then}
use Rattle.fish_disk.specs.Content.{StillReads}
use Rattle.fish_disk.specs.declared.disk.Disk.{Ghosts as Disks}
use Rattle.fish_rule.specs.declared.table.Base.{Base}
use Rattle.fish_rule.specs.declared.view.Key.{Key}
use Rattle.fish_scan.specs.Colder.{IsBelow, StaysCold}

-- what is read now was read before
pub told_before : (a b : Option (List ℕ)) (image : List ℕ) → StillReads a b → b ≡ Some image → a ≡ Some image
told_before a (Some c) image still is = still ∙ is
told_before a None image still is = absurd cc

-- what is said of a content that is known
pub of_told : (o : Option (List ℕ)) (P : List ℕ → Type 0) (image : List ℕ) → o ≡ Some image → IfSome o P → P image
of_told o P image is h = subst (λ (z : Option (List ℕ)). IfSome z P) is h

-- other pages may be held
abbrev pub carried_on : {o p : Option (List ℕ)} {k : Key} {old new : Cold} (h : CarriesTable o k old) → p ≡ Some h.image
    → new.base ≡ old.base → new.starts ≡ old.starts → IsReadFrom h.image new → CarriesTable p k new
carried_on h is base starts read = record {
  image = h.image;
  is = is;
  end = h.end;
  prior = h.prior;
  line = h.line;
  buckets = h.buckets;
  heads = h.heads;
  covered = h.covered;
  base_number = ap (λ (z : Base). z.number) base ∙ h.base_number;
  base_line = ap (λ (z : Base). z.line) base ∙ h.base_line;
  starts = starts ∙ h.starts;
  read = read;
}

-- the older records stay those below the table
pub below_on : (k : Key) (old new : Cold) → new.base ≡ old.base → IsBelow k old → IsBelow k new
below_on k old new base h = record {
  number = ap (λ (z : Base). z.number) base ∙ h.number;
  line = ap (λ (z : Base). z.line) base ∙ h.line;
}

module _
    {D : Type 0} (disks : Disks D) where
  -- nothing was read
  pub stays_none : (cold : Cold) (disk : D) → StaysCold disks cold cold disk disk
  stays_none cold disk = record {
    base = refl;
    starts = refl;
    kept = all (disks.content disk) (λ (c : List ℕ). IsReadFrom c cold → IsReadFrom c cold) (λ c h. h);
    content_is = same (disks.content disk);
    crash = leaves_none disks.images disks.since disks.moment disk (disks.images disk) (λ c h. h);
    later = omega arith;
  }
    where
      all : (o : Option (List ℕ)) (P : List ℕ → Type 0) → ((c : List ℕ) → P c) → IfSome o P
      all (Some c) P h = h c
      all None P h = tt

      same : (o : Option (List ℕ)) → StillReads o o
      same (Some c) = refl
      same None = tt

  -- one reading and then another
  pub stays_both : (a b c : Cold) (d e f : D) → StaysCold disks a b d e
      → StaysCold disks b c e f → StaysCold disks a c d f
  stays_both a b c d e f h g = record {
    base = g.base ∙ h.base;
    starts = g.starts ∙ h.starts;
    kept = kept (disks.content e) (disks.content f) h.kept g.kept g.content_is;
    content_is = still (disks.content d) (disks.content e) (disks.content f) h.content_is g.content_is;
    crash = leaves_then disks.images disks.since disks.moment d e f (disks.images d) h.crash
        (leaves_more disks.images disks.since disks.moment e f (disks.images e) (disks.images d) h.crash.now g.crash);
    later = (let one = h.later in let two = g.later in omega arith);
  }
    where
      kept : (o p : Option (List ℕ)) → IfSome o (λ c_. IsReadFrom c_ a → IsReadFrom c_ b)
          → IfSome p (λ c_. IsReadFrom c_ b → IsReadFrom c_ c) → StillReads o p → IfSome p (λ c_. IsReadFrom c_ a → IsReadFrom c_ c)
      kept o (Some x) one two is = λ read. two (of_told o (λ c_. IsReadFrom c_ a → IsReadFrom c_ b) x is one read)
      kept o None one two is = tt

      still : (o p q : Option (List ℕ)) → StillReads o p → StillReads p q → StillReads o q
      still o p (Some x) one two = told_before o p x one two
      still o p None one two = tt

  -- what a call of the older records leaves
  pub stays_reads : {T : Type 0} (a b : Cold) (d e : D) (r : Result T ColdRefusal)
      → ReadsAtMost disks a b d e r → StaysCold disks a b d e
  stays_reads a b d e r h = record {
    base = h.base;
    starts = h.starts;
    kept = h.kept;
    content_is = h.outside.content_is;
    crash = h.outside.crash;
    later = h.cause.later;
  }

  -- at an earlier step the disk carried the table
  abbrev pub back : {k : Key} {cold : Cold} (b c : Cold) (e f : D) → StaysCold disks b c e f
      → CarriesTable (disks.content f) k cold → CarriesTable (disks.content e) k cold
  back b c e f g h = carried_on h (told_before (disks.content e) (disks.content f) h.image g.content_is h.is) refl refl h.read

  -- and at a later one it carries it for the pages that are held by then
  abbrev pub ahead : {k : Key} (a b c : Cold) (d e f : D) → StaysCold disks a b d e
      → StaysCold disks b c e f → CarriesTable (disks.content f) k a → CarriesTable (disks.content f) k b
  ahead a b c d e f h g t = carried_on t t.is h.base h.starts
      (of_told (disks.content e) (λ c_. IsReadFrom c_ a → IsReadFrom c_ b) t.image
      (told_before (disks.content e) (disks.content f) t.image g.content_is t.is) h.kept t.read)

  -- after all of them
  pub carried_last : {k : Key} (a b : Cold) (d e : D) → StaysCold disks a b d e
      → CarriesTable (disks.content d) k a → IfSome (disks.content e) (λ _. CarriesTable (disks.content e) k b)
  carried_last {k} a b d e g h = by (disks.content e) refl
    where
      by : (o : Option (List ℕ)) → disks.content e ≡ o → IfSome o (λ _. CarriesTable (disks.content e) k b)
      by (Some x) is =
          let was : disks.content d ≡ Some x = of_told (disks.content e) (λ c. disks.content d ≡ Some c) x is g.content_is in
          let same : x ≡ h.image = same_Some x h.image (sym was ∙ h.is) in
          carried_on h (is ∙ ap Some same) g.base g.starts
          (of_told (disks.content e) (λ c. IsReadFrom c a → IsReadFrom c b) h.image (is ∙ ap Some same) g.kept h.read)
      by None is = tt
