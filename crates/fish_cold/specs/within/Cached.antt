-- Which pages are held of the older records, and what the calls do to them. What private clauses need of it.
use Rattle.std.specs.Option.{option_or}
use Rattle.std.specs.Prelude.{Err, IfErr, IfOk, IfSome, OnErr, OnOk}
use Rattle.std.specs.Prelude.{ℕ, ◌≡◌, ◌⊎◌, ◌↔◌, Option, Some, None, Result, Ok}
use Rattle.fish_cold.specs.Cached.{HoldsPage, Uses, held_in}
use Rattle.fish_cold.specs.Caching.{HasDiskCause, IsPageIn, OnlyReads}
use Rattle.fish_cold.specs.within.Caching.{IsColdUndamaged}
use Rattle.fish_cold.specs.declared.cold.Cold.{Cold}
use Rattle.fish_cold.specs.declared.page.Page.{Page}
use Rattle.fish_cold.specs.declared.refusal.ColdRefusal.TheVariants.{OutOfMemory}
use Rattle.fish_cold.specs.declared.refusal.ColdRefusal.{ColdRefusal}
use Rattle.fish_disk.specs.declared.disk.Disk.{Ghosts as Disks}

-- ---- what a call does beside its answer

-- the page was brought from the disk, or is held and the disk wasn't touched
pub record Brings {D : Type 0} (disks : Disks D) (number : ℕ) (cold : Cold) (old new : D) (result : Result
    (Option Page) ColdRefusal) : Type 0 where
  pub held : IfOk result (λ o. (o ≡ None) ↔ HoldsPage cold number)
  pub fresh : IfOk result (λ o. IfSome o (λ p. IfSome (disks.content new) (λ c. IsPageIn cold.base.line cold.starts c
      number p)))
  pub untouched : HoldsPage cold number → (new ≡ old) × (result ≡ Ok None)
  pub outside : OnlyReads disks old new
  pub cause : HasDiskCause (disks.faults old) (disks.faults new) result
  pub whole : IfErr result IsColdUndamaged

-- what was read of the page is answered, and then the page was used; or memory ran out; where nothing is answered
-- nothing changed
pub record Answered {T : Type 0} (number : ℕ) (fresh : Option Page) (old new : Cold)
    (read result : Result T ColdRefusal) : Type 0 where
  pub same : IfOk result (λ x. read ≡ Ok x)
  pub err : IfErr result (λ e. (read ≡ Err e) ⊎ (e ≡ OutOfMemory))
  pub used : OnOk result ((p : Page) → Some p ≡ option_or fresh (held_in old number) → Uses number p old new)
  pub refused : OnErr result (new ≡ old)
