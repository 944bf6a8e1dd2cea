-- What a read of a file up to so many bytes gives.
use Rattle.std.specs.Prelude.{◌≡◌, ℕ, ◌≤◌, List, length, take, Option, Some, Result, IsErrOf}
use Rattle.fish_outside.specs.Causes.{Rose}
use Rattle.fish_outside.specs.Content.{Files, Took}
use Rattle.fish_outside.specs.declared.fault.FeedRefusal.{FeedRefusal}
use Rattle.fish_outside.specs.declared.fault.FeedRefusal.TheVariants.{Failed}

-- at most so many bytes were taken from the front of what was left
abbrev pub TookAtMost : ℕ → Option (List ℕ) → Option (List ℕ) → Type 0
TookAtMost most old new = (bytes : List ℕ) × (length bytes ≤ most) × Took old new bytes

-- the bytes are the first so many of the file with this name
abbrev pub ReadsFile : ℕ → List ℕ → Files → List ℕ → Type 0
ReadsFile most name files bytes = (b : List ℕ) × (files name ≡ Some b) × (bytes ≡ take most b)

-- the count of faults didn't fall, and where the read failed, it rose
pub record HasReadCause {T : Type 0} (before now : ℕ) (result : Result T FeedRefusal) : Type 0 where
  pub later : before ≤ now
  pub failed : IsErrOf result Failed → Rose before now
