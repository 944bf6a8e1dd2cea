-- What a sink gets of a text that is written by pieces.
use Rattle.std.specs.Prelude.{ℕ, ◌≤◌, Result, IsErrOf}
use Rattle.fish_outside.specs.Causes.{Rose}
use Rattle.fish_report.specs.declared.writing.WriteRefusal.{WriteRefusal}
use Rattle.fish_report.specs.declared.writing.WriteRefusal.TheVariants.{Failed}

-- the count of the sink's faults didn't fall, and where the sink failed, it rose
pub record HasWriteCause {T : Type 0} (before now : ℕ) (result : Result T WriteRefusal) : Type 0 where
  pub later : before ≤ now
  pub failed : IsErrOf result Failed → Rose before now
