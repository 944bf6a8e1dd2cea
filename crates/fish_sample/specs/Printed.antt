-- What a sample leaves and prints.
use Rattle.std.specs.Prelude.{ℕ, ◌≡◌, List, Option, true}
use Rattle.fish_outside.specs.Content.{Gained, GainedPart}
use Rattle.fish_rule.specs.declared.close.Remains.{Remains}
use Rattle.fish_sample.specs.Logs.{IsSampleLog}
use Rattle.fish_sample.specs.Sample.{AreDefined, Definitions, summary_text}

-- the whole summary was written, by the definitions that the sources are, and the log has the records, each lane's its
-- share
pub record HasPrinted (number : ℕ) (old new : Option (List ℕ)) (remains : Remains) : Type 0 where
  pub definitions : Definitions
  pub defined : AreDefined definitions
  pub written : Gained old new (summary_text definitions number)
  pub opened : remains.opened ≡ true
  pub base : remains.base ≡ 0
  pub log : IsSampleLog number remains.log

-- or a first part of it
pub record HasPrintedSome (number : ℕ) (old new : Option (List ℕ)) : Type 0 where
  pub definitions : Definitions
  pub defined : AreDefined definitions
  pub written : GainedPart old new (summary_text definitions number)
