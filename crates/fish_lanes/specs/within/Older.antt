-- What a scan on both sides of the table's base answers.
use Rattle.std.specs.Prelude.{ℕ, IfErr, IfOk, List, Option, Result}
use Rattle.fish_cold.specs.Carries.{CarriesTable}
use Rattle.fish_cold.specs.declared.cold.Cold.{Cold}
use Rattle.fish_epoch.specs.declared.definitions.Known.{Known}
use Rattle.fish_lanes.specs.within.Doing.{IsAnswerHere, IsExplainedAnswer}
use Rattle.fish_rule.specs.declared.view.Key.{Key}
use Rattle.fish_rule.specs.declared.view.View.{View}
use Rattle.fish_scan.specs.Across.{IsRefusedWith, IsUndamagedScan}
use Rattle.fish_scan.specs.Colder.{IsScanFault}
use Rattle.fish_scan.specs.declared.ask.Answer.{Answer}
use Rattle.fish_scan.specs.declared.ask.Ask.{Ask}
use Rattle.fish_scan.specs.declared.refusal.ScanRefusal.{ScanRefusal}

-- an answer after what a disk with this content has before the table; or why there is none: a fault of the disk only
-- where its count of faults rose, and damage only where it doesn't carry the table
pub record ScansOlder (content : Option (List ℕ)) (k : Key) (cold : Cold) (before now : ℕ) (v u : View) (known : Known)
    (ask : Ask) (result : Result Answer ScanRefusal) : Type 0 where
  pub explained : IfOk result (IsExplainedAnswer v u known ask)
  pub answer : IfOk result (IsAnswerHere content k cold v u known ask)
  pub refused : IfErr result (IsRefusedWith v u known ask)
  pub fault : IsScanFault before now result
  pub whole : CarriesTable content k cold → IfErr result IsUndamagedScan
