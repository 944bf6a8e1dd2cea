-- How a `sample` ends.
use Rattle.std.specs.Prelude.{◌≡◌, ℕ, List, [], Option, Some, None, false}
use Rattle.fish_outside.specs.Content.{Gained}
use Rattle.fish_rule.specs.declared.close.Remains.{Remains}
use Rattle.fish_sample.specs.Printed.{HasPrinted, HasPrintedSome}
use Rattle.fish_sample.specs.declared.printing.SampleFault.{SampleFault}
use Rattle.fish_sample.specs.declared.printing.SampleFault.TheVariants as sampled
use Rattle.fish_program.specs.declared.fault.Fault.{Fault}
use Rattle.fish_program.specs.declared.fault.Fault.TheVariants as fault
use Rattle.fish_program.specs.declared.outcome.Outcome.{Outcome}

-- what a fault of a sample ends the run by
abbrev pub sample_fault : SampleFault → Fault
sample_fault sampled.Memory = fault.Memory
sample_fault sampled.Output = fault.Output

-- all was done: the summary was written, and the log is what is left
pub record HasSampled (number : ℕ) (old new : Option (List ℕ)) (o : Outcome) : Type 0 where
  pub refused : o.refused ≡ false
  pub report : o.report.items ≡ []
  pub remains : Remains
  pub remains_is : o.remains ≡ Some remains
  pub printed : HasPrinted number old new remains

-- a first part of the summary was written
pub record HasSampledSome (number : ℕ) (old new : Option (List ℕ)) (o : Outcome) : Type 0 where
  pub printed : HasPrintedSome number old new
  pub report : o.report.items ≡ []
  pub remains : o.remains ≡ None

-- nothing was written
pub record HasNoSample (old new : Option (List ℕ)) (o : Outcome) : Type 0 where
  pub written : Gained old new []
  pub report : o.report.items ≡ []
  pub remains : o.remains ≡ None

-- by each fault
abbrev pub EndsSample : ℕ → Option (List ℕ) → Option (List ℕ) → Outcome → Fault → Type 0
EndsSample number old new o fault.None = HasSampled number old new o
EndsSample number old new o fault.Output = HasSampledSome number old new o
EndsSample number old new o fault.Memory = HasNoSample old new o
EndsSample number old new o fault.Input = ⊥
EndsSample number old new o (fault.Usage cause) = ⊥
EndsSample number old new o (fault.Script refusal) = ⊥
EndsSample number old new o (fault.Store refusal) = ⊥
EndsSample number old new o fault.Disk = ⊥
