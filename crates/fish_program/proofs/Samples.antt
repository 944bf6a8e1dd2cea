-- A sample that failed ends by its fault.
use Rattle.std.proofs.Common.{◌≡◌, ℕ, List, [], refl}
use Rattle.std.specs.Prelude.{Option, None, Err, IsErrOf}
use Rattle.fish_outside.proofs.ContentLemmas.{Gained_refl}
use Rattle.fish_rule.specs.declared.close.Remains.{Remains}
use Rattle.fish_sample.specs.Printed.{HasPrintedSome}
use Rattle.fish_sample.specs.declared.printing.SampleFault.{SampleFault}
use Rattle.fish_sample.specs.declared.printing.SampleFault.TheVariants as sampled
use Rattle.fish_program.specs.Sample.{EndsSample, sample_fault}
use Rattle.fish_program.specs.declared.outcome.Outcome.{Outcome}

-- nothing was written where memory ran out, and a first part where the output failed
pub ends_by : (number : ℕ) (old new : Option (List ℕ)) (fault : SampleFault) (o : Outcome)
    → o.fault ≡ sample_fault fault → o.report.items ≡ [] → o.remains ≡ None
    → (IsErrOf {T = Remains} {E = SampleFault} (Err fault) sampled.Memory → new ≡ old)
    → (IsErrOf {T = Remains} {E = SampleFault} (Err fault) sampled.Output → HasPrintedSome number old new)
    → EndsSample number old new o o.fault
ends_by number old new sampled.Memory o is report remains memory output =
    rw is (record { written = rw (memory refl) (Gained_refl old); report = report; remains = remains })
ends_by number old new sampled.Output o is report remains memory output =
    rw is (record { printed = output refl; report = report; remains = remains })
