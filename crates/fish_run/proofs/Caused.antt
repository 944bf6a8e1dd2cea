-- Why a run stopped, by the counts of faults of the outside.
use Rattle.std.proofs.Common.{◌≡◌, ◌≢◌, ◌≤◌, ◌⊎◌, ⊎_elim, ℕ, List, Option, None, Some, Result, Ok, Err, refl, ap, subst}
use Rattle.std.specs.Prelude.{IfErr, IfSome}
use Rattle.fish_outside.proofs.CauseLemmas.{Rose_earlier, Rose_later}
use Rattle.fish_outside.specs.Causes.{Rose}
use Rattle.fish_report.specs.declared.writing.WriteRefusal.{WriteRefusal}
use Rattle.fish_report.specs.declared.writing.WriteRefusal.TheVariants as write
use Rattle.fish_run.proofs.Faults.{well_of}
use Rattle.fish_run.specs.Faults.{FaultCounts, HasRunCause, IsCausedBy, write_fault}
use Rattle.fish_run.specs.within.Faults.{AreLater, IsInnerFault}
use Rattle.fish_run.specs.declared.fault.RunFault.{RunFault}
use Rattle.fish_run.specs.declared.fault.RunFault.TheVariants as fault

-- an item couldn't be written
pub caused_write : (a b : FaultCounts) (r : WriteRefusal) → (r ≡ write.Failed → Rose a.out b.out) → IsCausedBy a b (write_fault r)
caused_write a b write.Failed rose =
    record { input = λ is. absurd cc; output = λ is. rose refl; disk = λ is. absurd cc }
caused_write a b write.OutOfMemory rose =
    record { input = λ is. absurd cc; output = λ is. absurd cc; disk = λ is. absurd cc }

-- a file couldn't be read, or it was none of the two
pub caused_given : (a b : FaultCounts) (why : RunFault) → (why ≡ fault.Input → Rose a.host b.host) → why ≢ fault.Output
    → (why ≡ fault.Disk → Rose a.disk b.disk) → IsCausedBy a b why
caused_given a b why rose inner fell = record { input = rose; output = λ is. absurd (inner is); disk = fell }

-- it was none of the two
pub caused_inner : (a b : FaultCounts) (why : RunFault) → why ≢ fault.Input → why ≢ fault.Output → (why ≡ fault.Disk → Rose a.disk b.disk)
    → IsCausedBy a b why
caused_inner a b why other inner rose =
    record { input = λ is. absurd (other is); output = λ is. absurd (inner is); disk = rose }

-- what was the cause since a later moment was it since an earlier one
pub caused_since : (a b c : FaultCounts) (why : RunFault) → AreLater a b → IsCausedBy b c why → IsCausedBy a c why
caused_since a b c why h k = record {
  input = λ is. Rose_earlier a.host b.host c.host h.0 (k.input is);
  output = λ is. Rose_earlier a.out b.out c.out h.1.0 (k.output is);
  disk = λ is. Rose_earlier a.disk b.disk c.disk h.1.1 (k.disk is);
}

-- what is so of the error with which it ended is so of that one
caused_before : (content : Option (List ℕ)) (a b : FaultCounts) (ended : Result ℕ RunFault) (e : RunFault)
    → IfErr ended (HasRunCause content a b) → ended ≡ Err e → HasRunCause content a b e
caused_before content a b (Ok n) e was is = absurd (let bad : Ok n ≡ Err e = is in cc)
caused_before content a b (Err f) e was is = (let same : f ≡ e = cc in subst (HasRunCause content a b) same was)

-- the last item couldn't be written, or the fault came before it
pub caused_end : (content : Option (List ℕ)) (a b : FaultCounts) (out : ℕ) (ended : Result ℕ RunFault) (now : Option RunFault)
    → AreLater a b → b.out ≤ out → IfErr ended (HasRunCause content a b)
    → ((why : RunFault) → now ≡ Some why → IsInnerFault why → ended ≡ Err why)
    → (now ≡ Some fault.Output → (ended ≡ Err fault.Output) ⊎ Rose b.out out)
    → IfSome now (HasRunCause content a (record b { out = out }))
caused_end content a b out ended None later more was inner output = tt
caused_end content a b out ended (Some why) later more was inner output = record {
  caused = record {
    input = λ is. (caused_before content a b ended fault.Input was (inner fault.Input (ap Some is) tt)).caused.input refl;
    output = λ is. ⊎_elim (λ e. Rose_later a.out b.out out ((caused_before content a b ended fault.Output was e).caused.output refl) more)
        (λ rose. Rose_earlier a.out b.out out later.1.0 rose) (output (ap Some is));
    disk = λ is. (caused_before content a b ended fault.Disk was (inner fault.Disk (ap Some is) tt)).caused.disk refl;
  };
  whole = λ told. well_of why (λ n is. (caused_before content a b ended (fault.Damaged n) was
      (inner (fault.Damaged n) (ap Some is) tt)).whole told);
}
