-- The control pass and its registrar after a call of the registrar.
use Rattle.std.proofs.Common.{◌≡◌, ◌∙◌, ap, arith}
use Rattle.fish_epoch.proofs.Reading.{defs_later}
use Rattle.fish_epoch.specs.declared.definitions.Defs.{Defs}
use Rattle.fish_ingest.specs.Ingestion.{CanIngest}
use Rattle.fish_registry.proofs.Changing.{learns_changes}
use Rattle.fish_registry.proofs.Knowing.{knows_on}
use Rattle.fish_registry.specs.Changing.{Changes}
use Rattle.fish_registry.specs.Knowing.{Knows}
use Rattle.fish_registry.specs.declared.registrar.Registrar.{Registrar}
use Rattle.fish_rule.specs.Logs.{Learns}
use Rattle.fish_rule.specs.Passes.{IsPassOf, view}
use Rattle.fish_rule.specs.declared.table.Log.{Log}
use Rattle.fish_rule.specs.declared.table.Pass.{Pass}
use Rattle.fish_rule.specs.declared.view.View.{View}
use Rattle.fish_scan.specs.Scans.{OnlyScans}
use Rattle.tests_log.specs.Registering.{IsBeside, IsKept, IsWorking}

-- the pass isn't entered, as before
pub kept_on : (log : Log) (p q : Pass) (r s : Registrar) → IsKept log p r → IsPassOf log q → Knows (view q) s
    → Changes (view p) (view q) → IsKept log q s
kept_on log p q r s h of knows changes =
    record { of = of; knows = knows; outside = ap (λ (z : View). z.epoch) changes.frame ∙ h.outside }

-- and it may ingest as before: what was learned stays so
pub working_on : (log : Log) (p q : Pass) (r s : Registrar) (defs : Defs) → IsWorking log p r defs → IsKept log q s
    → Changes (view p) (view q) → IsWorking log q s defs
working_on log p q r s defs h kept changes =
    let control = kept.knows.control in
    record {
      kept = kept;
      ready = record {
        of = kept.of;
        start = record { live = omega arith; outside = kept.outside };
        read = defs_later (view p) (view q) defs.known (learns_changes (view p) (view q) changes) h.ready.read;
      };
    }

-- a record more changes nothing that the registrar knows
pub working_stored : (log : Log) (p q : Pass) (r : Registrar) (defs : Defs) → IsKept log p r → CanIngest log q defs
    → (view q).lane ≡ (view p).lane → (view q).rows ≡ (view p).rows → (view q).control_words ≡ (view p).control_words
    → (view q).round ≡ (view p).round → Learns (view p) (view q) → IsWorking log q r defs
working_stored log p q r defs h ready lane rows control_words round learns = record {
  kept = record {
    of = ready.of;
    knows = knows_on (view p) (view q) r lane rows control_words round learns h.knows;
    outside = ready.start.outside;
  };
  ready = ready;
}

-- the lanes and the record in flight are as before
pub beside_on : (log : Log) (p q : Pass) (r s : Registrar) → IsBeside log p r → IsKept log q s
    → Changes (view p) (view q) → IsBeside log q s
beside_on log p q r s h kept changes = record {
  kept = kept;
  control = ap (λ (z : View). z.lane) changes.frame ∙ h.control;
  idle = ap (λ (z : View). z.flight) changes.frame ∙ h.idle;
  out = ap (λ (z : View). z.out) changes.frame ∙ h.out;
}

-- ---- after a scan, once the pass has left

-- the registrar keeps what it keeps
pub kept_scanned : (log : Log) (p q : Pass) (r : Registrar) (defs : Defs) → IsKept log p r → CanIngest log q defs
    → OnlyScans (view p) (view q) → IsKept log q r
kept_scanned log p q r defs h ready only = record {
  of = ready.of;
  knows = knows_on (view p) (view q) r (ap (λ (z : View). z.lane) only.frame) (ap (λ (z : View). z.rows) only.frame)
      (ap (λ (z : View). z.control_words) only.frame) (ap (λ (z : View). z.round) only.frame) only.learns h.knows;
  outside = ready.start.outside;
}

-- and the pass may ingest
pub working_scanned : (log : Log) (p q : Pass) (r : Registrar) (defs : Defs) → IsKept log p r → CanIngest log q defs
    → OnlyScans (view p) (view q) → IsWorking log q r defs
working_scanned log p q r defs h ready only =
    record { kept = kept_scanned log p q r defs h ready only; ready = ready }

-- the lanes and the record in flight are as before
pub beside_scanned : (log : Log) (p q : Pass) (r : Registrar) (defs : Defs) → IsBeside log p r → CanIngest log q defs
    → OnlyScans (view p) (view q) → IsBeside log q r
beside_scanned log p q r defs h ready only = record {
  kept = kept_scanned log p q r defs h.kept ready only;
  control = ap (λ (z : View). z.lane) only.frame ∙ h.control;
  idle = ap (λ (z : View). z.flight) only.frame ∙ h.idle;
  out = ap (λ (z : View). z.out) only.frame ∙ h.out;
}
