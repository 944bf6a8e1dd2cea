-- The record that is ready is placed, or its claim shut the pass.
use Rattle.std.proofs.Common.{◌≤◌, ℕ, sym, subst}
use Rattle.fish_epoch.proofs.Reading.{defs_later}
use Rattle.fish_ingest.proofs.IngestionStart.{has_started, is_full, learns_retired}
use Rattle.fish_ingest.proofs.Passing.{on_lane}
use Rattle.fish_ingest.specs.Refusal.{HasRefused}
use Rattle.fish_ingest.specs.declared.refusal.IngestRefusal.{IngestRefusal}
use Rattle.fish_rule.specs.Passes.{view}
use Rattle.fish_ingest.proofs.ingestion.start_parsed.Goals as goal

pub place-requires-clause-can : goal.place-requires-clause-can
place-requires-clause-can c = c.in_ok-prepared.ensures.ready.can

pub returns-in-Ok-clause-defs : goal.returns-in-Ok-clause-defs
returns-in-Ok-clause-defs c =
    defs_later (view c.enter_prepared.new.pass) (view c.place.new.pass) c.enter_prepared.new.defs
    (c.in-Ok.ensures.placed c.in_ok-prepared.ensures.ready.can).on.learns c.in_ok-prepared.ensures.defs

pub returns-in-Ok-clause-started : goal.returns-in-Ok-clause-started
returns-in-Ok-clause-started c =
    let r = c.in_ok-prepared.ensures.ready in
    has_started (view c.args.pass.now) (view c.enter_prepared.new.pass) c.args.parsed.form c.args.parsed.payload.now
    c.in_ok-prepared.prepared r c.in-Ok.pending (view c.place.new.pass) (c.in-Ok.ensures.placed r.can)

-- the claim that shut the pass
pub leave-requires-clause-idle : goal.leave-requires-clause-idle
leave-requires-clause-idle c =
    let shut = c.in-Err.ensures.shut c.in_ok-prepared.ensures.ready.can in
    record {
      live = subst (λ (z : ℕ). 1 ≤ z) (sym (on_lane shut.on)) c.in_ok-prepared.ensures.pass.live;
      idle = shut.idle;
    }

pub returns-in-Err-clause-defs : goal.returns-in-Err-clause-defs
returns-in-Err-clause-defs c =
    let u = view c.place.new.pass in
    let d = c.enter_prepared.new.defs in
    defs_later u (view c.leave.new.pass) d (learns_retired u (view c.leave.new.pass) c.leave.ensures.view)
    (defs_later (view c.enter_prepared.new.pass) u d (c.in-Err.ensures.shut c.in_ok-prepared.ensures.ready.can).on.learns
    c.in_ok-prepared.ensures.defs)

pub returns-in-Err-clause-refused : goal.returns-in-Err-clause-refused
returns-in-Err-clause-refused c =
    let v = view c.args.pass.now in
    let r = c.in_ok-prepared.ensures.ready in
    subst (λ (e : IngestRefusal). HasRefused v c.args.parsed.form c.args.parsed.payload.now e (view c.leave.new.pass))
    (sym c.from.ensures)
    (is_full v (view c.enter_prepared.new.pass) c.args.parsed.form c.args.parsed.payload.now c.in_ok-prepared.prepared r
    c.in-Err.shut (view c.place.new.pass) (view c.leave.new.pass) (c.in-Err.ensures.shut r.can) c.leave.ensures.view)
