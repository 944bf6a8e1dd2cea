-- The pass entered, and read of the registry; where memory was short, it left.
use Rattle.fish_epoch.proofs.Reading.{defs_later}
use Rattle.fish_ingest.proofs.IngestionStart.{can_place_for, learns_retired, not_claimed_left}
use Rattle.fish_rule.specs.Passes.{view}
use Rattle.fish_ingest.proofs.ingestion.enter_prepared.Goals as goal

pub prepare_at-requires-clause-defs : goal.prepare_at-requires-clause-defs
prepare_at-requires-clause-defs c =
    defs_later (view c.args.pass.now) (view c.enter-version.new.pass) c.args.defs.now
    c.enter-version.ensures.entered.keeps.learns c.requires.defs

pub returns-in-Ok-clause-ready : goal.returns-in-Ok-clause-ready
returns-in-Ok-clause-ready c =
    can_place_for (view c.args.pass.now) (view c.enter-version.new.pass) (view c.prepare_at.new.pass) c.enter-version.result
    c.enter-version.ensures.entered c.prepare_at.ensures.reads c.args.parsed.form c.args.parsed.payload.now c.in-Ok.prepared
    c.requires.pass.stands c.requires.out c.requires.unshut c.in-Ok.ensures.prepared

-- what was read stays read as the pass leaves
pub returns-in-Err-clause-defs : goal.returns-in-Err-clause-defs
returns-in-Err-clause-defs c =
    let b = view c.prepare_at.new.pass in
    let u = view c.leave.new.pass in
    defs_later b u c.prepare_at.new.defs (learns_retired b u c.leave.ensures.view) c.prepare_at.ensures.defs

pub returns-in-Err-clause-refused : goal.returns-in-Err-clause-refused
returns-in-Err-clause-refused c =
    not_claimed_left (view c.args.pass.now) (view c.enter-version.new.pass) (view c.prepare_at.new.pass)
    (view c.leave.new.pass) c.requires.pass.stands c.requires.out c.enter-version.ensures.entered.keeps
    c.prepare_at.ensures.reads c.leave.ensures.view
