-- The definitions are those of the version, or those of before.
use Rattle.std.proofs.Common.{sym, subst, arith}
use Rattle.fish_epoch.proofs.Reading.{defs_later}
use Rattle.fish_epoch.specs.Definitions.{IsKnownOf}
use Rattle.fish_epoch.specs.declared.definitions.Known.{Known}
use Rattle.fish_ingest.proofs.IngestionStart.{are_defs}
use Rattle.fish_ingest.specs.Preparation.{AreDefs}
use Rattle.fish_rule.proofs.laws.Versions.{version_from}
use Rattle.fish_rule.specs.Passes.{view}
use Rattle.fish_ingest.proofs.preparation.prepare_at.Goals as goal

pub refresh-requires-clause-from : goal.refresh-requires-clause-from
refresh-requires-clause-from c =
    let pass = c.requires.pass in
    let from = version_from c.args.log.now.key (view c.args.pass.now) pass.about pass.live pass.stands in
    let known = c.requires.version.0 in
    omega arith

pub returns-in_err-refresh-clause-defs : goal.returns-in_err-refresh-clause-defs
returns-in_err-refresh-clause-defs c =
    let u = view c.refresh.new.pass in
    subst (λ (d : Known). IsKnownOf u d) (sym c.in_err-refresh.ensures.refused)
    (defs_later (view c.args.pass.now) u c.args.defs.now c.refresh.ensures.reads.extends.learns c.requires.defs)

pub prepare-requires-clause-defs : goal.prepare-requires-clause-defs
prepare-requires-clause-defs c = subst AreDefs (sym c.active.ensures)
    (are_defs (view c.refresh.new.pass) c.refresh.new.self c.refresh.ensures.pass.stands c.in_ok-refresh.ensures.read)
