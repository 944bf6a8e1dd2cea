-- The version at which the pass is entered is the start's or a later one.
use Rattle.fish_rule.proofs.laws.Versions.{entered_from}
use Rattle.fish_rule.specs.Passes.{view}
use Rattle.tests_log.proofs.definitions.expect_read.Goals as goal

pub refresh-requires-clause-from : goal.refresh-requires-clause-from
refresh-requires-clause-from g c =
    let pass = c.enter-version.ensures.pass in
    entered_from c.args.log.now.key (view c.enter-version.new.pass) c.enter-version.result pass.about pass.stands
    c.enter-version.ensures.entered.epoch
