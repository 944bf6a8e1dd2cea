-- Each round announces what the last one found, and loads the version again.
use Rattle.fish_epoch.proofs.Rounds.{first_round, may_announce, next_round, round_over}
use Rattle.fish_rule.specs.Passes.{view}
use Rattle.fish_epoch.proofs.entering.enter.Goals as goal

-- the first round
pub loop-found-init : goal.loop-found-init
loop-found-init c = record {
  of = c.load_version-found.ensures.pass;
  round = first_round (view c.args.pass.now) (view c.load_version-version.new.pass) (view c.announce.new.pass)
      (view c.load_version-found.new.pass) c.load_version-version.result c.load_version-found.result
      c.load_version-version.ensures.view c.load_version-version.ensures.rises c.announce.ensures.view
      c.load_version-found.ensures.view c.load_version-found.ensures.rises c.load_version-found.ensures.few;
}

-- what was found may be announced
pub announce-requires-in-loop-found-clause-view : goal.announce-requires-in-loop-found-clause-view
announce-requires-in-loop-found-clause-view c =
    let round = c.loop-found.invariant.round in
    may_announce (view c.args.pass.now) (view c.loop-found.pass) c.loop-found.found c.requires.idle round.keeps
    round.known

-- and every other round
pub loop-found-preserved : goal.loop-found-preserved
loop-found-preserved c = record {
  of = c.load_version-found-in-loop-found.ensures.pass;
  round = next_round (view c.args.pass.now) (view c.loop-found.pass) (view c.announce-in-loop-found.new.pass)
      (view c.load_version-found-in-loop-found.new.pass) c.loop-found.version c.loop-found.found
      c.load_version-found-in-loop-found.result c.loop-found.invariant.round c.loop-found-test.true
      c.announce-in-loop-found.ensures.view c.load_version-found-in-loop-found.ensures.view
      c.load_version-found-in-loop-found.ensures.rises c.load_version-found-in-loop-found.ensures.few;
}

-- the last one found what it announced
pub returns-clause-entered : goal.returns-clause-entered
returns-clause-entered c =
    round_over (view c.args.pass.now) (view c.loop-found.pass) c.loop-found.version c.loop-found.found
    c.loop-found.invariant.round c.loop-found-test.false
