-- The boundary that waited, and the end.
use Rattle.fish_lanes.proofs.Ends.{end_knows, end_start}
use Rattle.fish_lanes.proofs.Single.{alone_changes}
use Rattle.fish_rule.specs.Passes.{view}
use Rattle.fish_lanes.proofs.block.end_block.Goals as goal

pub returns-clause-can : goal.returns-clause-can
returns-clause-can c =
    let p = view c.find_last-bound.new.pass in
    let t = view c.settle-to.new.pass in
    let can = c.find_last-bound.ensures.can in
    record {
      of = c.settle-to.ensures.pass;
      start = end_start p t c.settle-to.ensures.settles can.start;
      knows = end_knows p t c.find_last-bound.new.registrar c.settle-to.ensures.settles can.knows;
    }

pub returns-clause-ended : goal.returns-clause-ended
returns-clause-ended c = record {
  bound = view c.find_last-bound.new.pass;
  changes = c.find_last-bound.ensures.changes;
  found = c.find_last-bound.ensures.found;
  unset = c.find_last-bound.ensures.settled;
  stands = c.find_last-bound.ensures.can.of.stands;
  knows = c.find_last-bound.ensures.can.knows;
  settles = c.settle-to.ensures.settles;
  rises = c.settle-to.ensures.rises;
  settled = c.settle-to.ensures.settled;
  count = c.settle-to.result.count;
  tail = c.settle-to.ensures.tail;
  ends = c.settle-to.ensures.ends (alone_changes (view c.args.control.now) (view c.find_last-bound.new.pass)
      c.find_last-bound.ensures.changes c.requires.alone);
}
