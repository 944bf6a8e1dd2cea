-- A look that tells of a void or a record settles one number more; at any other the numbers stop.
use Rattle.fish_rule.proofs.laws.Alone.{alone_later}
use Rattle.fish_rule.specs.Passes.{view}
use Rattle.fish_walk.proofs.Looking.{end_told, ends_by, look_looks, looked_both, mark_told, settled_more}
use Rattle.fish_walk.proofs.Looking.{settled_still, stops_by, unknown_end}
use Rattle.fish_walk.specs.Settling.{IsEnd, IsMark}
use Rattle.fish_walk.proofs.prefix.settled_up_to.Goals as goal

-- looks were all that was made
pub returns-in-Unfinished-clause-looked : goal.returns-in-Unfinished-clause-looked
returns-in-Unfinished-clause-looked c =
    let t = c.look.ensures.view in
    looked_both _ _ _ c.loop-number.invariant.looked (look_looks _ _ _ t.0 t.1 t.2)

-- the numbers before the last look stay settled
pub returns-in-Unfinished-clause-settled : goal.returns-in-Unfinished-clause-settled
returns-in-Unfinished-clause-settled c =
    let t = c.look.ensures.view in
    settled_still (view c.loop-number.pass) _ c.args.first c.loop-number.number (look_looks _ _ _ t.0 t.1 t.2)
    c.loop-number.invariant.settled

-- the last look told of no void and no record
pub returns-in-Unfinished-clause-stops : goal.returns-in-Unfinished-clause-stops
returns-in-Unfinished-clause-stops c =
    let t = c.look.ensures.view in
    stops_by IsEnd _ _ _ _ t.0 t.1 c.args.count c.loop-number.invariant.looked t.2
    (end_told c.look.result t.1 t.3 c.in-Unfinished.is) c.loop-number-test.true
    (let sees = c.look.ensures.sees in unknown_end (view c.args.pass.now) (view c.loop-number.pass) (view c.look.new.pass)
    c.loop-number.number t.0 t.1 sees.0 c.look.result c.loop-number.invariant.looked t.2 t.3 c.look.ensures.pass.stands sees.1
    sees.2 c.in-Unfinished.is)

-- a pass that is alone sees no unfinished number
pub returns-in-Unfinished-clause-alone : goal.returns-in-Unfinished-clause-alone
returns-in-Unfinished-clause-alone c alone =
    let t = c.look.ensures.view in
    let ne = c.look.ensures.alone (alone_later _ _ c.loop-number.invariant.looked.extends alone) in
    stops_by IsMark _ _ _ _ t.0 t.1 c.args.count c.loop-number.invariant.looked t.2
    (mark_told c.look.result t.1 t.3 ne c.in-Unfinished.is) c.loop-number-test.true
    (let sees = c.look.ensures.sees in unknown_end (view c.args.pass.now) (view c.loop-number.pass) (view c.look.new.pass)
    c.loop-number.number t.0 t.1 sees.0 c.look.result c.loop-number.invariant.looked t.2 t.3 c.look.ensures.pass.stands sees.1
    sees.2 c.in-Unfinished.is)

-- so the log ends there
pub returns-in-Unfinished-clause-ends : goal.returns-in-Unfinished-clause-ends
returns-in-Unfinished-clause-ends c alone =
    let t = c.look.ensures.view in
    let ne = c.look.ensures.alone (alone_later _ _ c.loop-number.invariant.looked.extends alone) in
    ends_by _ _ _ t.0 t.1 c.args.count c.look.result t.2 t.3 ne c.in-Unfinished.is c.loop-number-test.true

-- the last look told of a void or a record
pub loop-number-preserved : goal.loop-number-preserved
loop-number-preserved c =
    let t = c.look.ensures.view in
    record {
      of = c.look.ensures.pass;
      looked = looked_both _ _ _ c.loop-number.invariant.looked (look_looks _ _ _ t.0 t.1 t.2);
      settled = settled_more (view c.loop-number.pass) _ c.args.first c.loop-number.number t.0 t.1 c.look.result t.2
          t.3 c.in-Void.is c.loop-number.invariant.settled;
    }
