-- A number below the first that was looked at is settled.
use Rattle.std.proofs.Common.{refl, arith, length}
use Rattle.std.proofs.lemmas.Option.{slice_get_read}
use Rattle.fish_rule.specs.Passes.{view}
use Rattle.fish_scan.proofs.Reaching.{entry_unmarked, looked_there}
use Rattle.fish_walk.proofs.Looking.{look_looks, looked_self}
use Rattle.fish_scan.proofs.reach.seen_at.Goals as goal

pub look-requires-clause-view : goal.look-requires-clause-view
look-requires-clause-view c =
    let h = c.requires.reached in
    let base = c.requires.base in
    let from = c.requires.from in
    let counted = h.counted in
    let to = c.requires.to in
    record { above = omega arith; below = omega arith }

pub returns-then-number-reach-clause-only : goal.returns-then-number-reach-clause-only
returns-then-number-reach-clause-only c =
    let t = c.look.ensures.view in
    look_looks _ _ c.args.number t.0 t.1 t.2

pub returns-then-number-reach-clause-unmarked : goal.returns-then-number-reach-clause-unmarked
returns-then-number-reach-clause-unmarked c =
    let h = c.requires.reached in
    let below = h.below c.args.number c.requires.base c.requires.from c.if-number-reach.true in
    let settled = h.settled in
    (entry_unmarked c.look.result (c.look.ensures.settled (omega arith))).0

pub returns-then-number-reach-clause-unfinished : goal.returns-then-number-reach-clause-unfinished
returns-then-number-reach-clause-unfinished c is =
    let h = c.requires.reached in
    let below = h.below c.args.number c.requires.base c.requires.from c.if-number-reach.true in
    let settled = h.settled in
    absurd ((entry_unmarked c.look.result (c.look.ensures.settled (omega arith))).1 is)

pub returns-then-number-reach-clause-finished : goal.returns-then-number-reach-clause-finished
returns-then-number-reach-clause-finished c some among =
    let t = c.requires.reached.seen.open_ones c.args.number among in
    let position = t.1 in
    let below = c.if-number-reach.true in
    absurd (omega arith)

-- what was found at the number's place among the looks
pub returns : goal.returns
returns c =
    let h = c.requires.reached in
    let first = c.if-number-reach.false in
    let many = h.many in
    let to = c.requires.to in
    let told = looked_there (view c.args.pass.now) c.args.reach.now c.args.number c.index.result.now h (omega arith)
    (slice_get_read c.args.reach.now.looks.items (length c.args.reach.now.looks.items) _ _ refl (omega arith) c.index.ensures) in
    record {
      pass = c.requires.pass;
      only = looked_self (view c.args.pass.now);
      seen = told.0;
      unmarked = told.1;
      unfinished = told.2;
      finished = told.3;
    }
