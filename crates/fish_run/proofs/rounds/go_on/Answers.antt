-- One more lane is done.
use Rattle.std.proofs.Common.{◌≡◌, ◌∙◌, Some, false, length, slice_get, sym, true, arith}
use Rattle.std.proofs.lemmas.Option.{slice_get_within}
use Rattle.std.specs.List.{list_any}
use Rattle.fish_lanes.specs.declared.lane.Lane.{Lane}
use Rattle.fish_feed.proofs.Lists.{get_at}
use Rattle.fish_run.proofs.Lists.{below_push}
use Rattle.fish_run.proofs.Stepping.{left_more}
use Rattle.fish_run.specs.within.Turning.{says_full}
use Rattle.fish_run.proofs.rounds.go_on.Goals as goal
use Rattle.fish_run.proofs.rounds.go_on.Goals.{else-some, then-some}

pub loop-lane-preserved : goal.loop-lane-preserved
loop-lane-preserved c =
    let lanes = c.args.lanes.now in
    let i = c.loop-lane.lane-index in
    let x : Lane = c.lane-item.result in
    let at : slice_get lanes i ≡ Some x = get_at lanes i x c.loop-lane-test.true c.lane-item.is in
    let none : length x.left ≡ 0 = (let len = c.len.ensures in let test = c.if-len-gt0.false in omega arith) in
    record {
      left = left_more lanes i x at none c.loop-lane.invariant.left;
      full = λ some. below_push (λ (y : Lane). list_any says_full y.items ≡ false) lanes i x at
          (elim c.if-some.branch [
            | then-some w ↦ sym w.is_full.ensures ∙ sym w.value-is ∙ c.if-is_full.false
            | else-some w ↦ absurd (let bad : true ≡ false = sym some ∙ w.if-some.false in cc)
          ]) (c.loop-lane.invariant.full some);
    }

pub returns-clause-done : goal.returns-clause-done
returns-clause-done c is i x at =
    c.loop-lane.invariant.left i x
    (let within = slice_get_within c.args.lanes.now i x at in omega (within, c.loop-lane-test.false, arith)) at

pub returns-clause-full : goal.returns-clause-full
returns-clause-full c is some i x at =
    c.loop-lane.invariant.full some i x
    (let within = slice_get_within c.args.lanes.now i x at in omega (within, c.loop-lane-test.false, arith)) at
