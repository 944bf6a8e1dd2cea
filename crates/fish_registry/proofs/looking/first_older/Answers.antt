-- Each lane is at an older version, or it is clear.
use Rattle.std.proofs.Common.{inl, inr, ap, ◌∙◌, ◌≡◌, arith}
use Rattle.fish_registry.proofs.Lanes.{clear_here, looks_once, older_here}
use Rattle.fish_rule.specs.Passes.{view}
use Rattle.fish_rule.specs.declared.view.View.{View}
use Rattle.fish_registry.proofs.looking.first_older.Goals.{else-word-ne0-via-then-word-ne0+else-word-waiting}
use Rattle.fish_registry.proofs.looking.first_older.Goals.{else-word-ne0-via-else-word-ne0}
use Rattle.fish_registry.proofs.looking.first_older.Goals as goal

pub returns-then-word-waiting-clause-looks : goal.returns-then-word-waiting-clause-looks
returns-then-word-waiting-clause-looks c =
    looks_once (view c.args.pass.now) _ _ c.args.waiting c.loop-lane.lane _ c.loop-lane.invariant.1
    c.check_lane-word.ensures.view

pub returns-then-word-waiting-clause-older : goal.returns-then-word-waiting-clause-older
returns-then-word-waiting-clause-older c =
    older_here (view c.args.pass.now) _ _ c.args.waiting c.loop-lane.lane _ c.loop-lane.invariant.1
    c.check_lane-word.ensures.view c.loop-lane.invariant.2 c.if-word-ne0.true c.if-word-waiting.true

pub loop-lane-preserved : goal.loop-lane-preserved
loop-lane-preserved c =
    let last = c.loop-lane-test.true in (
      c.check_lane-word.ensures.pass,
      looks_once (view c.args.pass.now) _ _ c.args.waiting c.loop-lane.lane _ c.loop-lane.invariant.1
          c.check_lane-word.ensures.view,
      clear_here (view c.args.pass.now) _ _ c.args.waiting c.loop-lane.lane _ c.loop-lane.invariant.1
          c.check_lane-word.ensures.view c.loop-lane.invariant.2
          (elim c.else-word-ne0.branch [
            | else-word-ne0-via-then-word-ne0+else-word-waiting w ↦ inr (omega (arith, w.if-word-waiting))
            | else-word-ne0-via-else-word-ne0 w ↦ inl (omega (arith, w.if-word-ne0))
          ]) (omega arith),
    )

-- a pass that is alone and out is still so after it looked at lanes, and so it finds no lane entered
pub returns-then-word-waiting-clause-alone : goal.returns-then-word-waiting-clause-alone
returns-then-word-waiting-clause-alone c alone outside =
    let frame = c.loop-lane.invariant.1.frame in
    let none : c.check_lane-word.result ≡ 0 = c.check_lane-word.ensures.alone
    (record {
      control = ap (λ (y : View). y.lane) frame ∙ alone.control;
      all = ap (λ (y : View). y.out) frame ∙ alone.all;
      idle = ap (λ (y : View). y.flight) frame ∙ alone.idle;
    }) (ap (λ (y : View). y.epoch) frame ∙ outside) in
    absurd (c.if-word-ne0.true none)
