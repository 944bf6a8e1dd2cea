-- The next lane may be given out, its pass is ready, and so is the control pass at the end.
use Rattle.std.proofs.Common.{All, sym, subst, arith}
use Rattle.std.proofs.lemmas.List.Elements.{All-push}
use Rattle.bench.proofs.Splitting.{
  control_enters,
  control_splits,
  control_starts,
  left_controls,
  right_enters,
  right_starts,
}
use Rattle.bench.specs.Opening.{IsReady}
use Rattle.fish_rule.specs.Passes.{view}
use Rattle.bench.proofs.opening.passes_of.Goals as goal

pub split_pass-requires-clause-can : goal.split_pass-requires-clause-can
split_pass-requires-clause-can c =
    let counted = c.loop-number.auto.number in
    let inside = c.loop-number-test.true in
    let few = c.number-number-end.ensures in
    control_splits c.loop-number.number (view c.loop-number.control) c.loop-number.invariant.control (omega arith)
    (omega arith)

pub loop-number-preserved : goal.loop-number-preserved
loop-number-preserved c =
    let log = c.args.log.now in
    let top = c.loop-number.number in
    let v = view c.loop-number.control in
    let before = c.loop-number.invariant in
    let split = c.split_pass in
    let u = view split.result in
    let ready : IsReady log split.result = record {
      of = split.ensures.pass;
      enter = right_enters top v before.control u split.ensures.right;
      start = right_starts top v before.control u split.ensures.right;
    } in
    let pushed = All-push (IsReady log) c.loop-number.passes.items split.result before.ready ready in
    record {
      of = split.ensures.control;
      control = left_controls top v before.control (view split.new.control) split.ensures.left;
      ready = subst (All (IsReady log)) (sym c.in_ok-push.ensures.items) pushed;
    }

pub returns : goal.returns
returns c =
    let log = c.args.log.now in
    let last = c.loop-number.control in
    let before = c.loop-number.invariant in
    let ready : IsReady log last = record {
      of = before.of;
      enter = control_enters c.loop-number.number (view last) before.control;
      start = control_starts c.loop-number.number (view last) before.control;
    } in
    let pushed = All-push (IsReady log) c.loop-number.passes.items last before.ready ready in
    subst (All (IsReady log)) (sym c.in_ok-push-2.ensures.items) pushed
