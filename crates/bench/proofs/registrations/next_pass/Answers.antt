-- The lane may be given out, and its pass is ready.
use Rattle.bench.proofs.Keeping.{kept_split}
use Rattle.bench.proofs.Splitting.{control_splits, right_enters, right_starts}
use Rattle.fish_rule.specs.Passes.{view}
use Rattle.bench.proofs.registrations.next_pass.Goals as goal

pub split_pass-requires-clause-can : goal.split_pass-requires-clause-can
split_pass-requires-clause-can c =
    control_splits c.args.top (view c.args.control.now) c.requires.kept.control c.requires.few.0 c.requires.few.1

pub returns-clause-ready : goal.returns-clause-ready
returns-clause-ready c =
    let control = c.requires.kept.control in
    let u = view c.split_pass.result in
    record {
      of = c.split_pass.ensures.pass;
      enter = right_enters c.args.top (view c.args.control.now) control u c.split_pass.ensures.right;
      start = right_starts c.args.top (view c.args.control.now) control u c.split_pass.ensures.right;
    }

pub returns-clause-kept : goal.returns-clause-kept
returns-clause-kept c =
    kept_split c.args.top c.args.log.now c.args.control.now _ c.args.registrar.now c.requires.kept c.split_pass.ensures.control
    c.split_pass.ensures.left
