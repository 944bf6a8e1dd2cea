-- The pass is still out.
use Rattle.tests_log.proofs.Scanning.{ready_again}
use Rattle.tests_log.proofs.scans.explain_between.Goals as goal

pub returns-clause-ready : goal.returns-clause-ready
returns-clause-ready c =
    let u = c.explain.new in
    ready_again c.args.log.now c.args.pass.now u.pass c.args.defs.now u.defs c.requires c.explain.ensures.pass
    c.explain.ensures.only.scans c.explain.ensures.defs

pub returns-clause-only : goal.returns-clause-only
returns-clause-only c = c.explain.ensures.only.scans
