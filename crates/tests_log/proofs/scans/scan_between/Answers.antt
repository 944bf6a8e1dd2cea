-- The pass is still out.
use Rattle.tests_log.proofs.Scanning.{ready_again}
use Rattle.tests_log.proofs.scans.scan_between.Goals as goal

pub returns-clause-ready : goal.returns-clause-ready
returns-clause-ready c =
    let u = c.scanned.new in
    ready_again c.args.log.now c.args.pass.now u.pass c.args.defs.now u.defs c.requires c.scanned.ensures.pass
    c.scanned.ensures.only c.scanned.ensures.defs
