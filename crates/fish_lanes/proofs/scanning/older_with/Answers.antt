-- The answer is one after what the disk has before the table.
use Rattle.fish_lanes.proofs.Fitting.{explained_ok, here_ok}
use Rattle.fish_rule.specs.Passes.{view}
use Rattle.fish_lanes.proofs.scanning.older_with.Goals as goal

pub returns-clause-has : goal.returns-clause-has
returns-clause-has g c = record { of = c.scan.ensures.pass; read = c.scan.ensures.defs }

pub returns-clause-reads : goal.returns-clause-reads
returns-clause-reads g c = (let e = c.scan.ensures in record { below = e.base; flusher = e.flusher; pages = e.reads })

pub returns-clause-scans : goal.returns-clause-scans
returns-clause-scans g c =
    let e = c.scan.ensures in
    record {
      explained = explained_ok (view c.args.pass.now) (view c.scan.new.pass) c.scan.new.defs.known c.args.ask.now c.scan.result e.explained
          e.opened;
      answer = here_ok (g.D.Disk.content c.scan.new.disk) c.args.log.now.key c.args.file.now.cold (view c.args.pass.now)
          (view c.scan.new.pass) c.scan.new.defs.known c.args.ask.now _ _ _ _ c.scan.result e.pass.about e.answer;
      refused = e.refused;
      fault = e.fault;
      whole = e.whole;
    }
