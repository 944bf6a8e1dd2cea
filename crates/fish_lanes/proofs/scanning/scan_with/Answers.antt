-- The pass's own loads are those that the answer's work allows.
use Rattle.fish_lanes.proofs.Single.{loads_own}
use Rattle.fish_rule.specs.Passes.{view}
use Rattle.fish_lanes.proofs.scanning.scan_with.Goals as goal

pub returns-clause-loads : goal.returns-clause-loads
returns-clause-loads g c = loads_own (view c.args.pass.now) (view c.scan.new.pass) c.args.ask.now.value c.new-loads.result
    c.scan.new.loads c.scan.result c.scan.ensures.loads

pub returns-clause-has : goal.returns-clause-has
returns-clause-has g c = record { of = c.scan.ensures.pass; read = c.scan.ensures.defs }
