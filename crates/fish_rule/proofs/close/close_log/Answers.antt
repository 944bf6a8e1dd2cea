-- What is closed for the pass as it ends is closed for the pass as it came.
use Rattle.fish_rule.proofs.laws.Alone.{closed_before}
use Rattle.fish_rule.specs.Passes.{view}
use Rattle.fish_rule.proofs.close.close_log.Goals as goal

pub returns-in-Ok-clause-log : goal.returns-in-Ok-clause-log
returns-in-Ok-clause-log c =
    closed_before (view c.args.control) (view c.read_log.new.control) c.remains_of.result c.read_log.ensures.on
    c.remains_of.ensures.closed
