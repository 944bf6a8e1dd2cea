-- A block begins.
use Rattle.fish_script.proofs.Steps.{takes_lanes}
use Rattle.fish_script.proofs.builder.ScriptBuilder.open_block.Goals as goal

pub returns-in-Outside-clause-taken : goal.returns-in-Outside-clause-taken
returns-in-Outside-clause-taken c ws h = takes_lanes ws c.args.self.now h c.in-Outside.is
