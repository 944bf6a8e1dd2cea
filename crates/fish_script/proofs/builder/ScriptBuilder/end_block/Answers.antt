-- The block ends.
use Rattle.std.proofs.Common.{arith}
use Rattle.fish_script.proofs.Steps.{takes_end}
use Rattle.fish_script.proofs.builder.ScriptBuilder.end_block.Goals as goal

pub returns-in_ok-close_block-in-Inside-clause-taken : goal.returns-in_ok-close_block-in-Inside-clause-taken
returns-in_ok-close_block-in-Inside-clause-taken c ws h =
    let done = c.in_ok-close_block-in-Inside.ensures in
    takes_end ws c.args.self.now c.close_block.new.self c.in-Inside.lanes c.in-Inside.feeds h c.in-Inside.is
    (omega (arith, c.if-lanes-gt0.true)) done.position done.blocks done.lanes done.lane
