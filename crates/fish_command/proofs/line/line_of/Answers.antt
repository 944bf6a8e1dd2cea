-- A line is what clap finds in it.
use Rattle.std.proofs.Common.{rules}
use Rattle.fish_command.proofs.Matches.{not_placed, refused, same_texts, taken}
use Rattle.fish_command.proofs.line.line_of.Goals as goal

pub returns-then-not-are_placed : goal.returns-then-not-are_placed
returns-then-not-are_placed c = not_placed c.args.words.now (search rules)

pub returns-in-Ok : goal.returns-in-Ok
returns-in-Ok c = taken _ _ c.args.words.now c.in-Ok.matches c.in_ok-grammar.ensures (same_texts c.args.words.now)
    (search rules) c.in-Ok.ensures.matches c.in-Ok.ensures.kinds

pub returns-in_default : goal.returns-in_default
returns-in_default c = refused _ _ c.args.words.now c.in-Err.error c.in_ok-grammar.ensures (same_texts c.args.words.now)
    c.in-Err.ensures.kinds (search rules)
