-- The line ends at the first LF, or with the text.
use Rattle.std.proofs.Math.Seq.{drop-length, take-length}
use Rattle.fish_script.proofs.Parts.{lines_cut, lines_last, lines_none}
use Rattle.fish_script.proofs.line.first_line.Goals as goal

pub returns-in-Some-clause-lines : goal.returns-in-Some-clause-lines
returns-in-Some-clause-lines c =
    rw c.without_carriage_return.ensures
    (lines_cut c.args.b.now c.in-Some.part.now c.in-Some.behind.now c.in-Some.ensures.parts)

pub returns-in-None-clause-lines : goal.returns-in-None-clause-lines
returns-in-None-clause-lines c =
    rw (c.split_at.ensures.front, c.split_at.ensures.back, take-length c.args.b.now, drop-length c.args.b.now, lines_none)
    (lines_last c.args.b.now c.requires c.in-None.ensures.parts)
