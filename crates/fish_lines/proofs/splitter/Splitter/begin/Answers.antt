-- All bytes so far go after an open line of none.
use Rattle.std.proofs.Common.{[]}
use Rattle.fish_lines.proofs.SplitLemmas.{HasTaken-begin}
use Rattle.fish_lines.proofs.splitter.Splitter.begin.Goals as goal

pub returns-clause-fed : goal.returns-clause-fed
returns-clause-fed c = λ b taken undecided h.
    let whole = c.args.whole.now in
    let none = c.new-last.ensures.open in
    HasTaken-begin c.args.self.now _ b whole taken undecided h c.requires c.requires c.may_begin_mark-self.ensures
    (rw c.without_mark.ensures at (c.in_ok-take_piece.ensures.lines [] none))
    (rw c.without_mark.ensures at (c.in_ok-take_piece.ensures.rest [] none))
