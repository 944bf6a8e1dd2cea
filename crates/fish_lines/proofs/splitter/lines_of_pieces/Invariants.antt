-- The pieces so far were fed and nothing was taken; then what was found was taken.
use Rattle.std.proofs.Common.{◌≡◌, [], true, false, length, take}
use Rattle.std.specs.List.{concat}
use Rattle.fish_lines.specs.Split.{HasTaken, due}
use Rattle.fish_lines.proofs.splitter.lines_of_pieces.Given as goal

abbrev pub invariant-loop-piece : goal.invariant-loop-piece
invariant-loop-piece l = record {
  going : l.splitter.finished ≡ false;
  fed : HasTaken l.splitter (concat (take l.piece-index l.pieces)) [];
}

abbrev pub invariant-loop-line : goal.invariant-loop-line
invariant-loop-line l = record {
  ended : l.splitter.finished ≡ true;
  taken : HasTaken l.splitter (concat l.pieces) l.found;
}

abbrev pub decreases-loop-line : goal.decreases-loop-line
decreases-loop-line l = length (due l.splitter)
