-- The checker has seen some words of a commit.
use Rattle.fish_image.specs.Checking.{IsChecker}
use Rattle.bench.proofs.images.check_pieces.Given as goal

abbrev pub invariant-loop-piece : goal.invariant-loop-piece
invariant-loop-piece l = IsChecker l.checker
