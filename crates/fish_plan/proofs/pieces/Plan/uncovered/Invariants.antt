-- No piece so far is full and lies below settled.
use Rattle.std.proofs.Common.{ℕ, ◌<◌}
use Rattle.fish_plan.specs.Gaps.{IsPlanGap}
use Rattle.fish_plan.proofs.pieces.Plan.uncovered.Given as goal

abbrev pub invariant-loop-piece : goal.invariant-loop-piece
invariant-loop-piece l = (k a b : ℕ) → k < l.piece-index → IsPlanGap l.piece-items l.settled k a b → ⊥
