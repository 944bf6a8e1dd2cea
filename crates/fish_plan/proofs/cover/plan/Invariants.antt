-- The pieces so far are the plan down to the last one's beginning, and what is left gets smaller.
use Rattle.fish_plan.proofs.Building.{IsBuilt}
use Rattle.fish_plan.proofs.cover.plan.Given as goal

abbrev pub invariant-loop-end : goal.invariant-loop-end
invariant-loop-end l = IsBuilt l.pieces l.from l.end l.settled l.to l.intervals

abbrev pub decreases-loop-end : goal.decreases-loop-end
decreases-loop-end l = l.end
