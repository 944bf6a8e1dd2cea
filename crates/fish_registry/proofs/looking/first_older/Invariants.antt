-- The lanes below this one were looked at, and are clear.
use Rattle.fish_registry.specs.Knowing.{IsAwaited}
use Rattle.fish_registry.specs.Looking.{at_lane}
use Rattle.fish_registry.specs.within.Looking.{Looks}
use Rattle.fish_rule.specs.Passes.{IsPassOf, view}
use Rattle.fish_registry.proofs.looking.first_older.Given as goal

abbrev pub invariant-loop-lane : goal.invariant-loop-lane
invariant-loop-lane l = IsPassOf l.log l.pass × Looks (view l.fn.pass) (view l.pass)
    × IsAwaited (view l.pass) (at_lane l.waiting l.lane)
