-- How the control pass looks at the lanes.
use Rattle.std.specs.Prelude.{ℕ}
use Rattle.fish_registry.specs.declared.registrar.Waiting.{Waiting}

-- the same registration, with another lane to look at next
abbrev pub at_lane : Waiting → ℕ → Waiting
at_lane w lane = record w { lane = lane }
