-- The names that are left lead from here to where all names lead from the start.
use Rattle.std.proofs.Common.{◌≡◌, drop}
use Rattle.serde_json.specs.View.{view}
use Rattle.fish_json.specs.Reading.{at_path}
use Rattle.fish_json.proofs.record.walk.Given as goal

abbrev pub invariant-loop-step : goal.invariant-loop-step
invariant-loop-step l = at_path (drop l.step-index l.steps) (view l.found) ≡ at_path l.steps (view l.value)
