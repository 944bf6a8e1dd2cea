-- The fields so far are those of the values so far.
use Rattle.std.proofs.Common.{◌≡◌, map, take}
use Rattle.serde_json.specs.View.{view}
use Rattle.fish_value.specs.Seen.{field_seen}
use Rattle.fish_json.specs.Reading.{kind_of_data}
use Rattle.fish_json.proofs.record.fields.Given as goal

abbrev pub invariant-loop-value : goal.invariant-loop-value
invariant-loop-value l = map field_seen l.fields ≡ map (λ v. kind_of_data (view v)) (take l.value-index l.values)
