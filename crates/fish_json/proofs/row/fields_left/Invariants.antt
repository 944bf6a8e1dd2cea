-- The fields so far, with those of the items that are left, are those of all items.
use Rattle.std.proofs.Common.{◌≡◌, ◌++◌, length, map}
use Rattle.serde_json.specs.Data.{Items}
use Rattle.fish_value.specs.Seen.{field_seen}
use Rattle.fish_json.specs.Reading.{item_fields}
use Rattle.fish_json.specs.within.Tape.{StandItems}
use Rattle.fish_json.proofs.row.fields_left.Given as goal

abbrev pub invariant-loop-value : goal.invariant-loop-value
invariant-loop-value l = (ds : Items) → StandItems l.fn.items ds
    → (left : Items) × StandItems l.rest left × (item_fields ds ≡ map field_seen l.fields ++ item_fields left)

abbrev pub decreases-loop-value : goal.decreases-loop-value
decreases-loop-value l = length l.rest
