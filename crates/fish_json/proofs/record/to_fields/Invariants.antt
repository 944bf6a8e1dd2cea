-- The fields so far are those of the views so far.
use Rattle.std.proofs.Common.{◌≡◌, map, take}
use Rattle.fish_value.specs.Seen.{field_seen}
use Rattle.fish_json.proofs.record.to_fields.Given as goal

abbrev pub invariant-loop-view : goal.invariant-loop-view
invariant-loop-view l = l.fields ≡ map field_seen (take l.view-index l.views)
