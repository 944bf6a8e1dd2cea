-- Each definition so far has the values that it asks.
use Rattle.std.proofs.Common.{◌≡◌, ℕ, ◌<◌, Some, slice_get}
use Rattle.fish_image.specs.Log.{values_under}
use Rattle.fish_image.specs.within.Terms.{HasIndexValues}
use Rattle.fish_image.specs.declared.terms.IndexRow.{IndexRow}
use Rattle.fish_image.proofs.keys.has_keys.Given as goal

abbrev pub invariant-loop-id : goal.invariant-loop-id
invariant-loop-id g l = (id : ℕ) → id < l.id → (x : IndexRow) → slice_get l.rows id ≡ Some x
    → HasIndexValues x l.number (g.R.Parsed.fields l.rec) (values_under id l.keys)
