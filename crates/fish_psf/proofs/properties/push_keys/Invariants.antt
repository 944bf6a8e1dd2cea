-- The values so far come after the keys that were there, under the id.
use Rattle.std.proofs.Common.{◌≡◌, ◌++◌, length, map}
use Rattle.std.specs.Vec.Iter.{into_iter_items, into_iter_len}
use Rattle.fish_psf.specs.Keys.{value_under}
use Rattle.fish_psf.proofs.properties.push_keys.Given as goal

abbrev pub invariant-loop-value : goal.invariant-loop-value
invariant-loop-value g l = (l.yielded ++ into_iter_items l.value-iterator ≡ into_iter_items l.initial.value-iterator)
    × (l.keys ≡ l.initial.keys ++ map (value_under l.active.id) l.yielded)
    × (into_iter_len l.value-iterator ≡ length (into_iter_items l.value-iterator))
