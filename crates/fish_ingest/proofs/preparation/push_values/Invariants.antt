-- The entries of the values so far come after the others, and the values that are left are short.
use Rattle.std.proofs.Common.{◌≡◌, ◌++◌, All, length}
use Rattle.std.specs.Vec.Iter.{into_iter_items, into_iter_len}
use Rattle.fish_ingest.specs.within.Preparation.{AreMore, IsShortValue}
use Rattle.fish_ingest.proofs.preparation.push_values.Given as goal

abbrev pub invariant-loop-value : goal.invariant-loop-value
invariant-loop-value l = (l.yielded ++ into_iter_items l.value-iterator ≡ into_iter_items l.initial.value-iterator)
    × AreMore l.id l.yielded l.initial.keys l.keys
    × (into_iter_len l.value-iterator ≡ length (into_iter_items l.value-iterator))
    × All IsShortValue (into_iter_items l.value-iterator)
