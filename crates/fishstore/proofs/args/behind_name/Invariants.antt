-- The words so far, and those to come, are all after the first.
use Rattle.std.proofs.Common.{◌≡◌, ◌++◌, drop, map}
use Rattle.std.specs.Prelude.{string_bytes}
use Rattle.std.specs.Vec.Iter.{into_iter_items}
use Rattle.fishstore.proofs.args.behind_name.Given as goal

abbrev pub invariant-loop-word : goal.invariant-loop-word
invariant-loop-word l = record {
  can : (goal.iterator-loop-word).can_next l.word-iterator;
  finite : (goal.iterator-loop-word).is_finite l.word-iterator;
  all : l.words ++ map string_bytes (into_iter_items l.word-iterator)
      ≡ map string_bytes (drop 1 (into_iter_items l.fn.args));
}
