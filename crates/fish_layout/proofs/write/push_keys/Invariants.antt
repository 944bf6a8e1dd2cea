-- The words of the entries so far come after the others, and the offset is after their values.
use Rattle.std.proofs.Common.{◌≡◌, ◌++◌, length, take}
use Rattle.fish_layout.specs.Body.{key_words, values_of}
use Rattle.fish_layout.proofs.write.push_keys.Given as goal

abbrev pub invariant-loop-position : goal.invariant-loop-position
invariant-loop-position l =
    record {
      words : l.words.items ≡ l.fn.words.items ++ key_words l.number 0 0 (take l.position l.keys);
      offset : l.offset ≡ length (values_of (take l.position l.keys));
    }
