-- The bytes of the words so far stand one after the other.
use Rattle.std.proofs.Common.{◌≡◌, take}
use Rattle.std.specs.Int.{to_le_bytes}
use Rattle.std.specs.Int.Width.{w64}
use Rattle.std.specs.List.{flat_map}
use Rattle.fish_catalog.proofs.words.read_bytes.Given as goal

abbrev pub invariant-loop-word : goal.invariant-loop-word
invariant-loop-word l = l.bytes.items ≡ flat_map (to_le_bytes w64) (take l.word-index l.words)
