-- The bytes of the values so far stand one after the other.
use Rattle.std.proofs.Common.{◌≡◌, take}
use Rattle.fish_layout.specs.Body.{values_of}
use Rattle.fish_layout.proofs.write.push_values.Given as goal

abbrev pub invariant-loop-key : goal.invariant-loop-key
invariant-loop-key l = l.bytes.items ≡ values_of (take l.key-index l.keys)
