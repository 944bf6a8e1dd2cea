-- The bytes of the values so far are counted.
use Rattle.std.proofs.Common.{◌≡◌, length, take}
use Rattle.fish_layout.specs.Body.{values_of}
use Rattle.fish_layout.proofs.write.value_len.Given as goal

abbrev pub invariant-loop-key : goal.invariant-loop-key
invariant-loop-key l = l.bytes ≡ length (values_of (take l.key-index l.keys))
