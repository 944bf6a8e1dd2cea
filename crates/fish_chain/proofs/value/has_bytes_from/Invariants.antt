-- The bytes so far are those of the word.
use Rattle.fish_chain.specs.within.Values.{AreBytesOf}
use Rattle.fish_chain.proofs.value.has_bytes_from.Given as goal

abbrev pub invariant-loop-place : goal.invariant-loop-place
invariant-loop-place l = AreBytesOf l.word l.first l.bytes l.from l.place
