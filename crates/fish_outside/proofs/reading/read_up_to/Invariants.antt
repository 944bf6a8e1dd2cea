-- What was taken from the source so far is what the bytes hold; each turn takes at least one more.
use Rattle.std.proofs.Common.{◌≡◌, ◌-◌, ◌≤◌, length, vec_len}
use Rattle.fish_outside.specs.Content.{Took}
use Rattle.fish_outside.specs.declared.reading.TheConstants.{CHUNK}
use Rattle.fish_outside.proofs.reading.read_up_to.Given as goal

abbrev pub invariant-loop-bytes : goal.invariant-loop-bytes
invariant-loop-bytes g l = record {
  bound : length l.bytes ≤ l.most;
  room : vec_len l.buffer ≡ CHUNK;
  took : Took (g.S.Source.left l.fn.source) (g.S.Source.left l.source) l.bytes;
  later : g.S.Source.faults l.fn.source ≤ g.S.Source.faults l.source;
}

abbrev pub decreases-loop-bytes : goal.decreases-loop-bytes
decreases-loop-bytes g l = l.most - length l.bytes
