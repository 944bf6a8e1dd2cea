-- The bytes that came are kept after those of before, in a file that is else the same.
use Rattle.std.proofs.Common.{◌≡◌, ◌≤◌, ◌-◌, false, length, vec_len}
use Rattle.fish_feed.specs.within.OpenFiles.{HasReadMore}
use Rattle.fish_feed.proofs.part.read_ahead.Given as goal

abbrev pub invariant-loop-file : goal.invariant-loop-file
invariant-loop-file g l = record {
  read : HasReadMore g.F.Source.left l.fn.file l.file;
  short : length l.file.rest ≤ 67108865;
  well : l.file.failed ≡ false;
  size : vec_len l.buffer ≡ 65536;
}

abbrev pub decreases-loop-file : goal.decreases-loop-file
decreases-loop-file g l = l.wanted - length l.file.rest
