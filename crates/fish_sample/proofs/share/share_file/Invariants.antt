-- The file has the lines of the share so far.
use Rattle.std.proofs.Common.{◌≡◌}
use Rattle.fish_sample.specs.within.Files.{sample_lines}
use Rattle.fish_sample.specs.Sample.{share}
use Rattle.fish_sample.proofs.share.share_file.Given as goal

abbrev pub invariant-loop-i : goal.invariant-loop-i
invariant-loop-i l = l.file ≡ sample_lines (share l.i l.lane)
