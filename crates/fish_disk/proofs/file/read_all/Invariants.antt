-- What was read so far is within the buffer.
use Rattle.std.proofs.Common.{◌≤◌, ◌-◌, length}
use Rattle.fish_disk.proofs.file.read_all.Given as goal

abbrev pub invariant-loop-count : goal.invariant-loop-count
invariant-loop-count l = l.count ≤ length l.buf

abbrev pub decreases-loop-count : goal.decreases-loop-count
decreases-loop-count l = length l.buf - l.count
