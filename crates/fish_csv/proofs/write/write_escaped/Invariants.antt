-- What was written, and what is to be written of the rest, is what is to be written.
use Rattle.std.proofs.Common.{◌≡◌, ◌++◌, length}
use Rattle.csv.specs.Writing.{default_writer, escaped}
use Rattle.fish_csv.proofs.write.write_escaped.Given as goal

abbrev pub invariant-loop-at : goal.invariant-loop-at
invariant-loop-at l = l.out.items ++ escaped default_writer l.rest ≡ l.initial.out.items ++ escaped default_writer l.fn.field

abbrev pub decreases-loop-at : goal.decreases-loop-at
decreases-loop-at l = length l.rest
