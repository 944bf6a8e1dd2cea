-- Line ends in front were passed, which begin no row.
use Rattle.std.proofs.Common.{◌≡◌, ◌≤◌, length}
use Rattle.fish_csv.specs.Reading.{rows_in}
use Rattle.fish_csv.proofs.bytes.without_ends.Given as goal

abbrev pub invariant-loop-c : goal.invariant-loop-c
invariant-loop-c l = record {
  same : rows_in l.rest ≡ rows_in l.fn.b;
  within : length l.rest ≤ length l.fn.b;
}

abbrev pub decreases-loop-c : goal.decreases-loop-c
decreases-loop-c l = length l.rest
