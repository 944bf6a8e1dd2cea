-- No definition from the place on has the name.
use Rattle.std.proofs.Common.{◌≡◌, ◌≢◌, ℕ, ◌≤◌, Some, slice_get, length}
use Rattle.fish_catalog.specs.declared.listed.Listed.{Listed}
use Rattle.fish_scan.proofs.naming.newest.Given as goal

abbrev pub invariant-loop-position : goal.invariant-loop-position
invariant-loop-position l = record {
  within : l.position ≤ length l.rows;
  none : (i : ℕ) (x : Listed) → l.position ≤ i → slice_get l.rows i ≡ Some x → x.name ≢ l.name;
}

abbrev pub decreases-loop-position : goal.decreases-loop-position
decreases-loop-position l = l.position
