-- The regions so far are those at the front; what leads on from them leads here.
use Rattle.std.proofs.Common.{◌≡◌, ℕ, ◌-◌, ◌<◌, length}
use Rattle.std.specs.Prelude.{Some, slice_get}
use Rattle.fish_cold.specs.Regions.{Leads}
use Rattle.fish_cold.proofs.page.regions_of.Given as goal

abbrev pub invariant-loop-line : goal.invariant-loop-line
invariant-loop-line l = record {
  found : (k line : ℕ) → k < length l.regions.items → Leads l.words l.first k line → slice_get l.regions.items k ≡ Some line;
  here : (line : ℕ) → Leads l.words l.first (length l.regions.items) line → line ≡ l.line;
}

abbrev pub decreases-loop-line : goal.decreases-loop-line
decreases-loop-line l = length l.words - l.line
