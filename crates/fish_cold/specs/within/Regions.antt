-- How the regions of a page follow one another. What private clauses need of it.
use Rattle.std.specs.Prelude.{ℕ, ◌*◌, ◌≤◌, List, length}
use Rattle.fish_image.specs.Log.{region_lines}

-- the region at the front of words ends within them
abbrev pub IsRegionWhole : List ℕ → Type 0
IsRegionWhole rest = 4 * region_lines rest ≤ length rest
