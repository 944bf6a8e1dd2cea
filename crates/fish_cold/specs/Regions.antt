-- How the regions of a page follow one another.
use Rattle.std.specs.Prelude.{ℕ, zero, suc, ◌≡◌, ◌+◌, ◌*◌, ◌/◌, ◌<◌, List, Some, length, slice_get, slice_index}
use Rattle.fish_layout.specs.Header.{lines_of}

-- k regions further than the one that begins at the line `first` of a page, one begins at this line
abbrev pub Leads : List ℕ → ℕ → ℕ → ℕ → Type 0
Leads words first zero line = (line ≡ first) × (line < length words / 4)
Leads words first (suc k) line =
    (last : ℕ) × Leads words first k last × (0 < lines_of (slice_index words (4 * last)))
    × (line ≡ last + lines_of (slice_index words (4 * last))) × (line < length words / 4)

-- these are the lines at which the regions of a page begin
abbrev pub AreRegions : List ℕ → ℕ → List ℕ → Type 0
AreRegions words first regions = (k line : ℕ) → Leads words first k line → slice_get regions k ≡ Some line
