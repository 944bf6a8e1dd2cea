-- The page starts of a log, and which page has a number.
use Rattle.std.specs.Prelude.{ℕ, ◌≡◌, ◌<◌, ◌≤◌, List, [], ◌∷◌, Some, slice_get}
use Rattle.fish_catalog.specs.PageStarts.{page_after, starts_after}
use Rattle.fish_catalog.specs.declared.page_start.PageStart.{PageStart}
use Rattle.fish_layout.specs.Pages.{page_of}

-- numbers and pages rise from start to start
abbrev pub AreStarts : List PageStart → Type 0
AreStarts starts = (i j : ℕ) (a b : PageStart) → i < j → slice_get starts i ≡ Some a → slice_get starts j ≡ Some b
    → (a.number < b.number) × (page_of a.line < page_of b.line)

-- the last page start that isn't after a number
pub record IsStartOf (starts : List PageStart) (number : ℕ) (start : PageStart) : Type 0 where
  pub rise : AreStarts starts
  pub at : ℕ
  pub there : slice_get starts at ≡ Some start
  pub begins : start.number ≤ number
  pub last : (j : ℕ) (other : PageStart) → at < j → slice_get starts j ≡ Some other → number < other.number

-- the start of a page
pub record IsStartIn (starts : List PageStart) (page : ℕ) (start : PageStart) : Type 0 where
  pub rise : AreStarts starts
  pub at : ℕ
  pub there : slice_get starts at ≡ Some start
  pub page_is : page_of start.line ≡ page

-- page starts with one more, if it is of a page after theirs
abbrev pub with_start : List PageStart → PageStart → List PageStart
with_start starts start = starts_after (page_after starts) start.number start.line starts

-- and with each of others
abbrev pub with_starts : List PageStart → List PageStart → List PageStart
with_starts starts [] = starts
with_starts starts (start ∷ more) = with_starts (with_start starts start) more

-- those of others that are of pages after these begin at a line or after it
abbrev pub AddsFrom : List PageStart → ℕ → List PageStart → Type 0
AddsFrom starts line more = (k : ℕ) (start : PageStart) → slice_get more k ≡ Some start
    → page_after starts ≤ page_of start.line → line ≤ start.line
