-- Where the pages of a log begin to hold regions.
use Rattle.std.specs.Prelude.{ℕ, ◌+◌, ◌-◌, List, [], ◌∷◌, ◌++◌, Option, Some, None, length, slice_get}
use Rattle.std.proofs.Math.Decide.{dec_le}
use Rattle.fish_catalog.specs.declared.page_start.PageStart.{PageStart}
use Rattle.fish_layout.specs.Cleared.{choose}
use Rattle.fish_layout.specs.Pages.{page_of}

-- the page after that of a region, or the first
abbrev pub page_behind : Option PageStart → ℕ
page_behind None = 0
page_behind (Some start) = page_of start.line + 1

-- the page after the last one that holds a region
abbrev pub page_after : List PageStart → ℕ
page_after starts = page_behind (slice_get starts (length starts - 1))

-- page starts with that of the region of a number that begins at a line: no page from one on had one yet
abbrev pub starts_after : ℕ → ℕ → ℕ → List PageStart → List PageStart
starts_after page number line starts =
    choose (dec_le page (page_of line)) (starts ++ record { number = number; line = line } ∷ []) starts
