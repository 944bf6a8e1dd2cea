-- The rows so far come after the others.
use Rattle.std.proofs.Common.{◌≡◌, ◌++◌, All, take}
use Rattle.std.specs.List.{flat_map}
use Rattle.fish_image.specs.Commits.{HasTexts}
use Rattle.fish_image.specs.Slot.{row_bytes}
use Rattle.fish_image.proofs.slot.push_rows.Given as goal

-- the rows so far come after the others, and their names and definitions are texts
abbrev pub invariant-loop-row : goal.invariant-loop-row
invariant-loop-row l = record {
  rows : l.body ≡ l.fn.body ++ flat_map row_bytes (take l.row-index l.rows);
  texts : All HasTexts (take l.row-index l.rows);
}
