-- Counts of faults, through several calls and through `done`.
use Rattle.std.proofs.Common.{ℕ, ◌≤◌, arith}
use Rattle.fish_outside.specs.Causes.{Rose}

-- a count that rose and never fell afterwards has risen over the whole
pub Rose_later : (before mid now : ℕ) → Rose before mid → mid ≤ now → Rose before now
Rose_later before mid now rose later = omega arith

-- nor does it matter what it did before, where it didn't fall
pub Rose_earlier : (before mid now : ℕ) → before ≤ mid → Rose mid now → Rose before now
Rose_earlier before mid now earlier rose = omega arith
