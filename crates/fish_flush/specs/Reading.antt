-- How far the log was copied.
use Rattle.std.specs.Prelude.{ℕ, ◌≡◌, ◌+◌, ◌⊎◌, suc}
use Rattle.fish_rule.specs.Views.{Among}
use Rattle.fish_rule.specs.declared.view.Found.{Found}
use Rattle.fish_rule.specs.declared.view.View.{View}

-- the pass knows that the region of a number begins at the line: it is the table's first, or the one before it ends
-- there
abbrev pub IsLineAt : View → ℕ → ℕ → Type 0
IsLineAt v n line = ((n ≡ v.about.number) × (line ≡ v.about.line))
    ⊎ ((f : Found) × Among f v.learned.found × (suc f.number ≡ n) × (f.line + f.lines ≡ line))
