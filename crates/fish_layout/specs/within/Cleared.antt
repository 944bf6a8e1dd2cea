-- A record's words but for the previous nodes of its key entries, which alone change once it is published. What private
-- clauses need of it.
use Rattle.std.specs.Prelude.{ℕ, ◌≡◌, ◌-◌, ◌*◌, ◌%◌, ◌≤◌}
use Rattle.fish_layout.specs.Cleared.{IsKeyWord}
use Rattle.fish_layout.specs.Header.{keys_of, lines_of}

-- of a record with n key entries, word i is the second of one
abbrev pub IsNumberWord : ℕ → ℕ → Type 0
IsNumberWord n i = (i ≤ 3 * n) × (i % 3 ≡ 2)

-- two regions have the same words within the lines of the first, but for the first words of its key entries
abbrev pub AgreesOutsideKeys : (ℕ → ℕ) → (ℕ → ℕ) → Type 0
AgreesOutsideKeys f g = (i : ℕ) → i ≤ lines_of (f 0) * 4 - 1 → ¬ IsKeyWord (keys_of (f 0)) i → g i ≡ f i
