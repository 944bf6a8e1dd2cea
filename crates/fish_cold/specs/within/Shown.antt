-- What the second and third word of a key entry show.
use Rattle.std.specs.Prelude.{ℕ, ◌≡◌, ◌+◌, ◌<◌, ◌≤◌, ⊤}
use Rattle.fish_layout.specs.declared.parts.BodyParts.{BodyParts}
use Rattle.fish_cold.specs.declared.decoding.Shown.{Shown}
use Rattle.fish_cold.specs.declared.decoding.Shown.TheVariants.{Damaged, Entry, Older}

-- they show the number of a record that has the entry, and its place, or that the number is below the range
abbrev pub ShowsNode : ℕ → BodyParts → ℕ → Shown → Type 0
ShowsNode from p j Older = p.number < from
ShowsNode from p j Damaged = ⊥
ShowsNode from p j (Entry number key words) = (from ≤ p.number) × (number ≡ p.number) × (key ≡ j)

-- what is shown is as was asked, and takes 38 words at most
abbrev pub IsShownIn : ℕ → ℕ → ℕ → ℕ → Shown → Type 0
IsShownIn size at below from Older = ⊤
IsShownIn size at below from Damaged = ⊤
IsShownIn size at below from (Entry number key words) = (at + 2 < size) × (from ≤ number) × (number < below)
    × (words ≤ 38)
