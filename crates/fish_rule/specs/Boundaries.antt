-- Boundaries: between which numbers of the log a definition was active at the version of every record.
use Rattle.std.specs.Prelude.{ℕ, ◌≡◌, ◌<◌, ◌≤◌, suc, List, Some, length, slice_get, true, ⊤}
use Rattle.fish_catalog.specs.Clamps.{IsClamped}
use Rattle.fish_catalog.specs.Words.{row_word}
use Rattle.fish_catalog.specs.declared.listed.Listed.{Listed}
use Rattle.fish_catalog.specs.declared.row.CatRow.{CatRow}
use Rattle.fish_rule.specs.Registry.{HasBoundary, definitions_at, row_at, version_in}
use Rattle.fish_rule.specs.declared.view.Epoch.{Epoch}
use Rattle.fish_rule.specs.declared.view.Epoch.TheVariants.{Announced, Confirmed, Out}
use Rattle.fish_rule.specs.declared.view.Key.{Key}
use Rattle.fish_rule.specs.declared.view.Unended.{Unended}

-- where a definition with this id is listed, it has not ended
abbrev pub IsOpenIn : List Listed → ℕ → Type 0
IsOpenIn ls id = (l : Listed) → slice_get ls id ≡ Some l → l.active ≡ true

-- a version at which a pass is confirmed lists a definition with this id
abbrev pub Lists : Key → (ℕ → ℕ) → ℕ → Epoch → Type 0
Lists k g id Out = ⊤
Lists k g id (Announced u) = ⊤
Lists k g id (Confirmed u) = id < length (definitions_at k g u)

-- a row with which the table begins has this number as boundary i
abbrev pub IsFirstBoundary : Key → ℕ → ℕ → ℕ → Type 0
IsFirstBoundary k id i n = (row : CatRow) × (slice_get k.rows.value id ≡ Some row) × (row_word row i ≡ suc n)

-- a row with which the table begins: its index began, it neither begins nor ends past the number at which the table
-- begins, and the boundaries that the row has are those of the words
pub record IsFirstRow (k : Key) (g : ℕ → ℕ) (id : ℕ) (row : CatRow) : Type 0 where
  pub clamped : IsClamped k.number row
  pub stays : (i n : ℕ) → i < 2 → row_word row i ≡ suc n → HasBoundary g id i n

-- where an index begins and where it ends: boundary 0 and boundary 1 of the rows that are made
pub record Boundaries (k : Key) (count : ℕ) (g : ℕ → ℕ) (state : ℕ → Epoch) (version_of : ℕ → ℕ) : Type 0 where
  -- a row that is not made has none
  pub unmade : (id i : ℕ) → length (definitions_at k g (version_in g)) ≤ id → id < 256 → i < 2 → g (row_at id i) ≡ 0
  -- an index that hasn't begun doesn't end
  pub in_order : (id : ℕ) → id < 256 → g (row_at id 0) ≡ 0 → g (row_at id 1) ≡ 0
  -- and one that ends, ends where it began or after it
  pub after : (id from to : ℕ) → id < 256 → HasBoundary g id 0 from → HasBoundary g id 1 to → from ≤ to
  -- none is past what is claimed
  pub claimed : (id i n : ℕ) → id < 256 → i < 2 → HasBoundary g id i n → n ≤ count
  -- the rows with which the table begins keep their boundaries
  pub opened : (id : ℕ) (row : CatRow) → id < 256 → slice_get k.rows.value id ≡ Some row → IsFirstRow k g id row
  -- and they alone have one below the number at which the table begins
  pub early : (id i n : ℕ) → id < 256 → i < 2 → HasBoundary g id i n → n < k.number → IsFirstBoundary k id i n
  -- once the index has begun, no pass is confirmed at a version before its registration
  pub entered : (id n l : ℕ) → id < 256 → HasBoundary g id 0 n → 1 ≤ l → l ≤ 16 → Lists k g id (state l)
  -- from where it begins, the version of each record has the definition
  pub begun : (id from n : ℕ) → id < 256 → HasBoundary g id 0 from → k.number ≤ n → from ≤ n → n < count
      → id < length (definitions_at k g (version_of n))
  -- below where it ends, it had not ended at the version of any record
  pub unended : (id to n : ℕ) → id < 256 → HasBoundary g id 1 to → k.number ≤ n → n < to → n < count
      → IsOpenIn (definitions_at k g (version_of n)) id
  -- and without an end it has not ended at all
  pub running : (id v : ℕ) → id < 256 → g (row_at id 1) ≡ 0 → v ≤ version_in g → IsOpenIn (definitions_at k g v) id

-- what a pass knows of a definition: it had not ended at the version of any record below a number; where its row has
-- an end as the table begins, the number is not past it
pub record IsUnended (k : Key) (count : ℕ) (g version_of : ℕ → ℕ) (x : Unended) : Type 0 where
  pub within : x.below ≤ count
  pub running : (n : ℕ) → k.number ≤ n → n < x.below → IsOpenIn (definitions_at k g (version_of n)) x.id
  pub opened : (row : CatRow) (to : ℕ) → slice_get k.rows.value x.id ≡ Some row → row.to ≡ Some to → x.below ≤ to
