-- Searches through the rows from the first on.
use Rattle.std.proofs.Common.{◌≡◌, ℕ, zero, suc, ◌+◌, ◌<◌, ◌≤◌, List, [], ◌∷◌, Option, Some, slice_get, MatchOption, All}
use Rattle.std.proofs.Common.{length, take, sym, inl, inr, arith, refl, get_or, subst, ◌∙◌, below_more}
use Rattle.std.proofs.lemmas.Bool.{cases_lt}
use Rattle.std.proofs.lemmas.Option.{same_Some, slice_get_read, slice_get_within, slice_get-get_or}
use Rattle.fish_catalog.specs.within.Restoring.{AreApart, IsOnlyName}
use Rattle.fish_catalog.specs.Rows.{IsActive, IsRow}
use Rattle.fish_catalog.specs.declared.row.CatRow.{CatRow}

-- no row below n is such a one
abbrev pub NoneBelow : (CatRow → Type 0) → List CatRow → ℕ → Type 0
NoneBelow P rows n = (k : ℕ) → k < n → (row : CatRow) → slice_get rows k ≡ Some row → P row → ⊥

-- the row with this id has the name, and none after it and below n has
pub record NewestBelow (rows : List CatRow) (name : List ℕ) (n id : ℕ) : Type 0 where
  pub row : CatRow
  pub there : slice_get rows id ≡ Some row
  pub named : row.name ≡ name
  pub last : (k : ℕ) → k < n → (later : CatRow) → slice_get rows k ≡ Some later → later.name ≡ name → k ≤ id

-- what the search for the newest row has found below n
abbrev pub FoundBelow : List CatRow → List ℕ → ℕ → Option ℕ → Type 0
FoundBelow rows name n found =
    MatchOption found (NoneBelow (λ row. row.name ≡ name) rows n) (NewestBelow rows name n)

-- what stands in a list's front stands there in the list
from_front : (n : ℕ) (rows : List CatRow) (k : ℕ) (row : CatRow) → slice_get (take n rows) k ≡ Some row
    → slice_get rows k ≡ Some row
from_front zero rows k row h = absurd cc
from_front (suc n) [] k row h = absurd cc
from_front (suc n) (x ∷ rows) zero row h = h
from_front (suc n) (x ∷ rows) (suc k) row h = from_front n rows k row h

-- and what stands before a position stands in the list's front
in_front : (n : ℕ) (rows : List CatRow) (k : ℕ) (row : CatRow) → k < n → slice_get rows k ≡ Some row
    → slice_get (take n rows) k ≡ Some row
in_front zero rows k row less h = absurd (omega arith)
in_front (suc n) [] k row less h = absurd cc
in_front (suc n) (x ∷ rows) zero row less h = h
in_front (suc n) (x ∷ rows) (suc k) row less h = in_front n rows k row (omega arith) h

-- rows are apart where no active one has the name of an active one before it
pub apart_all : (rows : List CatRow)
    → ((k : ℕ) → k < length rows → (row : CatRow) → slice_get rows k ≡ Some row → IsActive row → IsOnlyName (take k rows) row.name)
    → AreApart rows
apart_all rows alone j k one other at_j at_k active other_active same =
    elim (cases_lt j k) [
      | inl before ↦ absurd (alone k (slice_get_within rows k other at_k) other at_k other_active j one
          (in_front k rows j one before at_j) active same)
      | inr behind ↦ elim (cases_lt k j) [
        | inl after ↦ absurd (alone j (slice_get_within rows j one at_j) one at_j active k other
            (in_front j rows k other after at_k) other_active (sym same))
        | inr here ↦ omega arith
      ]
    ]

-- what holds of each row by its position holds of all
pub all_rows : (rows : List CatRow) → ((k : ℕ) → k < length rows → (row : CatRow) → slice_get rows k ≡ Some row → IsRow row)
    → All IsRow rows
all_rows rows each k d less = each k less _ (slice_get-get_or rows k d less)

-- one row more may be kept
pub rows_more : (rows : List CatRow) (n : ℕ) (row : CatRow) → n < length rows → row ≡ get_or rows n row → IsRow row
    → ((k : ℕ) → k < n → (r : CatRow) → slice_get rows k ≡ Some r → IsRow r)
    → (k : ℕ) → k < n + 1 → (r : CatRow) → slice_get rows k ≡ Some r → IsRow r
rows_more rows n row less is here below = below_more (λ k. (r : CatRow) → slice_get rows k ≡ Some r → IsRow r) n below
    (λ r there. subst IsRow (same_Some row r (sym (slice_get_read rows (length rows) n row refl less is) ∙ there)) here)
