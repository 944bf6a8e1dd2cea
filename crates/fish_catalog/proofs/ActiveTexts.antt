-- The texts of the active definitions of a version: what they are in a catalogue, and what holds of them.
use Rattle.std.proofs.Common.{◌≡◌, ℕ, zero, suc, ◌+◌, ◌<◌, ◌≤◌, List, [], ◌∷◌, Bool, true, false, Some, cond, length}
use Rattle.std.proofs.Common.{map, refl, sym, ap, subst, arith, slice_get, All, get_or}
use Rattle.std.specs.Prelude.{filter}
use Rattle.std.specs.List.Sorted.{IsStrictlyIncreasing}
use Rattle.fish_catalog.specs.Listing.{IsListing, active_texts, is_on, listed_of}
use Rattle.fish_catalog.specs.Rows.{is_active}
use Rattle.fish_catalog.specs.Limits.{most_rows}
use Rattle.fish_catalog.specs.declared.listed.Listed.{Listed}
use Rattle.fish_catalog.specs.declared.row.CatRow.{CatRow}

-- the id and the text of a definition
abbrev text_of : Listed → ℕ × List ℕ
text_of l = (l.id, l.def)

-- the id and the text of a row
abbrev row_text : CatRow → ℕ × List ℕ
row_text row = (row.id, row.def)

-- with a row in front or not
texts_more : (b : Bool) (row : CatRow) (ls : List Listed) (rows : List CatRow) → map text_of ls ≡ map row_text rows →
    map text_of (cond b (listed_of row ∷ ls) ls) ≡ map row_text (cond b (row ∷ rows) rows)
texts_more true row ls rows h = ap (λ ts. (row.id, row.def) ∷ ts) h
texts_more false row ls rows h = h

-- the active definitions of a catalogue are its active rows
pub active_of_catalog : (rows : List CatRow) →
    active_texts (map listed_of rows) ≡ map (λ row. (row.id, row.def)) (filter is_active rows)
active_of_catalog [] = refl
active_of_catalog (row ∷ rows) =
    texts_more (is_active row) row (filter is_on (map listed_of rows)) (filter is_active rows) (active_of_catalog rows)

-- the ids ascend from a least one on, below 256
abbrev AscendFrom : ℕ → List Listed → Type 0
AscendFrom least [] = Unit {0}
AscendFrom least (l ∷ ls) = (least ≤ l.id) × (l.id < 256) × AscendFrom (l.id + 1) ls

-- the least may be lowered
lowered : (low high : ℕ) (ls : List Listed) → low ≤ high → AscendFrom high ls → AscendFrom low ls
lowered low high [] le h = tt
lowered low high (l ∷ ls) le h = (omega (arith, h.0), h.1, h.2)

-- with a definition in front or not
ascend_more : (n : ℕ) (l : Listed) (kept : List Listed) (b : Bool) → l.id ≡ n → n < 256 → AscendFrom (n + 1) kept →
    AscendFrom n (cond b (l ∷ kept) kept)
ascend_more n l kept true is few rest =
    (omega arith, omega arith, subst (λ m. AscendFrom (m + 1) kept) (sym is) rest)
ascend_more n l kept false is few rest = lowered n (n + 1) kept (omega arith) rest

-- the active ones among definitions that are numbered from n on
active_ascend : (n : ℕ) (ls : List Listed) → n + length ls ≤ 256 →
    ((k : ℕ) (l : Listed) → slice_get ls k ≡ Some l → l.id ≡ n + k) → AscendFrom n (filter is_on ls)
active_ascend n [] few ids = tt
active_ascend n (l ∷ ls) few ids =
    let first : l.id ≡ n = (let e = ids 0 l refl in omega arith) in
    let later : (k : ℕ) (other : Listed) → slice_get ls k ≡ Some other → other.id ≡ (n + 1) + k =
    λ k other at. let e : other.id ≡ n + suc k = ids (suc k) other at in omega arith in
    ascend_more n l (filter is_on ls) (is_on l) first (omega arith) (active_ascend (n + 1) ls (omega arith) later)

-- the active ones of a version
listing_ascends : (ls : List Listed) → IsListing ls → AscendFrom 0 (filter is_on ls)
listing_ascends ls h =
    let few : length ls ≤ most_rows = h.few in
    active_ascend 0 ls (omega arith) (λ k l at. let e = h.ids k l at in omega arith)

-- ids that ascend so are below 256
ids_below : (least : ℕ) (ls : List Listed) → AscendFrom least ls → All (λ t. t.0 < 256) (map text_of ls)
ids_below least [] h k d within = absurd (omega arith)
ids_below least (l ∷ ls) h zero d within = h.1
ids_below least (l ∷ ls) h (suc k) d within = ids_below (l.id + 1) ls h.2 k d (omega arith)

-- and each is below the next
ids_increase : (least : ℕ) (ls : List Listed) → AscendFrom least ls →
    IsStrictlyIncreasing (map (λ (t : ℕ × List ℕ). t.0) (map text_of ls))
ids_increase least [] h k within = absurd (omega arith)
ids_increase least (l ∷ []) h k within = absurd (omega arith)
ids_increase least (l ∷ m ∷ ls) h zero within = (let next : l.id + 1 ≤ m.id = h.2.0 in omega arith)
ids_increase least (l ∷ m ∷ ls) h (suc k) within =
    let ids : List ℕ = map (λ (t : ℕ × List ℕ). t.0) (map text_of ls) in
    let step : suc k + 1 ≡ suc (k + 1) = omega arith in
    subst (λ i. get_or (m.id ∷ ids) k 0 < get_or (l.id ∷ m.id ∷ ids) i 0) (sym step)
    (ids_increase (l.id + 1) (m ∷ ls) h.2 k (omega arith))

-- the ids of the active ones are below 256
pub active_ids_below : (ls : List Listed) → IsListing ls → All (λ t. t.0 < 256) (active_texts ls)
active_ids_below ls h = ids_below 0 (filter is_on ls) (listing_ascends ls h)

-- the active ones stand in the order of their ids
pub active_ids_increase : (ls : List Listed) → IsListing ls →
    IsStrictlyIncreasing (map (λ (t : ℕ × List ℕ). t.0) (active_texts ls))
active_ids_increase ls h = ids_increase 0 (filter is_on ls) (listing_ascends ls h)
