-- The definitions of a catalogue's active rows stand in the order of their ids, which are below 256.
use Rattle.std.proofs.Common.{◌≡◌, ℕ, zero, suc, ◌+◌, ◌<◌, ◌≤◌, List, [], ◌∷◌, Bool, true, false, Some, All}
use Rattle.std.proofs.Common.{length, get_or, map, slice_get, refl, sym, ap, ◌∙◌, subst, arith, Option, None, is_none, min, option_map}
use Rattle.std.specs.Prelude.{cond, count_by, filter}
use Rattle.std.specs.List.Sorted.{IsStrictlyIncreasing}
use Rattle.std.proofs.lemmas.List.{length-map}
use Rattle.std.proofs.lemmas.List.Sums.{length-filter}
use Rattle.fish_catalog.proofs.ActiveTexts.{active_of_catalog}
use Rattle.fish_catalog.specs.Clamps.{clamped}
use Rattle.fish_catalog.specs.Rows.{IsCatalog, is_active}
use Rattle.fish_catalog.specs.Limits.{most_active, most_rows}
use Rattle.fish_catalog.specs.declared.row.CatRow.{CatRow}
use Rattle.fish_claim.proofs.Known.{knows_start}
use Rattle.fish_psf.specs.declared.key.ActiveDef.{ActiveDef}
use Rattle.fish_rule.specs.Keys.{IsWritten, text_of}
use Rattle.fish_rule.specs.within.Keys.{AreActive}
use Rattle.fish_rule.specs.Registry.{KnowsActive}
use Rattle.fish_rule.specs.declared.view.Key.{Key}
use Rattle.fish_rule.specs.declared.view.Learned.{Learned}
use Rattle.fish_ingest.specs.Preparation.{AreDefs, id_of}

-- the numbers ascend from a least one on, below 256
abbrev pub AscendFrom : ℕ → List ℕ → Type 0
AscendFrom least [] = Unit {0}
AscendFrom least (n ∷ ns) = (least ≤ n) × (n < 256) × AscendFrom (n + 1) ns

-- the least may be lowered
lowered : (low high : ℕ) (ns : List ℕ) → low ≤ high → AscendFrom high ns → AscendFrom low ns
lowered low high [] le h = tt
lowered low high (n ∷ ns) le h = (omega (arith, h.0), h.1, h.2)

-- such numbers ascend
increases : (least : ℕ) (ns : List ℕ) → AscendFrom least ns → IsStrictlyIncreasing ns
increases least [] h k within = absurd (omega arith)
increases least (n ∷ []) h k within = absurd (omega arith)
increases least (n ∷ m ∷ ns) h zero within = (let next : n + 1 ≤ m = h.2.0 in omega arith)
increases least (n ∷ m ∷ ns) h (suc k) within =
    let step : suc k + 1 ≡ suc (k + 1) = omega arith in
    subst (λ i. get_or (m ∷ ns) k 0 < get_or (n ∷ m ∷ ns) i 0) (sym step)
    (increases (n + 1) (m ∷ ns) h.2 k (omega arith))

-- and are below 256
below : (least : ℕ) (defs : List ActiveDef) → AscendFrom least (map id_of defs) → All (λ d. d.id < 256) defs
below least [] h k d within = absurd (omega arith)
below least (x ∷ xs) h zero d within = h.1
below least (x ∷ xs) h (suc k) d within = below (x.id + 1) xs h.2 k d (omega arith)

-- the id of a row
abbrev row_id : CatRow → ℕ
row_id row = row.id

-- with a row in front or not, the ids of rows after it ascend
with_row : (n : ℕ) (row : CatRow) (kept : List CatRow) (b : Bool) → row.id ≡ n → n < 256
    → AscendFrom (n + 1) (map row_id kept) → AscendFrom n (map row_id (cond b (row ∷ kept) kept))
with_row n row kept true is few rest =
    (omega arith, omega arith, subst (λ m. AscendFrom (m + 1) (map row_id kept)) (sym is) rest)
with_row n row kept false is few rest = lowered n (n + 1) (map row_id kept) (omega arith) rest

-- the ids of the active rows among rows that are numbered from n on, up to 256
active_ascend : (n : ℕ) (rows : List CatRow) → n + length rows ≤ 256
    → ((k : ℕ) (row : CatRow) → slice_get rows k ≡ Some row → row.id ≡ n + k)
    → AscendFrom n (map row_id (filter is_active rows))
active_ascend n [] few ids = tt
active_ascend n (row ∷ rows) few ids =
    let first : row.id ≡ n = (let e = ids 0 row refl in omega arith) in
    let later : (k : ℕ) (other : CatRow) → slice_get rows k ≡ Some other → other.id ≡ (n + 1) + k =
    λ k other at. let e : other.id ≡ n + suc k = ids (suc k) other at in omega arith in
    with_row n row (filter is_active rows) (is_active row) first (omega arith)
    (active_ascend (n + 1) rows (omega arith) later)

-- the ids in the texts of definitions are theirs
pub def_ids : (defs : List ActiveDef) → map (λ (t : ℕ × List ℕ). t.0) (map text_of defs) ≡ map id_of defs
def_ids [] = refl
def_ids (d ∷ ds) = ap (λ ids. d.id ∷ ids) (def_ids ds)

-- and so are those in the texts of rows
row_ids : (rows : List CatRow) → map (λ (t : ℕ × List ℕ). t.0) (map (λ row. (row.id, row.def)) rows) ≡ map row_id rows
row_ids [] = refl
row_ids (row ∷ rows) = ap (λ ids. row.id ∷ ids) (row_ids rows)

-- the ids of definitions are those of their rows
ids_same : (rows : List CatRow) (defs : List ActiveDef) → AreActive rows defs
    → map id_of defs ≡ map row_id (filter is_active rows)
ids_same rows defs e = sym (def_ids defs) ∙ ap (map (λ (t : ℕ × List ℕ). t.0)) e ∙ row_ids (filter is_active rows)

-- definitions whose ids ascend so, and that are what their texts are read as, may be given to `prepare`
pub defs_ascend : (defs : List ActiveDef) → length defs ≤ most_active → AscendFrom 0 (map id_of defs) → All IsWritten defs
    → AreDefs defs
defs_ascend defs few h written =
    record { few = few; ascending = increases 0 (map id_of defs) h; below = below 0 defs h; written = written }

-- there are as many definitions as texts of active ones
pub few_by : {A : Type 0} (xs : List A) (is : A → Bool) (text : A → ℕ × List ℕ) (defs : List ActiveDef)
    → map text_of defs ≡ map text (filter is xs) → count_by is xs ≤ most_active → length defs ≤ most_active
few_by xs is text defs same few =
    let one : length (map text_of defs) ≡ length defs = length-map defs text_of in
    let two : length (map text_of defs) ≡ length (map text (filter is xs)) = ap (λ (ts : List (ℕ × List ℕ)). length ts) same in
    let three : length (map text (filter is xs)) ≡ length (filter is xs) = length-map (filter is xs) text in
    let four : length (filter is xs) ≡ count_by is xs = length-filter is xs in
    omega arith

-- the definitions of the active rows of a catalogue may be given to `prepare`
pub active_defs : {rows : List CatRow} {defs : List ActiveDef} → IsCatalog rows → AreActive rows defs
    → All IsWritten defs → AreDefs defs
active_defs {rows} {defs} h active written =
    let few : length rows ≤ most_rows = h.few in
    let numbered : (k : ℕ) (row : CatRow) → slice_get rows k ≡ Some row → row.id ≡ 0 + k =
    λ k row at. let e = h.ids k row at in omega arith in
    let ascend : AscendFrom 0 (map row_id (filter is_active rows)) = active_ascend 0 rows (omega arith) numbered in
    defs_ascend defs (few_by rows is_active (λ row. (row.id, row.def)) defs active h.few_active)
    (subst (AscendFrom 0) (sym (ids_same rows defs active)) ascend) written

-- at the version with which the table begins the definitions of the start are active, whatever else was learned
pub knows_active : (k : Key) (l : Learned) (version : ℕ) (defs : List ActiveDef) → version ≡ k.version
    → version ≤ l.version → AreActive k.rows.value defs → KnowsActive k l version (map text_of defs)
knows_active k l version defs first reached h =
    subst (KnowsActive k l version) (active_of_catalog k.rows.value ∙ sym h) (knows_start k l version first reached)

-- ---- rows whose boundaries were cut

-- a row's id and text
abbrev named : CatRow → ℕ × List ℕ
named row = (row.id, row.def)

-- an end stays one
ends_same : (n : ℕ) (to : Option ℕ) → is_none (option_map (λ t. min t n) to) ≡ is_none to
ends_same n None = refl
ends_same n (Some to) = refl

-- one row more on both sides, or none
one_more : (b : Bool) (x y : CatRow) (xs ys : List CatRow) → named x ≡ named y → map named xs ≡ map named ys
    → map named (cond b (x ∷ xs) xs) ≡ map named (cond b (y ∷ ys) ys)
one_more true x y xs ys p q = λ i. p i ∷ q i
one_more false x y xs ys p q = q

-- the active ones are the same
pub active_clamped : (n : ℕ) (rows : List CatRow)
    → map named (filter is_active (map (clamped n) rows)) ≡ map named (filter is_active rows)
active_clamped n [] = refl
active_clamped n (row ∷ rows) =
    let rest : List CatRow = filter is_active (map (clamped n) rows) in
    ap (λ (b : Bool). map named (cond b (clamped n row ∷ rest) rest)) (ends_same n row.to)
    ∙ one_more (is_active row) (clamped n row) row rest (filter is_active rows) refl (active_clamped n rows)
