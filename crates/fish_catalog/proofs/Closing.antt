-- What always holds of rows stays as an index ends, and what becomes of each row as a boundary is set.
use Rattle.std.proofs.Common.{◌≡◌, ◌≢◌, ℕ, zero, suc, ◌+◌, ◌<◌, ◌≤◌, List, [], ◌∷◌, Option, Some, None, ◌⊎◌, inl, inr, cond}
use Rattle.std.proofs.Common.{is_none, length, get_or, map, set, refl, sym, ap, subst, ◌∙◌, arith, slice_get, All, count_by}
use Rattle.std.proofs.Math.Decide.{ℕ_discrete}
use Rattle.std.proofs.Math.ListN.{length-set}
use Rattle.std.proofs.lemmas.List.Elements.{All-set}
use Rattle.std.proofs.lemmas.List.Sums.{sum_by-set}
use Rattle.std.proofs.lemmas.Option.{get_or_from_slice_get, same_Some, slice_get_within}
use Rattle.fish_layout.specs.Cleared.{choose}
use Rattle.fish_catalog.specs.Closing.{AwaitsTo, with_to}
use Rattle.fish_catalog.specs.Listing.{ended, ended_at, listed_of}
use Rattle.fish_catalog.specs.Rows.{IsActive, IsCatalog, IsSpanInOrder, IsRow, is_active, with_from}
use Rattle.fish_catalog.specs.declared.listed.Listed.{Listed}
use Rattle.fish_catalog.specs.declared.row.CatRow.{CatRow}

-- ---- what becomes of each row

-- each row with a beginning set was there, and is another only where it was set
pub with_from_at : (rows : List CatRow) (id from k : ℕ) (b : CatRow) → slice_get (with_from rows id from) k ≡ Some b
    → (a : CatRow) × (slice_get rows k ≡ Some a)
    × (((k ≡ id) × (record a { from = Some from } ≡ b)) ⊎ ((k ≢ id) × (a ≡ b)))
with_from_at [] id from k b h = absurd cc
with_from_at (r ∷ rows) zero from zero b h = (r, refl, inl (refl, same_Some (record r { from = Some from }) b h))
with_from_at (r ∷ rows) zero from (suc k) b h = (b, h, inr ((λ e. omega arith), refl))
with_from_at (r ∷ rows) (suc id) from zero b h = (r, refl, inr ((λ e. omega arith), same_Some r b h))
with_from_at (r ∷ rows) (suc id) from (suc k) b h =
    let was = with_from_at rows id from k b h in (
      was.0,
      was.1,
      elim was.2 [
        | inl here ↦ inl ((omega (arith, here.0)), here.1)
        | inr other ↦ inr ((λ e. other.0 (omega (arith, e))), other.1)
      ],
    )

-- the same of an end
pub with_to_at : (rows : List CatRow) (id to k : ℕ) (b : CatRow) → slice_get (with_to rows id to) k ≡ Some b
    → (a : CatRow) × (slice_get rows k ≡ Some a)
    × (((k ≡ id) × (record a { to = Some to } ≡ b)) ⊎ ((k ≢ id) × (a ≡ b)))
with_to_at [] id to k b h = absurd cc
with_to_at (r ∷ rows) zero to zero b h = (r, refl, inl (refl, same_Some (record r { to = Some to }) b h))
with_to_at (r ∷ rows) zero to (suc k) b h = (b, h, inr ((λ e. omega arith), refl))
with_to_at (r ∷ rows) (suc id) to zero b h = (r, refl, inr ((λ e. omega arith), same_Some r b h))
with_to_at (r ∷ rows) (suc id) to (suc k) b h =
    let was = with_to_at rows id to k b h in (
      was.0,
      was.1,
      elim was.2 [
        | inl here ↦ inl ((omega (arith, here.0)), here.1)
        | inr other ↦ inr ((λ e. other.0 (omega (arith, e))), other.1)
      ],
    )

-- ---- the definitions of the rows

-- where an index begins is nothing of the definition
pub listed_with_from : (rows : List CatRow) (id from : ℕ) → map listed_of (with_from rows id from) ≡ map listed_of rows
listed_with_from [] id from = refl
listed_with_from (r ∷ rows) zero from = refl
listed_with_from (r ∷ rows) (suc id) from = ap (λ ls. listed_of r ∷ ls) (listed_with_from rows id from)

-- a definition with another id goes on
goes_on : (l : Listed) (n : ℕ) → l.id ≢ n → choose (ℕ_discrete l.id n) (ended l) l ≡ l
goes_on l n ne = by (ℕ_discrete l.id n)
  where
    by : (d : Dec (l.id ≡ n)) → choose d (ended l) l ≡ l
    by (yes e) = absurd (ne e)
    by (no other) = refl

-- and the one with the id ends
ends_here : (l : Listed) (n : ℕ) → l.id ≡ n → choose (ℕ_discrete l.id n) (ended l) l ≡ ended l
ends_here l n is = by (ℕ_discrete l.id n)
  where
    by : (d : Dec (l.id ≡ n)) → choose d (ended l) l ≡ ended l
    by (yes e) = refl
    by (no other) = absurd (other is)

-- none of rows with greater ids ends
none_ends : (rows : List CatRow) (n id : ℕ) → id < n
    → ((k : ℕ) (row : CatRow) → slice_get rows k ≡ Some row → row.id ≡ n + k)
    → ended_at id (map listed_of rows) ≡ map listed_of rows
none_ends [] n id less ids = refl
none_ends (r ∷ rows) n id less ids =
    let first = ids 0 r refl in
    let rest = none_ends rows (suc n) id (omega arith) (λ k row there. omega (arith, ids (suc k) row there)) in
    λ i. goes_on (listed_of r) id (λ e. omega arith) i ∷ rest i

-- the definition of a row ends with its index
ended_from : (rows : List CatRow) (n id to : ℕ) → id < length rows
    → ((k : ℕ) (row : CatRow) → slice_get rows k ≡ Some row → row.id ≡ n + k)
    → map listed_of (with_to rows id to) ≡ ended_at (n + id) (map listed_of rows)
ended_from [] n id to less ids = absurd (omega arith)
ended_from (r ∷ rows) n zero to less ids =
    let first = ids 0 r refl in
    let rest = none_ends rows (suc n) (n + 0) (omega arith) (λ k row there. omega (arith, ids (suc k) row there)) in
    sym (λ i. ends_here (listed_of r) (n + 0) (omega arith) i ∷ rest i)
ended_from (r ∷ rows) n (suc id) to less ids =
    let first = ids 0 r refl in
    let next : n + suc id ≡ suc n + id = omega arith in
    let rest = ended_from rows (suc n) id to (omega arith) (λ k row there. omega (arith, ids (suc k) row there)) in
    let kept : choose (ℕ_discrete r.id (n + suc id)) (ended (listed_of r)) (listed_of r) ≡ listed_of r =
    goes_on (listed_of r) (n + suc id) (λ e. omega arith) in
    ap (λ ls. listed_of r ∷ ls) (rest ∙ ap (λ m. ended_at m (map listed_of rows)) (sym next))
    ∙ sym (ap (λ l. l ∷ ended_at (n + suc id) (map listed_of rows)) kept)

pub listed_with_to : (rows : List CatRow) (id to : ℕ)
    → ((k : ℕ) (row : CatRow) → slice_get rows k ≡ Some row → row.id ≡ k) → id < length rows
    → map listed_of (with_to rows id to) ≡ ended_at id (map listed_of rows)
listed_with_to rows id to ids less =
    let same : 0 + id ≡ id = omega arith in
    ended_from rows 0 id to less (λ k row there. omega (arith, ids k row there))
    ∙ ap (λ m. ended_at m (map listed_of rows)) same

-- ---- what always holds of rows

-- the same as a write
with_to-set : (rows : List CatRow) (id to : ℕ) (row : CatRow) → slice_get rows id ≡ Some row
    → with_to rows id to ≡ set rows id (record row { to = Some to })
with_to-set [] id to row h = absurd cc
with_to-set (r ∷ rows) zero to row h = ap (λ (x : CatRow). record x { to = Some to } ∷ rows) (same_Some r row h)
with_to-set (r ∷ rows) (suc id) to row h = ap (λ t. r ∷ t) (with_to-set rows id to row h)

-- an active row less
count_closed : (rows : List CatRow) (id to : ℕ) (row : CatRow) → slice_get rows id ≡ Some row → row.to ≡ None
    → count_by is_active (set rows id (record row { to = Some to })) + 1 ≡ count_by is_active rows
count_closed rows id to row there active =
    let new : CatRow = record row { to = Some to } in
    let here = get_or_from_slice_get rows id row row there in
    omega (
      arith,
      slice_get_within rows id row there,
      sum_by-set (λ r. cond (is_active r) 1 0) rows id new row (slice_get_within rows id row there),
      ap {B = ℕ} (λ (r : CatRow). cond (is_active r) 1 0) here,
      ap {B = ℕ} (λ (t : Option ℕ). cond (is_none t) 1 0) active,
    )

-- an end where the index began or after
closes_in_order : (begin : Option ℕ) (from to : ℕ) → begin ≡ Some from → from ≤ to → IsSpanInOrder begin (Some to)
closes_in_order begin from to begins upto = subst (λ b. IsSpanInOrder b (Some to)) (sym begins) upto

-- an end that is set once
IsCatalog-with_to : (rows : List CatRow) (id to : ℕ) → IsCatalog rows → AwaitsTo rows id to → IsCatalog (with_to rows id to)
IsCatalog-with_to rows id to old awaits =
    let row = awaits.row in
    let new : CatRow = record row { to = Some to } in
    let is = with_to-set rows id to row awaits.there in
    let within = slice_get_within rows id row awaits.there in
    let proper : IsRow row =
    subst IsRow (get_or_from_slice_get rows id row row awaits.there) (old.each id row within) in
    let each = All-set IsRow rows id new (record {
      name = proper.name;
      text = proper.text;
      order = closes_in_order row.from awaits.from to awaits.begins awaits.upto;
    }) old.each in
    record {
      few = omega (arith, ap length is, length-set rows id new, old.few);
      ids = λ k b here. let was = with_to_at rows id to k b here in
          elim was.2 [
            | inl same ↦ ap (λ (r : CatRow). r.id) (sym same.1) ∙ old.ids k was.0 was.1
            | inr other ↦ ap (λ (r : CatRow). r.id) (sym other.1) ∙ old.ids k was.0 was.1
          ];
      each = subst (All IsRow) (sym is) each;
      few_active = omega (
        arith,
        ap (count_by is_active) is,
        count_closed rows id to row awaits.there awaits.active,
        old.few_active,
      );
      apart = λ j k one other at_j at_k one_active other_active same.
          let one_was = with_to_at rows id to j one at_j in
          let other_was = with_to_at rows id to k other at_k in
          elim one_was.2 [
            | inl here ↦ absurd (some_end one to (ap (λ (r : CatRow). r.to) (sym here.1)) one_active)
            | inr apart_one ↦ elim other_was.2 [
              | inl here ↦ absurd (some_end other to (ap (λ (r : CatRow). r.to) (sym here.1)) other_active)
              | inr apart_other ↦ old.apart j k one_was.0 other_was.0 one_was.1 other_was.1
                  (ap (λ (r : CatRow). r.to) apart_one.1 ∙ one_active)
                  (ap (λ (r : CatRow). r.to) apart_other.1 ∙ other_active)
                  (ap (λ (r : CatRow). r.name) apart_one.1 ∙ same ∙ ap (λ (r : CatRow). r.name) (sym apart_other.1))
            ]
          ];
    }
  where
    some_end : (row : CatRow) (to : ℕ) → row.to ≡ Some to → ¬ IsActive row
    some_end row to is active = (let e = sym active ∙ is in cc)

-- a write of the row whose index ends
pub set-with_to : (rows seen : List CatRow) (i id to : ℕ) (x : CatRow) → rows ≡ seen → i ≡ id
    → x ≡ get_or rows i x → AwaitsTo seen id to → set rows i (record x { to = Some to }) ≡ with_to seen id to
set-with_to rows seen i id to x is at found awaits =
    let closed : CatRow → CatRow = λ r. record r { to = Some to } in
    let read : get_or rows i x ≡ get_or seen id x = ap (λ r. get_or r i x) is ∙ ap (λ k. get_or seen k x) at in
    let same : x ≡ awaits.row = found ∙ read ∙ get_or_from_slice_get seen id awaits.row x awaits.there in
    ap (λ r. set r i (closed x)) is ∙ ap (λ k. set seen k (closed x)) at ∙ ap (λ r. set seen id (closed r)) same
    ∙ sym (with_to-set seen id to awaits.row awaits.there)

-- what that write keeps
pub IsCatalog-closed : (rows seen : List CatRow) (i id to : ℕ) (x : CatRow) → rows ≡ seen → i ≡ id
    → x ≡ get_or rows i x → AwaitsTo seen id to → IsCatalog rows → IsCatalog (set rows i (record x { to = Some to }))
IsCatalog-closed rows seen i id to x is at found awaits old =
    subst IsCatalog (sym (set-with_to rows seen i id to x is at found awaits))
    (IsCatalog-with_to seen id to (subst IsCatalog is old) awaits)
