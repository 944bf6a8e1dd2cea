-- What always holds of rows stays, as one is put after the others, and as a beginning is set.
use Rattle.std.proofs.Common.{◌≡◌, ℕ, zero, suc, ◌+◌, ◌<◌, List, [], ◌∷◌, ◌++◌, Option, Some, None, ◌⊎◌, inl, inr, cond}
use Rattle.std.proofs.Common.{is_none, length, get_or, set, refl, sym, ap, subst, ◌∙◌, arith, length-append, slice_get}
use Rattle.std.proofs.Common.{All, count_by}
use Rattle.std.proofs.lemmas.List.Elements.{All-push, All-set}
use Rattle.std.proofs.lemmas.List.Sums.{sum_by-set, sum_by_push}
use Rattle.std.proofs.lemmas.Option.{get_or_from_slice_get, same_Some, slice_get_within}
use Rattle.std.proofs.Math.ListN.{length-set}
use Rattle.fish_catalog.specs.Canonical.{IsCanonical}
use Rattle.fish_catalog.specs.Rows.{AwaitsFrom, HasActive, IsActive, IsCatalog, IsSpanInOrder, IsName, IsRow, is_active, new_row, with_from}
use Rattle.fish_catalog.specs.Limits.{most_active, most_rows}
use Rattle.fish_catalog.specs.declared.row.CatRow.{CatRow}

-- an element of the longer list is one of before, or the last
pub push_cases : {X : Type 0} (xs : List X) (y : X) (k : ℕ) (x : X) → slice_get (xs ++ y ∷ []) k ≡ Some x →
    (slice_get xs k ≡ Some x) ⊎ ((k ≡ length xs) × (y ≡ x))
push_cases [] y zero x h = inr (refl, same_Some y x h)
push_cases [] y (suc k) x h = absurd (cc)
push_cases (r ∷ xs) y zero x h = inl h
push_cases (r ∷ xs) y (suc k) x h =
    elim (push_cases xs y k x h) [ inl before ↦ inl before | inr last ↦ inr (omega (arith, last.0), last.1) ]

-- two active rows of the longer list have two names
apart_push : (rows : List CatRow) (y : CatRow) → IsCatalog rows → ¬ HasActive rows y.name →
    (j k : ℕ) (one other : CatRow) → slice_get (rows ++ y ∷ []) j ≡ Some one →
    slice_get (rows ++ y ∷ []) k ≡ Some other → IsActive one → IsActive other → one.name ≡ other.name → j ≡ k
apart_push rows y old fresh j k one other at_j at_k one_active other_active same =
    elim (push_cases rows y j one at_j) [
      | inl early ↦ elim (push_cases rows y k other at_k) [
        | inl early_too ↦ old.apart j k one other early early_too one_active other_active same
        | inr last ↦ absurd (fresh (
          j,
          record {
            row = one;
            there = early;
            named = same ∙ ap (λ r. r.name) (sym last.1);
            active = one_active;
          },
        ))
      ]
      | inr last ↦ elim (push_cases rows y k other at_k) [
        | inl early ↦ absurd (fresh (
          k,
          record {
            row = other;
            there = early;
            named = sym same ∙ ap (λ r. r.name) (sym last.1);
            active = other_active;
          },
        ))
        | inr last_too ↦ last.0 ∙ sym last_too.0
      ]
    ]

-- an active row more
count_push : (rows : List CatRow) (y : CatRow) → IsActive y →
    count_by is_active (rows ++ y ∷ []) ≡ count_by is_active rows + 1
count_push rows y active = omega (
  arith,
  sum_by_push (λ r. cond (is_active r) 1 0) rows y,
  ap {B = ℕ} (λ (t : Option ℕ). cond (is_none t) 1 0) active,
)

-- an active row with the next id, after the others
pub IsCatalog-push : (rows : List CatRow) (y : CatRow) → IsCatalog rows → y.id ≡ length rows → IsRow y → IsActive y →
    ¬ HasActive rows y.name → count_by is_active rows < most_active → length rows < most_rows →
    IsCatalog (rows ++ y ∷ [])
IsCatalog-push rows y old next proper active fresh room_active room = record {
  few = omega (arith, length-append rows (y ∷ []));
  ids = λ k row here. elim (push_cases rows y k row here) [
    | inl early ↦ old.ids k row early
    | inr last ↦ ap (λ r. r.id) (sym last.1) ∙ next ∙ sym last.0
  ];
  each = All-push IsRow rows y old.each proper;
  few_active = omega (arith, count_push rows y active);
  apart = apart_push rows y old fresh;
}

-- a list that a push of the new row gave
pub IsCatalog-added : (rows seen now : List CatRow) (id : ℕ) (name def name_copy def_copy : List ℕ) → rows ≡ seen →
    now ≡ rows ++ new_row id name_copy def_copy ∷ [] → id ≡ length rows → name_copy ≡ name → def_copy ≡ def →
    IsCatalog rows → IsName name → IsCanonical def → ¬ HasActive seen name → count_by is_active seen < most_active →
    length seen < most_rows → IsCatalog now
IsCatalog-added rows seen now id name def name_copy def_copy is pushed next named spelled old short text fresh active
    room =
    subst IsCatalog (sym pushed) (IsCatalog-push rows (new_row id name_copy def_copy) old next
    (record { name = subst IsName (sym named) short; text = subst IsCanonical (sym spelled) text; order = tt })
    refl (λ has. fresh (subst (HasActive seen) named (subst (λ r. HasActive r name_copy) is has)))
    (subst (λ r. count_by is_active r < most_active) (sym is) active) (subst (λ r. length r < most_rows) (sym is) room))

-- a row with another beginning, or the same row
record SameButFrom (a b : CatRow) : Type 0 where
  id : a.id ≡ b.id
  name : a.name ≡ b.name
  to : a.to ≡ b.to

-- each row was there with all but its beginning
with_from_row : (rows : List CatRow) (id from k : ℕ) (b : CatRow) → slice_get (with_from rows id from) k ≡ Some b →
    (a : CatRow) × (slice_get rows k ≡ Some a) × SameButFrom a b
with_from_row [] id from k b h = absurd (cc)
with_from_row (r ∷ rows) zero from zero b h =
    let is = same_Some (record r { from = Some from }) b h in
    (r, refl, record { id = ap (λ x. x.id) is; name = ap (λ x. x.name) is; to = ap (λ x. x.to) is })
with_from_row (r ∷ rows) zero from (suc k) b h = (b, h, record { id = refl; name = refl; to = refl })
with_from_row (r ∷ rows) (suc id) from zero b h = (b, h, record { id = refl; name = refl; to = refl })
with_from_row (r ∷ rows) (suc id) from (suc k) b h = with_from_row rows id from k b h

-- the same as a write
pub with_from-set : (rows : List CatRow) (id from : ℕ) (row : CatRow) → slice_get rows id ≡ Some row →
    with_from rows id from ≡ set rows id (record row { from = Some from })
with_from-set [] id from row h = absurd (cc)
with_from-set (r ∷ rows) zero from row h =
    ap (λ (x : CatRow). record x { from = Some from } ∷ rows) (same_Some r row h)
with_from-set (r ∷ rows) (suc id) from row h = ap (λ t. r ∷ t) (with_from-set rows id from row h)

-- an index that had not begun has no end
begins_in_order : (begin end : Option ℕ) (from : ℕ) → begin ≡ None → IsSpanInOrder begin end → IsSpanInOrder (Some from) end
begins_in_order begin None from unset h = tt
begins_in_order None (Some to) from unset h = absurd h
begins_in_order (Some begin) (Some to) from unset h = absurd (cc)

-- as many active rows
count_set : (rows : List CatRow) (id from : ℕ) (row : CatRow) → slice_get rows id ≡ Some row →
    count_by is_active (set rows id (record row { from = Some from })) ≡ count_by is_active rows
count_set rows id from row there =
    let new : CatRow = record row { from = Some from } in
    let here = get_or_from_slice_get rows id row row there in
    omega (
      arith,
      slice_get_within rows id row there,
      sum_by-set (λ r. cond (is_active r) 1 0) rows id new row (slice_get_within rows id row there),
      ap {B = ℕ} (λ (r : CatRow). cond (is_active r) 1 0) here,
    )

-- a beginning that is set once
pub IsCatalog-with_from : (rows : List CatRow) (id from : ℕ) → IsCatalog rows → AwaitsFrom rows id →
    IsCatalog (with_from rows id from)
IsCatalog-with_from rows id from old awaits =
    let row = awaits.row in
    let new : CatRow = record row { from = Some from } in
    let is = with_from-set rows id from row awaits.there in
    let within = slice_get_within rows id row awaits.there in
    let proper : IsRow row =
    subst IsRow (get_or_from_slice_get rows id row row awaits.there) (old.each id row within) in
    let each = All-set IsRow rows id new (record {
      name = proper.name;
      text = proper.text;
      order = begins_in_order row.from row.to from awaits.unset proper.order;
    }) old.each in
    record {
      few = omega (arith, ap length is, length-set rows id new, old.few);
      ids = λ k b here. let was = with_from_row rows id from k b here in sym was.2.id ∙ old.ids k was.0 was.1;
      each = subst (All IsRow) (sym is) each;
      few_active = omega (arith, ap (count_by is_active) is, count_set rows id from row awaits.there, old.few_active);
      apart = λ j k one other at_j at_k one_active other_active same.
          let one_was = with_from_row rows id from j one at_j in
          let other_was = with_from_row rows id from k other at_k in
          old.apart j k one_was.0 other_was.0 one_was.1 other_was.1 (one_was.2.to ∙ one_active)
          (other_was.2.to ∙ other_active) (one_was.2.name ∙ same ∙ sym other_was.2.name);
    }

-- a write of the row that waits for its beginning
pub set-with_from : (rows seen : List CatRow) (i id from : ℕ) (x : CatRow) → rows ≡ seen → i ≡ id →
    x ≡ get_or rows i x → AwaitsFrom seen id → set rows i (record x { from = Some from }) ≡ with_from seen id from
set-with_from rows seen i id from x is at found awaits =
    let begun : CatRow → CatRow = λ r. record r { from = Some from } in
    let read : get_or rows i x ≡ get_or seen id x = ap (λ r. get_or r i x) is ∙ ap (λ k. get_or seen k x) at in
    let same : x ≡ awaits.row = found ∙ read ∙ get_or_from_slice_get seen id awaits.row x awaits.there in
    ap (λ r. set r i (begun x)) is ∙ ap (λ k. set seen k (begun x)) at ∙ ap (λ r. set seen id (begun r)) same
    ∙ sym (with_from-set seen id from awaits.row awaits.there)

-- what that write keeps
pub IsCatalog-set : (rows seen : List CatRow) (i id from : ℕ) (x : CatRow) → rows ≡ seen → i ≡ id →
    x ≡ get_or rows i x → AwaitsFrom seen id → IsCatalog rows → IsCatalog (set rows i (record x { from = Some from }))
IsCatalog-set rows seen i id from x is at found awaits old =
    subst IsCatalog (sym (set-with_from rows seen i id from x is at found awaits))
    (IsCatalog-with_from seen id from (subst IsCatalog is old) awaits)
