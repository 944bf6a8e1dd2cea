-- The intervals of the rows up to one of them.
use Rattle.std.proofs.Common.{◌≡◌, ℕ, zero, suc, ◌+◌, ◌<◌, ◌≤◌, inl, inr, List, [], ◌∷◌, ◌++◌, Some, length}
use Rattle.std.proofs.Common.{slice_get, refl, sym, ap, subst, ◌∙◌, arith}
use Rattle.std.proofs.Math.Decide.{ℕ_discrete}
use Rattle.std.proofs.lemmas.Option.{same_Some, slice_get_within}
use Rattle.fish_catalog.proofs.Changes.{push_cases}
use Rattle.fish_catalog.specs.Intervals.{AreIntervals, IsIntervalOf}
use Rattle.fish_catalog.specs.within.Intervals.{IsIntervalAdded}
use Rattle.fish_catalog.specs.declared.interval.Interval.{Interval}
use Rattle.fish_catalog.specs.declared.row.CatRow.{CatRow}

-- these are the intervals of the rows below n
pub record AreBelow (rows : List CatRow) (def : List ℕ) (n : ℕ) (xs : List Interval) : Type 0 where
  pub sound : (i : ℕ) (x : Interval) → slice_get xs i ≡ Some x → IsIntervalOf rows def x × (x.id < n)
  pub complete : (x : Interval) → IsIntervalOf rows def x → x.id < n → (i : ℕ) × (slice_get xs i ≡ Some x)
  pub rise : (i j : ℕ) (x y : Interval) → slice_get xs i ≡ Some x → slice_get xs j ≡ Some y → i < j → x.id < y.id

-- an element of a list stands in the longer one
longer : (xs : List Interval) (y x : Interval) (i : ℕ) → slice_get xs i ≡ Some x → slice_get (xs ++ y ∷ []) i ≡ Some x
longer [] y x i there = absurd cc
longer (z ∷ xs) y x zero there = there
longer (z ∷ xs) y x (suc i) there = longer xs y x i there

-- and the new one is its last
last : (xs : List Interval) (y : Interval) → slice_get (xs ++ y ∷ []) (length xs) ≡ Some y
last [] y = refl
last (z ∷ xs) y = last xs y

-- one row more
pub below_next : (rows : List CatRow) (def : List ℕ) (n : ℕ) (row : CatRow) (xs ys : List Interval)
    → AreBelow rows def n xs → slice_get rows n ≡ Some row → row.id ≡ n → IsIntervalAdded row def xs ys
    → AreBelow rows def (n + 1) ys
below_next rows def n row xs ys h there id (inl added) =
    let new : Interval = record { id = row.id; from = added.0; to = row.to } in
    let here : slice_get rows row.id ≡ Some row = ap (slice_get rows) id ∙ there in
    subst (AreBelow rows def (n + 1)) (sym added.3) (record {
      sound = λ i x at. elim (push_cases xs new i x at) [
        | inl old ↦ (let s = h.sound i x old in (s.0, omega (arith, s.1)))
        | inr e ↦ subst (λ (z : Interval). IsIntervalOf rows def z × (z.id < n + 1)) e.1 (
          record { row = row; there = here; text = added.1; begins = added.2; ends = refl },
          omega (arith, id),
        )
      ];
      complete = λ x is less. elim (ℕ_discrete x.id n) [
        | yes e ↦ (length xs, last xs new ∙ ap (λ (z : Interval). Some z) (same x is e))
        | no ne ↦ (let old = h.complete x is (omega arith) in (old.0, longer xs new x old.0 old.1))
      ];
      rise = λ i j x y at_i at_j less. elim (push_cases xs new j y at_j) [
        | inl old_j ↦ elim (push_cases xs new i x at_i) [
          | inl old_i ↦ h.rise i j x y old_i old_j less
          | inr e ↦ (let inside = slice_get_within xs j y old_j in let position = e.0 in absurd (omega arith))
        ]
        | inr e ↦ elim (push_cases xs new i x at_i) [
          | inl old_i ↦ omega (arith, (h.sound i x old_i).1, ap (λ (z : Interval). z.id) e.1, id)
          | inr f ↦ (let a = e.0 in let b = f.0 in absurd (omega arith))
        ]
      ];
    })
  where
    same : (x : Interval) → IsIntervalOf rows def x → x.id ≡ n → record { id = row.id; from = added.0; to = row.to } ≡ x
    same x is e =
        let r : row ≡ is.row = same_Some row is.row (sym there ∙ ap (slice_get rows) (sym e) ∙ is.there) in
        let from : added.0 ≡ x.from = same_Some added.0 x.from (sym added.2 ∙ ap (λ (z : CatRow). z.from) r ∙ is.begins) in
        let to : row.to ≡ x.to = ap (λ (z : CatRow). z.to) r ∙ is.ends in
        let ids : row.id ≡ x.id = id ∙ sym e in
        λ i. record { id = ids i; from = from i; to = to i }
below_next rows def n row xs ys h there id (inr none) = subst (AreBelow rows def (n + 1)) (sym none.1) (record {
  sound = λ i x at. let s = h.sound i x at in (s.0, omega (arith, s.1));
  complete = λ x is less. elim (ℕ_discrete x.id n) [
    | yes e ↦ (let r : row ≡ is.row = same_Some row is.row (sym there ∙ ap (slice_get rows) (sym e) ∙ is.there) in
        absurd (none.0 x.from (ap (λ (z : CatRow). z.def) r ∙ is.text) (ap (λ (z : CatRow). z.from) r ∙ is.begins)))
    | no ne ↦ h.complete x is (omega arith)
  ];
  rise = h.rise;
})

-- and at last all are there
pub below_all : (rows : List CatRow) (def : List ℕ) (n : ℕ) (xs : List Interval) → length rows ≤ n → AreBelow rows def n xs
    → AreIntervals rows def xs
below_all rows def n xs past h = record {
  sound = λ i x at. (h.sound i x at).0;
  complete = λ x is. h.complete x is (omega (arith, slice_get_within rows x.id is.row is.there));
  rise = h.rise;
}
