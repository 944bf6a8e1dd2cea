-- A range has one plan at most, and each of its numbers is in one piece.
use Rattle.std.proofs.Common.{◌≡◌, ℕ, zero, suc, ◌+◌, ◌-◌, ◌<◌, ◌≤◌, List, [], ◌∷◌, Some, inl, inr, max, slice_get}
use Rattle.std.proofs.Common.{refl, sym, ap, subst, ◌∙◌, arith}
use Rattle.std.proofs.Math.Decide.{dec_lt}
use Rattle.std.proofs.lemmas.Option.{same_Some}
use Rattle.fish_catalog.specs.declared.interval.Interval.{Interval}
use Rattle.fish_plan.specs.Cover.{IsCover, IsIndexedPiece, cut}
use Rattle.fish_plan.specs.Intervals.{IsHeldBy, IsOldest}
use Rattle.fish_plan.specs.Pieces.{Fill, IsIn, piece_from, piece_to}
use Rattle.fish_plan.specs.declared.pieces.Piece.{Piece}
use Rattle.fish_plan.specs.declared.pieces.Piece.TheVariants.{Index, Full}

-- what the pieces fill is no range turned round
pub fill_order : (ps : List Piece) (from to : ℕ) → Fill ps from to → from ≤ to
fill_order [] from to h = omega (arith, h)
fill_order (z ∷ ps) from to h = omega (arith, h.1, fill_order ps from (piece_from z) h.2)

-- after the first piece of a plan stands the plan of what is left
cover_rest : (x : Piece) (ps : List Piece) (from settled to : ℕ) (xs : List Interval) → IsCover (x ∷ ps) from settled to xs
    → IsCover ps from settled (piece_from x) xs
cover_rest x ps from settled to xs h = record {
  fill = h.fill.2;
  unsettled = λ some. absurd (below (dec_lt (cut from settled to) to) some);
  right = λ k y there. h.right (suc k) y there;
  apart = λ k a b c first second. h.apart (suc k) a b c first
      (let e : suc (k + 1) ≡ suc k + 1 = omega arith in subst (λ (i : ℕ). slice_get (x ∷ ps) i ≡ Some (Full a b)) e second);
}
  where
    order : from ≤ piece_from x
    order = fill_order ps from (piece_from x) h.fill.2

    below : Dec (cut from settled to < to) → cut from settled (piece_from x) < piece_from x → ⊥
    below (yes less) some =
        let e : piece_from x ≡ cut from settled to = ap piece_from (same_Some x (Full (cut from settled to) to) (h.unsettled less)) in
        let falls : piece_from x < to = h.fill.1 in let low : from ≤ piece_from x = order in omega arith
    below (no not_less) some =
        let falls : piece_from x < to = h.fill.1 in let low : from ≤ piece_from x = order in omega arith

-- two oldest intervals begin at one number under one id
oldest_same : (xs : List Interval) (n : ℕ) (x y : Interval) → IsOldest xs n x → IsOldest xs n y
    → (x.from ≡ y.from) × (x.id ≡ y.id)
oldest_same xs n x y one other = elim (one.ahead other.position y other.there other.holds) [
  | inl less ↦ elim (other.ahead one.position x one.there one.holds) [
    | inl more ↦ absurd (omega arith)
    | inr same ↦ absurd (omega (arith, same.0))
  ]
  | inr same ↦ elim (other.ahead one.position x one.there one.holds) [
    | inl more ↦ absurd (omega (arith, same.0))
    | inr too ↦ (same.0, omega (arith, same.1, too.1))
  ]
]

-- a number whose oldest interval is there is held
held_by : (xs : List Interval) (n : ℕ) (x : Interval) → IsOldest xs n x → IsHeldBy xs n
held_by xs n x h = record { position = h.position; interval = x; there = h.there; holds = h.holds }

-- where a full piece below settled begins above the range's beginning, an interval holds the number before it
above_low : (ps : List Piece) (p q : ℕ) (from settled to : ℕ) (xs : List Interval) → IsCover (Full p q ∷ ps) from settled to xs
    → q ≤ settled → from < p → IsHeldBy xs (p - 1)
above_low [] p q from settled to xs h below above = absurd (omega (arith, h.fill.2))
above_low (Index id a b ∷ ps) p q from settled to xs h below above =
    let at : b ≡ p = h.fill.2.0 in
    let i : IsIndexedPiece xs from settled id a b = h.right 1 (Index id a b) refl in
    subst (λ (k : ℕ). IsHeldBy xs (k - 1)) at (held_by xs (b - 1) i.interval i.oldest)
above_low (Full a b ∷ ps) p q from settled to xs h below above =
    let at : b ≡ p = h.fill.2.0 in
    absurd (omega (arith, h.apart 0 a p q refl (ap (λ (k : ℕ). Some (Full a k)) at)))

-- of two full pieces of two plans that end together below settled none begins below the other
no_lower : (ps qs : List Piece) (a c end from settled : ℕ) (xs : List Interval) → IsCover (Full a end ∷ ps) from settled end xs
    → IsCover (Full c end ∷ qs) from settled end xs → end ≤ settled → a < c → ⊥
no_lower ps qs a c end from settled xs h k below less =
    let low : from ≤ a = fill_order ps from a h.fill.2 in
    let falls : c < end = k.fill.1 in
    let clear : end ≤ settled → (n : ℕ) → a ≤ n → n < end → ¬ IsHeldBy xs n = h.right 0 (Full a end) refl in
    clear below (c - 1) (omega arith) (omega arith) (above_low qs c end from settled end xs k below (omega arith))

-- so they are one
full_same : (ps qs : List Piece) (a b c d to from settled : ℕ) (xs : List Interval) → IsCover (Full a b ∷ ps) from settled to xs
    → IsCover (Full c d ∷ qs) from settled to xs → to ≤ settled → Full a b ≡ Full c d
full_same ps qs a b c d to from settled xs h k below =
    let ends : b ≡ to = h.fill.0 in
    let too : d ≡ to = k.fill.0 in
    let one : IsCover (Full a to ∷ ps) from settled to xs = subst (λ (e : ℕ). IsCover (Full a e ∷ ps) from settled to xs) ends h in
    let other : IsCover (Full c to ∷ qs) from settled to xs = subst (λ (e : ℕ). IsCover (Full c e ∷ qs) from settled to xs) too k in
    let same : a ≡ c = elim (dec_lt a c) [
      | yes less ↦ absurd (no_lower ps qs a c to from settled xs one other below less)
      | no upto ↦ elim (dec_lt c a) [
        | yes more ↦ absurd (no_lower qs ps c a to from settled xs other one below more)
        | no not_more ↦ omega arith
      ]
    ] in
    let e : b ≡ d = ends ∙ sym too in
    λ t. Full (same t) (e t)

-- a full piece of one plan and an index piece of another don't end together below settled
mixed : (xs : List Interval) (from settled id a b p : ℕ) → IsIndexedPiece xs from settled id a b → p < b → b ≤ settled
    → (b ≤ settled → (n : ℕ) → p ≤ n → n < b → ¬ IsHeldBy xs n) → ⊥
mixed xs from settled id a b p i less below clear =
    clear below (b - 1) (omega arith) (omega arith) (held_by xs (b - 1) i.interval i.oldest)

-- two plans of what is left begin with one piece
first_same : (x y : Piece) (ps qs : List Piece) (from settled to : ℕ) (xs : List Interval) → IsCover (x ∷ ps) from settled to xs
    → IsCover (y ∷ qs) from settled to xs → to ≤ settled → x ≡ y
first_same (Index i a b) (Index j c d) ps qs from settled to xs h k below =
    let one : IsIndexedPiece xs from settled i a b = h.right 0 (Index i a b) refl in
    let other : IsIndexedPiece xs from settled j c d = k.right 0 (Index j c d) refl in
    let ends : b ≡ d = h.fill.0 ∙ sym k.fill.0 in
    let same = oldest_same xs (d - 1) one.interval other.interval
    (subst (λ (n : ℕ). IsOldest xs (n - 1) one.interval) ends one.oldest) other.oldest in
    let ids : i ≡ j = sym one.named ∙ same.1 ∙ other.named in
    let begins : a ≡ c = one.begins ∙ ap (λ (n : ℕ). max n from) same.0 ∙ sym other.begins in
    λ t. Index (ids t) (begins t) (ends t)
first_same (Index i a b) (Full p q) ps qs from settled to xs h k below =
    let end : b ≡ q = h.fill.0 ∙ sym k.fill.0 in
    let clear : q ≤ settled → (n : ℕ) → p ≤ n → n < q → ¬ IsHeldBy xs n = k.right 0 (Full p q) refl in
    absurd (mixed xs from settled i a b p (h.right 0 (Index i a b) refl) (omega (arith, k.fill.1, k.fill.0, end)) (omega (arith, h.fill.0))
    (subst (λ (e : ℕ). e ≤ settled → (n : ℕ) → p ≤ n → n < e → ¬ IsHeldBy xs n) (sym end) clear))
first_same (Full p q) (Index i a b) ps qs from settled to xs h k below =
    let end : b ≡ q = k.fill.0 ∙ sym h.fill.0 in
    let clear : q ≤ settled → (n : ℕ) → p ≤ n → n < q → ¬ IsHeldBy xs n = h.right 0 (Full p q) refl in
    absurd (mixed xs from settled i a b p (k.right 0 (Index i a b) refl) (omega (arith, h.fill.1, h.fill.0, end)) (omega (arith, k.fill.0))
    (subst (λ (e : ℕ). e ≤ settled → (n : ℕ) → p ≤ n → n < e → ¬ IsHeldBy xs n) (sym end) clear))
first_same (Full a b) (Full c d) ps qs from settled to xs h k below = full_same ps qs a b c d to from settled xs h k below

-- two plans of a range begin with one piece
heads : (x y : Piece) (ps qs : List Piece) (from settled to : ℕ) (xs : List Interval) → IsCover (x ∷ ps) from settled to xs
    → IsCover (y ∷ qs) from settled to xs → x ≡ y
heads x y ps qs from settled to xs h k = elim (dec_lt (cut from settled to) to) [
  | yes less ↦ same_Some x y (h.unsettled less ∙ sym (k.unsettled less))
  | no upto ↦ first_same x y ps qs from settled to xs h k (
      let falls : piece_from x < to = h.fill.1 in
      let low : from ≤ piece_from x = fill_order ps from (piece_from x) h.fill.2 in omega arith)
]

-- two plans of one range are one
pub one_plan : (ps qs : List Piece) (from settled to : ℕ) (xs : List Interval) → IsCover ps from settled to xs
    → IsCover qs from settled to xs → ps ≡ qs
one_plan [] [] from settled to xs h k = refl
one_plan [] (y ∷ qs) from settled to xs h k = absurd (omega (arith, h.fill, k.fill.1, fill_order qs from (piece_from y) k.fill.2))
one_plan (x ∷ ps) [] from settled to xs h k = absurd (omega (arith, k.fill, h.fill.1, fill_order ps from (piece_from x) h.fill.2))
one_plan (x ∷ ps) (y ∷ qs) from settled to xs h k =
    let same : x ≡ y = heads x y ps qs from settled to xs h k in
    let rest : ps ≡ qs = one_plan ps qs from settled (piece_from x) xs (cover_rest x ps from settled to xs h)
    (subst (λ (z : Piece). IsCover qs from settled (piece_from z) xs) (sym same) (cover_rest y qs from settled to xs k)) in
    λ t. same t ∷ rest t

-- a number of the range is in one of the pieces
piece_of : (ps : List Piece) (from to n : ℕ) → Fill ps from to → from ≤ n → n < to → (position : ℕ) × IsIn ps n position
piece_of [] from to n h least most = absurd (omega (arith, h))
piece_of (x ∷ ps) from to n h least most = elim (dec_lt n (piece_from x)) [
  | yes less ↦ (let at = piece_of ps from (piece_from x) n h.2 least less in
      (suc at.0, record { piece = at.1.piece; there = at.1.there; begins = at.1.begins; ends = at.1.ends }))
  | no upto ↦ (0, record { piece = x; there = refl; begins = omega arith; ends = omega (arith, h.0) })
]

-- what is in a piece lies below the end of what all fill
below_end : (ps : List Piece) (from to n position : ℕ) → Fill ps from to → IsIn ps n position → n < to
below_end [] from to n position h is = absurd (let no = is.there in cc)
below_end (x ∷ ps) from to n zero h is =
    let e : x ≡ is.piece = same_Some x is.piece is.there in omega (arith, h.0, ap piece_to e, is.ends)
below_end (x ∷ ps) from to n (suc position) h is = omega (arith, h.1, below_end ps from (piece_from x) n position h.2 (rest is))
  where
    rest : IsIn (x ∷ ps) n (suc position) → IsIn ps n position
    rest i = record { piece = i.piece; there = i.there; begins = i.begins; ends = i.ends }

-- and in no second one
one_place : (ps : List Piece) (from to n j k : ℕ) → Fill ps from to → IsIn ps n j → IsIn ps n k → j ≡ k
one_place [] from to n j k h at_j at_k = absurd (let no = at_j.there in cc)
one_place (x ∷ ps) from to n zero zero h at_j at_k = refl
one_place (x ∷ ps) from to n zero (suc k) h at_j at_k =
    let e : x ≡ at_j.piece = same_Some x at_j.piece at_j.there in
    absurd (omega (
      arith,
      ap piece_from e,
      at_j.begins,
      below_end ps from (piece_from x) n k h.2
          (record { piece = at_k.piece; there = at_k.there; begins = at_k.begins; ends = at_k.ends }),
    ))
one_place (x ∷ ps) from to n (suc j) zero h at_j at_k =
    let e : x ≡ at_k.piece = same_Some x at_k.piece at_k.there in
    absurd (omega (
      arith,
      ap piece_from e,
      at_k.begins,
      below_end ps from (piece_from x) n j h.2
          (record { piece = at_j.piece; there = at_j.there; begins = at_j.begins; ends = at_j.ends }),
    ))
one_place (x ∷ ps) from to n (suc j) (suc k) h at_j at_k = ap (λ (i : ℕ). suc i) (one_place ps from (piece_from x) n j k h.2
    (record { piece = at_j.piece; there = at_j.there; begins = at_j.begins; ends = at_j.ends })
    (record { piece = at_k.piece; there = at_k.there; begins = at_k.begins; ends = at_k.ends }))

-- each number of the range is in one piece
pub each_in_one : (ps : List Piece) (from to n : ℕ) → Fill ps from to → from ≤ n → n < to
    → (position : ℕ) × IsIn ps n position × ((other : ℕ) → IsIn ps n other → other ≡ position)
each_in_one ps from to n h least most =
    let at = piece_of ps from to n h least most in
    (at.0, at.1, λ other is. one_place ps from to n other at.0 h is at.1)
