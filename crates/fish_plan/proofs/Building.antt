-- A plan while it is built, from the top of the range down.
use Rattle.std.proofs.Common.{◌≡◌, ℕ, zero, suc, ◌+◌, ◌-◌, ◌<◌, ◌≤◌, List, [], ◌∷◌, ◌++◌, Some, inl, inr, max, min}
use Rattle.std.proofs.Common.{slice_get, refl, sym, ap, subst, ◌∙◌, arith}
use Rattle.std.proofs.Math.Decide.{dec_lt}
use Rattle.std.proofs.lemmas.Option.{same_Some, slice_get_within}
use Rattle.fish_catalog.specs.declared.interval.Interval.{Interval}
use Rattle.fish_plan.proofs.Lists.{longer, push_cases}
use Rattle.fish_plan.specs.Cover.{IsRight, cut}
use Rattle.fish_plan.specs.Intervals.{IsHeldBy}
use Rattle.fish_plan.specs.within.Next.{IsMet, IsNextPiece}
use Rattle.fish_plan.specs.Pieces.{Fill, piece_from, piece_to}
use Rattle.fish_plan.specs.declared.pieces.Piece.{Piece}
use Rattle.fish_plan.specs.declared.pieces.Piece.TheVariants.{Index, Full}

-- the pieces are the plan of the range from `end` up
pub record IsBuilt (pieces : List Piece) (from end settled to : ℕ) (xs : List Interval) : Type 0 where
  pub low : from ≤ end
  pub high : end ≤ cut from settled to
  pub fill : Fill pieces end to
  pub unsettled : cut from settled to < to → slice_get pieces 0 ≡ Some (Full (cut from settled to) to)
  pub right : (k : ℕ) (x : Piece) → slice_get pieces k ≡ Some x → IsRight xs from settled x
  pub apart : (k a b c : ℕ) → slice_get pieces k ≡ Some (Full b c) → slice_get pieces (k + 1) ≡ Some (Full a b)
      → settled < c
  -- below a full piece under the settled number an interval holds the next number
  pub next : (k b : ℕ) → slice_get pieces k ≡ Some (Full end b) → b ≤ settled → from < end → IsHeldBy xs (end - 1)

-- one piece more below the others
fill_push : (pieces : List Piece) (x : Piece) (from to : ℕ) → Fill pieces from to → piece_to x ≡ from → piece_from x < from
    → Fill (pieces ++ x ∷ []) (piece_from x) to
fill_push [] x from to h touches falls = (touches ∙ h, omega (arith, h), refl)
fill_push (y ∷ pieces) x from to h touches falls = (h.0, h.1, fill_push pieces x from (piece_from y) h.2 touches falls)

-- a piece lies above the lower end of the range that all fill
pub fill_low : (pieces : List Piece) (from to k : ℕ) (x : Piece) → Fill pieces from to → slice_get pieces k ≡ Some x
    → from ≤ piece_from x
fill_low [] from to k x h there = absurd cc
fill_low (y ∷ pieces) from to zero x h there =
    subst (λ (z : Piece). from ≤ piece_from z) (same_Some y x there) (fill_order pieces from (piece_from y) h.2)
  where
    fill_order : (ps : List Piece) (from to : ℕ) → Fill ps from to → from ≤ to
    fill_order [] from to h = omega (arith, h)
    fill_order (z ∷ ps) from to h = omega (arith, h.1, fill_order ps from (piece_from z) h.2)
fill_low (y ∷ pieces) from to (suc k) x h there = fill_low pieces from (piece_from y) k x h.2 there

-- a piece that is right for what is left is so for the whole range below settled
right_below : (xs : List Interval) (from end settled : ℕ) (x : Piece) → end ≤ settled → piece_to x ≡ end
    → IsRight xs from end x → IsRight xs from settled x
right_below xs from end settled (Index id first last) up ends h = record {
  below = omega (arith, h.below);
  interval = h.interval;
  named = h.named;
  oldest = h.oldest;
  begins = h.begins;
}
right_below xs from end settled (Full first last) up ends h = λ below. h (omega (arith, ends))

-- what is left of the range lies below settled
no_cut : (from settled to end : ℕ) → from < end → settled < end → end ≤ max from (min settled to) → ⊥
no_cut from settled to end left less high = omega arith

-- the last number of a full piece isn't held
clear : (xs : List Interval) (from end : ℕ) (y : Piece) (a b : ℕ) → y ≡ Full a b → piece_to y ≡ end
    → piece_from y < end → IsRight xs from end y → IsHeldBy xs (end - 1) → ⊥
clear xs from end (Index id first last) a b is ends falls right held = absurd cc
clear xs from end (Full first last) a b is ends falls right held =
    right (omega (arith, ends)) (end - 1) (omega arith) (omega (arith, ends)) held

-- one piece more
pub built_next : (pieces : List Piece) (from end settled to : ℕ) (xs : List Interval) (x : Piece)
    → IsBuilt pieces from end settled to xs → from < end → IsNextPiece xs from end x
    → IsBuilt (pieces ++ x ∷ []) from (piece_from x) settled to xs
built_next pieces from end settled to xs x h left new = record {
  low = new.within;
  high = omega (arith, new.falls, h.high);
  fill = fill_push pieces x end to h.fill new.ends new.falls;
  unsettled = λ some. longer pieces x (Full (cut from settled to) to) 0 (h.unsettled some);
  right = λ k y there. elim (push_cases pieces x k y there) [
    | inl old ↦ h.right k y old
    | inr e ↦ subst (λ (z : Piece). IsRight xs from settled z) e.1 (right_below xs from end settled x below new.ends new.right)
  ];
  apart = λ k a b c first second. elim (push_cases pieces x (k + 1) (Full a b) second) [
    | inl old ↦ elim (push_cases pieces x k (Full b c) first) [
      | inl old_too ↦ h.apart k a b c old_too old
      | inr e ↦ (let inside = slice_get_within pieces (k + 1) (Full a b) old in let position = e.0 in absurd (omega arith))
    ]
    | inr e ↦ elim (push_cases pieces x k (Full b c) first) [
      | inl old ↦ touch a b c k old e.1
      | inr f ↦ (let one = e.0 in let other = f.0 in absurd (omega arith))
    ]
  ];
  next = λ k b there under left_too. elim (push_cases pieces x k (Full (piece_from x) b) there) [
    | inl old ↦ absurd (omega (arith, fill_low pieces end to k (Full (piece_from x) b) h.fill old, new.falls))
    | inr e ↦ meets x (piece_from x) b e.1 new.met left_too
  ];
}
  where
    below : end ≤ settled
    below = elim (dec_lt settled end) [
      | no above ↦ omega arith
      | yes less ↦ absurd (no_cut from settled to end left less h.high)
    ]

    touch : (a b c k : ℕ) → slice_get pieces k ≡ Some (Full b c) → x ≡ Full a b → settled < c
    touch a b c k there is = elim (dec_lt settled c) [
      | yes less ↦ less
      | no upto ↦ absurd (clear xs from end x a b is new.ends new.falls new.right (h.next k c
          (subst (λ (e : ℕ). slice_get pieces k ≡ Some (Full e c)) (sym (ap piece_to is) ∙ new.ends) there) (omega arith) left))
    ]

    meets : (y : Piece) (first last : ℕ) → y ≡ Full first last → IsMet xs from y → from < piece_from y
        → IsHeldBy xs (piece_from y - 1)
    meets (Index id p q) first last is met less = absurd cc
    meets (Full p q) first last is met less = elim met [ inl begins ↦ absurd (omega arith) | inr held ↦ held ]
