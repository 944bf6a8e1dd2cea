-- Lanes that are made one after the other.
use Rattle.std.proofs.Common.{◌+◌, ◌++◌, ℕ, zero, suc, List, [], ◌∷◌, length, sym, subst, arith}
use Rattle.std.proofs.lemmas.List.{length-append}
use Rattle.fish_lanes.proofs.Lists.{some_once}
use Rattle.fish_lanes.specs.Blocks.{EachLane}
use Rattle.fish_lanes.specs.declared.lane.Lane.{Lane}
use Rattle.tests_lanes.specs.Blocks.{AreNew, IsMade}

-- what each lane meets at its place, and one more after them
pub at_push : (P : ℕ → Lane → Type 0) (xs : List Lane) (x : Lane) → EachLane P xs → P (length xs) x → EachLane P (xs ++ x ∷ [])
at_push P [] x each last zero y at = subst (P 0) (some_once x y at) last
at_push P [] x each last (suc i) y at = absurd cc
at_push P (z ∷ xs) x each last zero y at = each zero y at
at_push P (z ∷ xs) x each last (suc i) y at = at_push (λ n. P (suc n)) xs x (λ n. each (suc n)) last i y at

-- one lane more
pub new_push : (count : ℕ) (lanes : List Lane) (x : Lane) → AreNew count lanes → IsMade (count + 1) x
    → AreNew (count + 1) (lanes ++ x ∷ [])
new_push count lanes x h new = record {
  many = (let e = h.many in let l = length-append lanes (x ∷ []) in omega arith);
  each = at_push (λ i y. IsMade (i + 1) y) lanes x h.each (subst (λ (n : ℕ). IsMade (n + 1) x) (sym h.many) new);
}
