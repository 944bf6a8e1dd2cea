-- What a read of one byte at a gate tells of it.
use Rattle.std.proofs.Common.{◌≡◌, ℕ, ◌≤◌, List, [], ◌∷◌, length, take, drop, get_or, eqb, ap, sym, ◌∙◌, arith, eq-eqb}
use Rattle.std.specs.Prelude.{◌↔◌, Option, Some, None, IfSome, IsTrue}
use Rattle.std.proofs.lemmas.Bool.Decides.{nat_tests}
use Rattle.std.proofs.lemmas.List.{drop_all}
use Rattle.fish_disk.specs.Content.{Gave, part}
use Rattle.fish_slots.specs.Offsets.{gate_at}
use Rattle.fish_slots.specs.Slots.{IsOpen}

-- a test for 1 that holds tells that it is 1
tested : (n : ℕ) → IsTrue (eqb n 1) → n ≡ 1
tested n is = grind (arith, nat_tests)

-- no byte is not one byte
none_is_not_one : (let none : List ℕ = [] in none) ≡ 1 ∷ [] → ⊥
none_is_not_one same =
    let sizes : 0 ≡ 1 = ap (λ l. length l) same in
    omega (arith, sizes)

-- the byte that was read is the gate's
pub gate_read : (slot n : ℕ) (buf : List ℕ) (content : Option (List ℕ)) →
    n ≤ length buf → n ≡ 1 → Gave content (gate_at slot) n buf
    → IfSome content (λ c. IsTrue (eqb (get_or buf 0 0) 1) ↔ IsOpen slot c)
gate_read slot n buf None bound one gave = tt
gate_read slot n [] (Some c) bound one gave = absurd (omega (arith, bound, one))
gate_read slot n (x ∷ rest) (Some c) bound one gave =
    let read : x ∷ [] ≡ part (gate_at slot) 1 c =
    ap (λ k. take k (x ∷ rest)) (sym one) ∙ gave.1 ∙ ap (λ k. take k (drop (gate_at slot) c)) one in (
      (λ is. sym read ∙ ap (λ y. y ∷ []) (tested x is)),
      (λ opened. eq-eqb x 1 (ap (λ l. get_or l 0 0) (read ∙ opened))),
    )

-- where none was read, the file ends before the gate
pub gate_missing : (slot n : ℕ) (buf : List ℕ) (content : Option (List ℕ)) →
    length buf ≡ 1 → (n ≡ 1 → ⊥) → Gave content (gate_at slot) n buf
    → IfSome content (λ c. IsTrue (eqb n 1) ↔ IsOpen slot c)
gate_missing slot n buf None one other gave = tt
gate_missing slot n buf (Some c) one other gave =
    let short : length c ≤ gate_at slot = omega (arith, gave.0, one, other) in
    let nothing : part (gate_at slot) 1 c ≡ [] = ap (λ (l : List ℕ). take 1 l) (drop_all (gate_at slot) c short) in (
      (λ is. absurd (other (tested n is))),
      (λ opened. absurd (none_is_not_one (sym nothing ∙ opened))),
    )
