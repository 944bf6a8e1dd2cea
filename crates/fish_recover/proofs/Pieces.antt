-- What a read of a part of the file gives.
use Rattle.std.proofs.Common.{◌≡◌, ℕ, zero, suc, ◌+◌, ◌-◌, ◌*◌, ◌≤◌, List, length, take, drop, inl, inr}
use Rattle.std.proofs.Common.{refl, ap, sym, ◌∙◌, arith, length-drop}
use Rattle.std.specs.Prelude.{min, slice_index}
use Rattle.std.proofs.lemmas.Bool.{cases_lt}
use Rattle.std.proofs.lemmas.List.{drop-drop, drop-take, get_or_past, take_all}
use Rattle.byteorder.specs.Endian.{little_from, little_number}
use Rattle.byteorder.specs.Numbers.{little_from-take}
use Rattle.fish_disk.specs.Content.{part}
use Rattle.fish_slots.specs.Commits.{turn_of}
use Rattle.fish_slots.specs.Offsets.{body_at, body_bytes}
use Rattle.fish_slots.specs.Slots.{body_in_slot}

-- as many as there are and fit are all that fit
pub take_min : (n m : ℕ) (xs : List ℕ) → n ≡ min (length xs) m → take n xs ≡ take m xs
take_min n m xs is = elim (cases_lt (length xs) m) [
  | inl less ↦ take_all n xs (omega arith) ∙ sym (take_all m xs (omega arith))
  | inr more ↦ (let same : n ≡ m = omega arith in ap (λ (k : ℕ). take k xs) same)
]

-- what a read gave is the part that was asked for
pub part_read : (at place m count : ℕ) (buf c : List ℕ) → at ≡ place → length buf ≡ m → count ≡ min (length c - at) (length buf)
    → take count buf ≡ take count (drop at c) → take count buf ≡ part place m c
part_read at place m count buf c is size counted same =
    let left = length-drop place c in
    same ∙ ap (λ (p : ℕ). take count (drop p c)) is ∙ take_min count m (drop place c) (omega arith)

-- no byte is there
little_none : (i n : ℕ) (xs : List ℕ) → length xs ≤ i → little_from i n xs ≡ 0
little_none i zero xs short = refl
little_none i (suc n) xs short =
    let here : slice_index xs i ≡ 0 = get_or_past xs i 0 short in
    let rest = little_none (suc i) n xs (omega arith) in
    omega arith

-- bytes that aren't there count as zero bytes
little_short : (i n m : ℕ) (xs : List ℕ) → length xs ≤ i + n → n ≤ m → little_from i n xs ≡ little_from i m xs
little_short i zero m xs short few = sym (little_none i m xs (omega arith))
little_short i (suc n) zero xs short few = absurd (omega arith)
little_short i (suc n) (suc m) xs short few =
    ap (λ (k : ℕ). slice_index xs i + 256 * k) (little_short (suc i) n m xs (omega arith) (omega arith))

-- the number in all bytes, where there are eight at most
pub few_bytes : (n : ℕ) (xs : List ℕ) → n ≡ length xs → n ≤ 8 → little_number n xs ≡ little_number 8 xs
few_bytes n xs is few = little_short 0 n 8 xs (omega arith) few

-- the turn that a body says is the number in its second word
pub turn_read : (slot : ℕ) (c : List ℕ) → little_number 8 (part (body_at slot + 8) 8 c) ≡ turn_of (body_in_slot slot c)
unfolding turn_of
turn_read slot c =
    let whole : 8 + 86008 ≡ body_bytes = omega arith in
    little_from-take 0 8 8 (drop (body_at slot + 8) c) (omega arith)
    ∙ sym (little_from-take 0 8 86008 (drop (body_at slot + 8) c) (omega arith))
    ∙ ap (λ (l : List ℕ). little_number 8 (take 86008 l)) (sym (later slot c))
    ∙ ap (little_number 8) (sym (drop-take 8 86008 (drop (body_at slot) c)))
    ∙ ap (λ (n : ℕ). little_number 8 (drop 8 (take n (drop (body_at slot) c)))) whole
  where
    later : (slot : ℕ) (c : List ℕ) → drop 8 (drop (body_at slot) c) ≡ drop (body_at slot + 8) c
    later slot c = drop-drop 8 (body_at slot) c
