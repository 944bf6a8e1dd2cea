-- A number with one bit set is a power of 2.
use Rattle.std.proofs.Common.{◌≡◌, ℕ, zero, suc, ◌+◌, ◌-◌, ◌/◌, ◌%◌, ◌^◌, ◌≤◌}
use Rattle.std.proofs.Common.{sym, ap, ◌∙◌, subst, inl, inr, arith}
use Rattle.std.specs.Prelude.{count_ones, bit_and}
use Rattle.std.proofs.lemmas.Bool.{cases_lt}
use Rattle.std.proofs.lemmas.Nat.{and_mask, ones_cat, ones_le_self, zero_from_ones}

-- the bits of a number are its lowest one and those of its half
ones_half : (n : ℕ) → count_ones n ≡ count_ones (n / 2) + count_ones (n % 2)
ones_half n = ap count_ones (omega arith) ∙ ones_cat 1 (n / 2) (n % 2) (omega arith)

-- one has a bit
bit_of_one : count_ones 1 ≡ 1
bit_of_one = grind (arith, ones_le_self 1, zero_from_ones 1)

-- so one of them alone is set in a power of 2
power_within : (most n : ℕ) → n ≤ most → count_ones n ≡ 1 → (k : ℕ) × (n ≡ 2 ^ k)
power_within zero n few one = absurd (omega (arith, ones_le_self n))
power_within (suc most) n few one =
    elim (cases_lt (n % 2) 1) [
      | inl even ↦ (
          let low : n % 2 ≡ 0 = omega arith in
          let half : count_ones (n / 2) ≡ 1 = omega (arith, ones_half n, ap count_ones low, ones_le_self 0) in
          let found = power_within most (n / 2) (omega arith) half in
          (suc found.0, omega (arith, found.1)))
      | inr odd ↦ (
          let low : n % 2 ≡ 1 = omega arith in
          let none : n / 2 ≡ 0 = zero_from_ones (n / 2) (omega (arith, ones_half n, ap count_ones low, bit_of_one)) in
          (0, omega arith))
    ]

-- the bits below the one of a power of 2 are the remainder by it
pub and_below_power : (n m : ℕ) → count_ones m ≡ 1 → bit_and n (m - 1) ≡ n % m
and_below_power n m one =
    let power = power_within m m (omega arith) one in
    subst (λ x. bit_and n (x - 1) ≡ n % x) (sym power.1) (and_mask n power.0)
