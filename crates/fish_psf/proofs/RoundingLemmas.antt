-- A number less its remainder is the greatest multiple that is not above it.
use Rattle.std.proofs.Common.{◌*ℤ◌, ◌≡◌, ℕ, ◌/◌, ◌<◌, arith, ℤ, pos, negsuc, ◌<ℤ◌}
use Rattle.std.proofs.Math.IntN.{◌+ℤ◌}
use Rattle.std.specs.Int.Signed.{◌≤ℤ◌}
use Rattle.std.proofs.lemmas.Int.{ints}
use Rattle.fish_psf.specs.BucketLaw.{IsGreatestMultiple}
use Rattle.fish_psf.specs.Eval.{floor_multiple}

-- the multiple, of a number that is not below 0 and of one that is
multiple : (w : ℕ) (n : ℤ) → 0 < w → (k : ℤ) × (floor_multiple (pos w) n ≡ k *ℤ pos w)
multiple w (pos a) h = (pos (a / w), omega (arith, ints))
multiple w (negsuc a) h = (negsuc (a / w), omega (arith, ints))

within : (w : ℕ) (n : ℤ) → 0 < w → floor_multiple (pos w) n ≤ℤ n
within w (pos a) h = omega (arith, ints)
within w (negsuc a) h = omega (arith, ints)

next_above : (w : ℕ) (n : ℤ) → 0 < w → n <ℤ (floor_multiple (pos w) n +ℤ pos w)
next_above w (pos a) h = omega (arith, ints)
next_above w (negsuc a) h = omega (arith, ints)

pub rounds : (width n : ℤ) → pos 0 <ℤ width → IsGreatestMultiple width n (floor_multiple width n)
rounds (pos w) n h =
    let some : 0 < w = omega (arith, ints) in
    record {
      multiple = multiple w n some;
      within = within w n some;
      next_above = next_above w n some;
    }
rounds (negsuc w) n h = absurd (omega (arith, ints))
