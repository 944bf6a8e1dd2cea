-- The law of rounding down, in the subject's words.
use Rattle.std.specs.Prelude.{◌≡◌, ℤ, pos}
use Rattle.std.proofs.Math.IntN.{◌+ℤ◌, ◌*ℤ◌}
use Rattle.std.specs.Int.Signed.{◌≤ℤ◌, ◌<ℤ◌}
use Rattle.fish_psf.specs.Eval.{floor_multiple}

-- m is a multiple of a width and not above n, and the next multiple is above n
pub record IsGreatestMultiple (width n m : ℤ) : Type 0 where
  pub multiple : (k : ℤ) × (m ≡ k *ℤ width)
  pub within : m ≤ℤ n
  pub next_above : n <ℤ (m +ℤ width)

-- a number is rounded down to the greatest multiple of a width of at least 1 that is not above it
abbrev pub BucketsRoundDown : Type 0
BucketsRoundDown = (width n : ℤ) → pos 0 <ℤ width → IsGreatestMultiple width n (floor_multiple width n)
