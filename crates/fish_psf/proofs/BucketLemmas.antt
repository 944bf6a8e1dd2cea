-- Rounding down, by a subtraction that may not fit.
use Rattle.std.proofs.Common.{◌≡◌, refl}
use Rattle.std.specs.Prelude.{ℤ, pos, int_lt, true, false, ◌&&◌, not, Option, Some, None, FitsSigned, if◌then◌else◌}
use Rattle.std.specs.Int.{w64}
use Rattle.std.specs.Option.{SomeIff}
use Rattle.fish_value.specs.Number.{fits_i64}
use Rattle.fish_value.proofs.NumberLemmas.{Decides-fits_i64}
use Rattle.fish_psf.specs.Eval.{bucket, floor_multiple}

-- a width below 1 gives nothing
pub bucket-narrow : (width n : ℤ) → int_lt width (pos 1) ≡ true → bucket width n ≡ None
bucket-narrow width n h = rw h

-- the multiple is what is left of the number, where that fits
pub bucket-left : (width n : ℤ) (r : Option ℤ) → int_lt width (pos 1) ≡ false
    → SomeIff r (FitsSigned w64 (floor_multiple width n)) (floor_multiple width n) → r ≡ bucket width n
bucket-left width n (Some z) wide left = rw (wide, (Decides-fits_i64 (floor_multiple width n)).1 left.0, left.1)
bucket-left width n None wide left =
    elim (fits_i64 (floor_multiple width n)) as (λ t. fits_i64 (floor_multiple width n) ≡ t
    → None ≡ (if not (int_lt width (pos 1)) && t then Some (floor_multiple width n) else None)) [
      | true ↦ λ e. absurd (left ((Decides-fits_i64 (floor_multiple width n)).0 e))
      | false ↦ λ e. rw wide
    ] refl
