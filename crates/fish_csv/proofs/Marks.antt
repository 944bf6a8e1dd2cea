-- A byte order mark at the front of a text.
use Rattle.std.specs.Prelude.{if◌then◌else◌}
use Rattle.std.proofs.Common.{◌≡◌, ◌≤◌, ℕ, List, [], ◌∷◌, refl, true, false, drop, length, get_or, suc, arith, inl, inr}
use Rattle.std.proofs.lemmas.Bool.{cases_Bool}
use Rattle.csv.specs.Reading.{is_bom, strip_bom}

-- the three bytes at the front tell
strip-long : (b : List ℕ) → 3 ≤ length b → strip_bom b ≡ (if is_bom (get_or b 0 0) (get_or b 1 0) (get_or b 2 0) then drop 3 b else b)
unfolding strip_bom
strip-long [] h = absurd (omega arith)
strip-long (x ∷ []) h = absurd (omega arith)
strip-long (x ∷ y ∷ []) h = absurd (omega arith)
strip-long (x ∷ y ∷ z ∷ rest) h = refl

pub strip-mark : (b : List ℕ) → 3 ≤ length b → is_bom (get_or b 0 0) (get_or b 1 0) (get_or b 2 0) ≡ true → strip_bom b ≡ drop 3 b
strip-mark b h e = rw (strip-long b h, e) refl

pub strip-other : (b : List ℕ) → 3 ≤ length b → is_bom (get_or b 0 0) (get_or b 1 0) (get_or b 2 0) ≡ false → strip_bom b ≡ b
strip-other b h e = rw (strip-long b h, e) refl

-- a text that is no longer than what is left of it had no mark
pub strip-same : (b : List ℕ) → length b ≤ length (strip_bom b) → strip_bom b ≡ b
unfolding strip_bom
strip-same [] h = refl
strip-same (x ∷ []) h = refl
strip-same (x ∷ y ∷ []) h = refl
strip-same (x ∷ y ∷ z ∷ rest) h = elim (cases_Bool (is_bom x y z)) [
  | inl mark ↦ (let short : suc (suc (suc (length rest))) ≤ length rest = rw mark at h in absurd (omega arith))
  | inr none ↦ rw none refl
]

-- what is left is no longer
pub strip-length : (b : List ℕ) → length (strip_bom b) ≤ length b
unfolding strip_bom
strip-length [] = omega arith
strip-length (x ∷ []) = omega arith
strip-length (x ∷ y ∷ []) = omega arith
strip-length (x ∷ y ∷ z ∷ rest) = elim (cases_Bool (is_bom x y z)) [ inl mark ↦ rw mark (omega arith) | inr none ↦ rw none (omega arith) ]
