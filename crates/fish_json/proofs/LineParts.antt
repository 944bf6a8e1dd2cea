-- Bytes are cut at their first LF, which a search has found.
use Rattle.std.proofs.Common.{◌≡◌, ℕ, ◌+◌, ◌<◌, zero, suc, List, [], ◌∷◌, length, take, drop, refl, ap, arith}
use Rattle.std.specs.Prelude.{Bool, true, false}
use Rattle.std.specs.List.{slice_split, onto_first}
use Rattle.memchr.specs.Find.{Passes, is_byte}
use Rattle.fish_json.specs.Lines.{is_line_end}

-- a test that isn't true is false
failed : (b : Bool) → ¬ (b ≡ true) → b ≡ false
failed true h = absurd (h refl)
failed false h = refl

-- with no LF, the whole is the one part
pub slice_split_nowhere : (b : List ℕ) → ((k : ℕ) → k < length b → ¬ Passes (is_byte 10) b k)
    → slice_split is_line_end b ≡ b ∷ []
slice_split_nowhere [] h = refl
slice_split_nowhere (x ∷ xs) h =
    let here : is_line_end x ≡ false = failed (is_line_end x) (h 0 (omega arith)) in
    rw here (ap (onto_first x) (slice_split_nowhere xs (λ k within. h (suc k) (omega arith))))

-- the first part ends at the first LF, and the others are those of what follows it
pub slice_split_first_end : (b : List ℕ) (k : ℕ) → k < length b → ((j : ℕ) → j < k → ¬ Passes (is_byte 10) b j)
    → Passes (is_byte 10) b k
    → slice_split is_line_end b ≡ take k b ∷ slice_split is_line_end (drop (k + 1) b)
slice_split_first_end [] k within before ends = absurd (omega arith)
slice_split_first_end (x ∷ xs) zero within before ends = (let here : is_line_end x ≡ true = ends in rw here)
slice_split_first_end (x ∷ xs) (suc k) within before ends =
    let here : is_line_end x ≡ false = failed (is_line_end x) (before 0 (omega arith)) in
    let next : suc k + 1 ≡ suc (k + 1) = omega arith in
    rw (here, next) (ap (onto_first x)
    (slice_split_first_end xs k (omega arith) (λ j less. before (suc j) (omega arith)) ends))

-- the part before the first LF has none
pub slice_split_front : (b : List ℕ) (k : ℕ) → k < length b → ((j : ℕ) → j < k → ¬ Passes (is_byte 10) b j)
    → slice_split is_line_end (take k b) ≡ take k b ∷ []
slice_split_front b zero within before = refl
slice_split_front [] (suc k) within before = absurd (omega arith)
slice_split_front (x ∷ xs) (suc k) within before =
    let here : is_line_end x ≡ false = failed (is_line_end x) (before 0 (omega arith)) in
    rw here (ap (onto_first x) (slice_split_front xs k (omega arith) (λ j less. before (suc j) (omega arith))))
