-- What a search for bytes says of the bytes up to the position that it found.
use Rattle.std.specs.Prelude.{None}
use Rattle.std.proofs.Common.{◌≡◌, ◌==◌, ◌<◌, ◌≤◌, ◌++◌, ◌∷◌, [], ℕ, List, Bool, Some, zero, suc, refl, ap, true, false}
use Rattle.std.proofs.Common.{length, take, drop, arith}
use Rattle.std.specs.List.{list_any}
use Rattle.std.proofs.lemmas.Bool.{eqb-true}
use Rattle.std.proofs.lemmas.List.{take_all}
use Rattle.csv.specs.Writing.{default_writer, escaped}
use Rattle.csv.proofs.WriteFacts.{escaped-none}
use Rattle.memchr.specs.Find.{IsFirstByte, Passes, is_byte}

not-true : (x : Bool) → (x ≡ true → ⊥) → x ≡ false
not-true true n = absurd (n refl)
not-true false n = refl

-- bytes of which none passes a test
none-below : (test : ℕ → Bool) (b : List ℕ) (n : ℕ) → ((k : ℕ) → k < n → Passes test b k → ⊥) → n ≤ length b
    → list_any test (take n b) ≡ false
none-below test b zero none h = refl
none-below test [] (suc n) none h = absurd (omega arith)
none-below test (c ∷ b) (suc n) none h =
    rw (not-true (test c) (none 0 (omega arith))) (none-below test b n (λ k lt. none (suc k) (omega arith)) (omega arith))

-- up to the position that was found, and in the whole where none was
pub none-before : (test : ℕ → Bool) (b : List ℕ) (n : ℕ) → IsFirstByte test b (Some n) → list_any test (take n b) ≡ false
none-before test b n found = none-below test b n (λ k lt. found.0.before k (omega arith) lt) (omega (arith, found.0.high))

pub none-in : (test : ℕ → Bool) (b : List ℕ) → IsFirstByte test b None → list_any test b ≡ false
none-in test b none =
    rw (take_all (length b) b (omega arith)) at
    (none-below test b (length b) (λ k lt. none k (omega arith) lt) (omega arith))

-- where no quote stands, nothing is written twice
pub escaped-plain : (b : List ℕ) → IsFirstByte (is_byte 34) b None → escaped default_writer b ≡ b
escaped-plain b none = escaped-none default_writer b (none-in (is_byte 34) b none)

-- up to the first quote the bytes stand as they are, and the quote twice
escaped-at : (b : List ℕ) (n : ℕ) → ((k : ℕ) → k < n → Passes (is_byte 34) b k → ⊥) → Passes (is_byte 34) b n → n < length b
    → escaped default_writer b ≡ (take n b ++ (34 ∷ 34 ∷ [])) ++ escaped default_writer (drop 1 (drop n b))
unfolding escaped
escaped-at [] n none here h = absurd (omega arith)
escaped-at (c ∷ b) zero none here h = rw here (ap (λ t. 34 ∷ t ∷ escaped default_writer b) (eqb-true c 34 here))
escaped-at (c ∷ b) (suc n) none here h =
    rw (not-true (c == 34) (none 0 (omega arith)))
    (ap (λ t. c ∷ t) (escaped-at b n (λ k lt. none (suc k) (omega arith)) here (omega arith)))

pub escaped-found : (b run behind : List ℕ) (n : ℕ) → IsFirstByte (is_byte 34) b (Some n) → run ≡ take n b → behind ≡ drop 1 (drop n b)
    → escaped default_writer b ≡ (run ++ (34 ∷ 34 ∷ [])) ++ escaped default_writer behind
escaped-found b run behind n found e f =
    rw (e, f) (escaped-at b n (λ k lt. found.0.before k (omega arith) lt) found.1 (omega (arith, found.0.high)))
