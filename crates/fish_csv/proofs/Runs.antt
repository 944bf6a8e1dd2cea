-- Runs of bytes that only join a field.
use Rattle.std.specs.Prelude.{Option, None, unwrap_or, zero, suc, ◌||◌}
use Rattle.std.proofs.Common.{◌≡◌, ◌==◌, ◌<◌, ◌≤◌, ◌∷◌, [], ℕ, List, Bool, Some, refl, true, false, take, length, arith}
use Rattle.csv.specs.Machine.{Runs, step}
use Rattle.csv.specs.Reading.{default_config}
use Rattle.csv.specs.declared.parser.State.{State}
use Rattle.csv.specs.declared.parser.State.TheVariants as st
use Rattle.csv.specs.declared.parser.Action.TheVariants as act
use Rattle.memchr.specs.Find.{IsFirstByte, Passes, is_byte, is_byte3}
use Rattle.fish_csv.proofs.Steps.{neither}

not-true : (x : Bool) → (x ≡ true → ⊥) → x ≡ false
not-true true n = absurd (n refl)
not-true false n = refl

-- bytes of which none passes a test, where a byte that doesn't pass it only joins the field
Runs-below : (s : State) (test : ℕ → Bool) (b : List ℕ) (n : ℕ) → ((c : ℕ) → test c ≡ false → step default_config s c ≡ (s, act.Copy))
    → ((k : ℕ) → k < n → Passes test b k → ⊥) → n ≤ length b → Runs default_config s (take n b)
unfolding Runs
Runs-below s test b zero joins none h = tt
Runs-below s test [] (suc n) joins none h = absurd (omega arith)
Runs-below s test (c ∷ b) (suc n) joins none h =
    (joins c (not-true (test c) (none 0 (omega arith))), Runs-below s test b n joins (λ k lt. none (suc k) (omega arith)) (omega arith))

-- the bytes up to the first that passes the test, or to the end
pub Runs-found : (s : State) (test : ℕ → Bool) (b : List ℕ) (found : Option ℕ)
    → ((c : ℕ) → test c ≡ false → step default_config s c ≡ (s, act.Copy))
    → IsFirstByte test b found → Runs default_config s (take (unwrap_or found (length b)) b)
Runs-found s test b None joins none = Runs-below s test b (length b) joins (λ k lt. none k (omega arith) lt) (omega arith)
Runs-found s test b (Some n) joins first =
    Runs-below s test b n joins (λ k lt. first.0.before k (omega arith) lt) (omega (arith, first.0.high))

-- outside quotes, each byte that is no comma and no line end
pub joins-plain : (c : ℕ) → is_byte3 44 13 10 c ≡ false → step default_config st.InField c ≡ (st.InField, act.Copy)
joins-plain c e =
    let last = neither (c == 44 || c == 13) (c == 10) e in
    let first = neither (c == 44) (c == 13) last.0 in
    rw (first.0, first.1, last.1) refl

-- between quotes, each byte that is no quote
pub joins-quoted : (c : ℕ) → is_byte 34 c ≡ false → step default_config st.InQuoted c ≡ (st.InQuoted, act.Copy)
joins-quoted c e = rw e refl
