-- Where a string ends: the lexer's bit says whether an odd run of backslashes stands right after it.
use Rattle.std.proofs.Common.{◌≡◌, ◌==◌, ◌+◌, ℕ, suc, List, [], ◌∷◌, ◌++◌, Bool, true, false, refl, sym, ap, subst, ◌∙◌}
use Rattle.std.proofs.Common.{length, take, drop, arith, inl, inr, append_assoc, append-nil, length-append}
use Rattle.std.specs.Prelude.{◌%◌, ◌&&◌, ◌⊎◌, ◌≤◌, not, reverse, if◌then◌else◌}
use Rattle.std.proofs.lemmas.Bool.{cases_Bool, eq-eqb, eqb-true, false≢true}
use Rattle.std.proofs.lemmas.Bool.Decides.{nat_tests}
use Rattle.std.proofs.lemmas.Grind.{reverse_onto}
use Rattle.std.proofs.Math.Seq.{drop-length, take-length}
use Rattle.fish_lang.specs.Pieces.{EndsOdd, IsClosedString, IsUnendedString, backslashes}
use Rattle.fish_lang.specs.Token.{string_length}
use Rattle.fish_lang.proofs.TokenLemmas.{both}

-- ---- the run of backslashes

-- a number is odd, as a test
abbrev odd : ℕ → Bool
odd n = n % 2 == 1

-- whether an odd run comes after a text, where `o` says whether one stands before it
abbrev odd_after : Bool → List ℕ → Bool
odd_after o [] = o
odd_after o (c ∷ b) = odd_after ((c == 92) && not o) b

odd-suc : (n : ℕ) → not (odd n) ≡ odd (suc n)
odd-suc n = grind (arith, nat_tests)

-- one more byte makes the run longer, or ends it
odd-turn : (slash : Bool) (n : ℕ) → (slash && not (odd n)) ≡ odd (if slash then suc n else 0)
odd-turn true n = odd-suc n
odd-turn false n = refl

-- a text read backwards, after what was read before
reverse-front : (c : ℕ) (front past : List ℕ) → reverse (c ∷ front) ++ past ≡ reverse front ++ c ∷ past
reverse-front c front past =
    ap (λ t. t ++ past) (reverse_onto front c []) ∙ append_assoc (reverse front) (c ∷ []) past

odd-after : (past front : List ℕ) →
    odd_after (odd (backslashes past)) front ≡ odd (backslashes (reverse front ++ past))
odd-after past [] = refl
odd-after past (c ∷ front) =
    ap (λ o. odd_after o front) (odd-turn (c == 92) (backslashes past))
    ∙ odd-after (c ∷ past) front
    ∙ ap (λ t. odd (backslashes t)) (sym (reverse-front c front past))

-- of a whole text
odd-end : (front : List ℕ) → odd_after false front ≡ odd (backslashes (reverse front))
odd-end front = odd-after [] front ∙ ap (λ t. odd (backslashes t)) (append-nil (reverse front))

ends_odd : (front : List ℕ) → odd_after false front ≡ true → EndsOdd front
ends_odd front h = eqb-true (backslashes (reverse front) % 2) 1 (sym (odd-end front) ∙ h)

bit_odd : (front : List ℕ) → EndsOdd front → odd_after false front ≡ true
bit_odd front h = odd-end front ∙ eq-eqb (backslashes (reverse front) % 2) 1 h

-- ---- ends, by the bit

-- an odd run precedes each quote, with the bit in front
abbrev IsOpenFrom : Bool → List ℕ → Type 0
IsOpenFrom o s = (front behind : List ℕ) → s ≡ front ++ 34 ∷ behind → odd_after o front ≡ true

-- the last byte is the first quote that ends it, with the bit in front
record IsShutFrom (o : Bool) (s : List ℕ) : Type 0 where
  inside : List ℕ
  is : s ≡ inside ++ 34 ∷ []
  unended : IsOpenFrom o inside
  ends : odd_after o inside ≡ false

no-quote-none : (front behind : List ℕ) → [] ≡ front ++ 34 ∷ behind → ⊥
no-quote-none [] behind e = cc
no-quote-none (x ∷ front) behind e = cc

not-ended : (o : Bool) → ((34 == 34) && not o) ≡ false → o ≡ true
not-ended true h = refl
not-ended false h = cc

-- one more byte in front, which doesn't end it
open-more : (o : Bool) (c : ℕ) (b : List ℕ) → ((c == 34) && not o) ≡ false → IsOpenFrom ((c == 92) && not o) b →
    IsOpenFrom o (c ∷ b)
open-more o c b stays h [] behind e =
    let first : c ≡ 34 = cc in
    not-ended o (subst (λ x. ((x == 34) && not o) ≡ false) first stays)
open-more o c b stays h (x ∷ front) behind e =
    let first : c ≡ x = cc in
    let rest : b ≡ front ++ 34 ∷ behind = cc in
    subst (λ y. odd_after ((y == 92) && not o) front ≡ true) first (h front behind rest)

-- and one fewer
open-fewer : (o : Bool) (c : ℕ) (b : List ℕ) → IsOpenFrom o (c ∷ b) → IsOpenFrom ((c == 92) && not o) b
open-fewer o c b h front behind e = h (c ∷ front) behind (ap (λ t. c ∷ t) e)

and-false : (b : Bool) → (b && false) ≡ false
and-false true = refl
and-false false = refl

-- its first byte doesn't end it
open-first : (o : Bool) (c : ℕ) (b : List ℕ) → IsOpenFrom o (c ∷ b) → ((c == 34) && not o) ≡ false
open-first true c b h = and-false (c == 34)
open-first false c b h = elim (cases_Bool (c == 34)) [
  | inl quote ↦ absurd (false≢true (h [] b (ap (λ x. x ∷ b) (eqb-true c 34 quote))))
  | inr other ↦ rw other refl
]

-- a lexer passes over it
open-passed : (o : Bool) (s r : List ℕ) → IsOpenFrom o s →
    string_length o (s ++ r) ≡ length s + string_length (odd_after o s) r
open-passed o [] r h = omega arith
open-passed o (c ∷ s) r h =
    let later = open-passed ((c == 92) && not o) s r (open-fewer o c s h) in
    rw (open-first o c s h) (omega (arith, later))

-- and stops after the quote that ends it
shut-passed : (o : Bool) (s r : List ℕ) → IsShutFrom o s → string_length o (s ++ r) ≡ length s
shut-passed o s r h =
    let whole : s ++ r ≡ h.inside ++ 34 ∷ r = ap (λ t. t ++ r) h.is ∙ append_assoc h.inside (34 ∷ []) r in
    let last : string_length (odd_after o h.inside) (34 ∷ r) ≡ 1 = rw h.ends refl in
    let size : length s ≡ length h.inside + 1 = ap length h.is ∙ length-append h.inside (34 ∷ []) in
    ap (string_length o) whole ∙ open-passed o h.inside (34 ∷ r) h.unended ∙ omega (arith, last, size)

-- what a lexer takes ends so, or is all
abbrev Stops : Bool → List ℕ → ℕ → Type 0
Stops o b n = IsShutFrom o (take n b) ⊎ (IsOpenFrom o b × (n ≡ length b))

not-bit : (o : Bool) → not o ≡ true → o ≡ false
not-bit true h = cc
not-bit false h = refl

stops-turn : (o : Bool) (c : ℕ) (b : List ℕ) (t : Bool) → ((c == 34) && not o) ≡ t →
    Stops ((c == 92) && not o) b (string_length ((c == 92) && not o) b) →
    Stops o (c ∷ b) (if t then 1 else suc (string_length ((c == 92) && not o) b))
stops-turn o c b true h later = inl (record {
  inside = [];
  is = ap (λ x. x ∷ []) (eqb-true c 34 (both (c == 34) (not o) h).0);
  unended = λ front behind e. absurd (no-quote-none front behind e);
  ends = not-bit o (both (c == 34) (not o) h).1;
})
stops-turn o c b false h (inl shut) = inl (record {
  inside = c ∷ shut.inside;
  is = ap (λ t. c ∷ t) shut.is;
  unended = open-more o c shut.inside h shut.unended;
  ends = shut.ends;
})
stops-turn o c b false h (inr all) = inr (open-more o c b h all.0, ap suc all.1)

stops : (o : Bool) (b : List ℕ) → Stops o b (string_length o b)
stops o [] = inr ((λ front behind e. absurd (no-quote-none front behind e)), refl)
stops o (c ∷ b) = stops-turn o c b ((c == 34) && not o) refl (stops ((c == 92) && not o) b)

-- ---- ends, in the words of a reader

to-open : (s : List ℕ) → IsOpenFrom false s → IsUnendedString s
to-open s h front behind e = ends_odd front (h front behind e)

from-open : (s : List ℕ) → IsUnendedString s → IsOpenFrom false s
from-open s h front behind e = bit_odd front (h front behind e)

to-shut : (s : List ℕ) → IsShutFrom false s → IsClosedString s
to-shut s h = record {
  inside = h.inside;
  is = h.is;
  unended = to-open h.inside h.unended;
  ends = λ odd. false≢true (sym h.ends ∙ bit_odd h.inside odd);
}

not-yes : (b : Bool) → (b ≡ true → ⊥) → b ≡ false
not-yes true n = absurd (n refl)
not-yes false n = refl

from-shut : (s : List ℕ) → IsClosedString s → IsShutFrom false s
from-shut s h = record {
  inside = h.inside;
  is = h.is;
  unended = from-open h.inside h.unended;
  ends = not-yes (odd_after false h.inside) (λ yes. h.ends (ends_odd h.inside yes));
}

-- the bytes that a lexer takes end the string, or the source ends
pub string-ends : (b : List ℕ) → IsClosedString (take (string_length false b) b)
    ⊎ (IsUnendedString (take (string_length false b) b) × (drop (string_length false b) b ≡ []))
string-ends b = elim (stops false b) [
  | inl shut ↦ inl (to-shut (take (string_length false b) b) shut)
  | inr all ↦ inr (subst (λ n. IsUnendedString (take n b) × (drop n b ≡ [])) (sym all.1)
      (subst IsUnendedString (sym (take-length b)) (to-open b all.0), drop-length b))
]

-- it takes all of a string that ends, and at least all of one that doesn't
pub ended-taken : (s r : List ℕ) → IsClosedString s → string_length false (s ++ r) ≡ length s
ended-taken s r h = shut-passed false s r (from-shut s h)

pub unended-taken : (s r : List ℕ) → IsUnendedString s → length s ≤ string_length false (s ++ r)
unended-taken s r h = omega (arith, open-passed false s r (from-open s h))
