-- The outcome of a source is what the language says of it, and nothing else is.
use Rattle.std.proofs.Common.{◌≡◌, ℕ, ◌<◌, ◌≤◌, List, refl, subst, arith, inl, inr, length}
use Rattle.std.specs.Prelude.{Bool, true, false, nat_lt, Result, Ok, Err, if◌then◌else◌}
use Rattle.std.proofs.lemmas.Bool.Decides.{nat_tests}
use Rattle.fish_lang.specs.Canonical.{definition_text}
use Rattle.fish_lang.specs.Definition.{Definition, definition_of}
use Rattle.fish_lang.specs.Language.{IsVerdict, IsParseResult, IsOutcome, UnlessMemory}
use Rattle.fish_lang.specs.within.Machine.{start}
use Rattle.fish_lang.specs.Outcome.{Gives}
use Rattle.fish_lang.specs.within.Outcome.{run, and_then, unless_long, outcome}
use Rattle.fish_lang.specs.Token.{tokens}
use Rattle.fish_lang.specs.declared.definition.Def.{Def}
use Rattle.fish_lang.specs.declared.parse.LangRefusal.{LangRefusal}
use Rattle.fish_lang.specs.declared.parse.LangRefusal.TheVariants as refusal
use Rattle.fish_lang.specs.Limits.{longest_source, longest_canonical}
use Rattle.fish_lang.proofs.Verdicts.{run-verdict, run-only}

-- what a comparison says
below : (a b : ℕ) → nat_lt a b ≡ true → a < b
below a b h = grind (arith, nat_tests)

not_below : (a b : ℕ) → nat_lt a b ≡ false → b ≤ a
not_below a b h = grind (arith, nat_tests)

is_below : (a b : ℕ) → a < b → nat_lt a b ≡ true
is_below a b h = grind (arith, nat_tests)

is_not_below : (a b : ℕ) → b ≤ a → nat_lt a b ≡ false
is_not_below a b h = grind (arith, nat_tests)

-- a definition, by the length of its canonical text
read-answer : (b : List ℕ) (d : Definition) (long : Bool)
    → nat_lt longest_canonical (length (definition_text d)) ≡ long
    → IsVerdict (tokens b) (length b) (Ok d)
    → IsParseResult b (if long then Err (refusal.TooLong (length (definition_text d))) else Ok d)
read-answer b d true e h = record { said = d; read = h; long = below _ _ e; size = refl }
read-answer b d false e h = (h, not_below _ _ e)

answer-of : (b : List ℕ) (r : Result Definition LangRefusal) → IsVerdict (tokens b) (length b) r
    → IsParseResult b (and_then r unless_long)
answer-of b (Ok d) h = read-answer b d (nat_lt longest_canonical (length (definition_text d))) refl h
answer-of b (Err (refusal.Unexpected at)) h = h
answer-of b (Err (refusal.TooDeep at)) h = h
answer-of b (Err (refusal.NumberTooLarge at)) h = h
answer-of b (Err (refusal.ZeroWidth at)) h = h
answer-of b (Err (refusal.TooLong n)) h = absurd h
answer-of b (Err refusal.OutOfMemory) h = absurd h

source-outcome : (b : List ℕ) (long : Bool) → nat_lt longest_source (length b) ≡ long
    → IsOutcome b (if long then Err (refusal.TooLong (length b)) else and_then
    (run start (tokens b) (length b)) unless_long)
source-outcome b true e = inl (below _ _ e, refl)
source-outcome b false e =
    inr (not_below _ _ e, answer-of b (run start (tokens b) (length b)) (run-verdict (tokens b) (length b)))

pub outcome-is : (b : List ℕ) → IsOutcome b (outcome b)
unfolding outcome
outcome-is b = source-outcome b (nat_lt longest_source (length b)) refl

only-answer : (b : List ℕ) (due : Result Definition LangRefusal) → IsParseResult b due
    → and_then (run start (tokens b) (length b)) unless_long ≡ due
only-answer b (Ok d) h = rw (
  run-only (tokens b) (length b) (Ok d) h.0,
  is_not_below longest_canonical
      (length (definition_text d)) h.1,
)
only-answer b (Err (refusal.TooLong n)) h =
    rw (
      run-only (tokens b) (length b) (Ok h.said) h.read,
      is_below longest_canonical
          (length (definition_text h.said)) h.long,
      h.size,
    )
only-answer b (Err (refusal.Unexpected at)) h =
    rw (run-only (tokens b) (length b) (Err (refusal.Unexpected at)) h)
only-answer b (Err (refusal.TooDeep at)) h = rw (run-only (tokens b) (length b) (Err (refusal.TooDeep at)) h)
only-answer b (Err (refusal.NumberTooLarge at)) h =
    rw (run-only (tokens b) (length b) (Err (refusal.NumberTooLarge at)) h)
only-answer b (Err (refusal.ZeroWidth at)) h =
    rw (run-only (tokens b) (length b) (Err (refusal.ZeroWidth at)) h)
only-answer b (Err refusal.OutOfMemory) h = absurd h

pub outcome-only : (b : List ℕ) (due : Result Definition LangRefusal) → IsOutcome b due → outcome b ≡ due
unfolding outcome
outcome-only b due (inl h) = rw (is_below longest_source (length b) h.0, h.1)
outcome-only b due (inr h) = rw (is_not_below longest_source (length b) h.0) (only-answer b due h.1)

-- what is given is due
pub Gives-due : (r : Result Def LangRefusal) (due : Result Definition LangRefusal) (b : List ℕ)
    → Gives definition_of r due → IsOutcome b due → UnlessMemory definition_of r (IsOutcome b)
Gives-due (Ok d) due b g h = let P : Result Definition LangRefusal → Type 0 = λ z. IsOutcome b z in
    subst P g h
Gives-due (Err (refusal.Unexpected at)) due b g h = let P : Result Definition LangRefusal
    → Type 0 = λ z. IsOutcome b z in subst P g h
Gives-due (Err (refusal.TooDeep at)) due b g h = let P : Result Definition LangRefusal
    → Type 0 = λ z. IsOutcome b z in subst P g h
Gives-due (Err (refusal.TooLong n)) due b g h = let P : Result Definition LangRefusal
    → Type 0 = λ z. IsOutcome b z in subst P g h
Gives-due (Err (refusal.NumberTooLarge at)) due b g h = let P : Result Definition LangRefusal
    → Type 0 = λ z. IsOutcome b z in subst P g h
Gives-due (Err (refusal.ZeroWidth at)) due b g h = let P : Result Definition LangRefusal
    → Type 0 = λ z. IsOutcome b z in subst P g h
Gives-due (Err refusal.OutOfMemory) due b g h = tt
