-- When bytes are one row.
use Rattle.std.specs.Prelude.{◌||◌, None, IfSome, IsUtf8, if◌then◌else◌, nat_le, slice_get}
use Rattle.std.proofs.Common.{◌≡◌, ◌==◌, ◌<◌, ◌≤◌, ◌∷◌, ◌∙◌, [], ℕ, List, Bool, Some, refl, sym, true, false, length, arith, inl, inr}
use Rattle.std.specs.Str.{is_utf8}
use Rattle.std.proofs.lemmas.Bool.{cases_Bool}
use Rattle.std.proofs.lemmas.Bool.Decides.{nat_tests}
use Rattle.std.proofs.lemmas.Str.{IsUtf8-from_is_utf8, is_utf8-from_IsUtf8}
use Rattle.csv.specs.Reading.{strip_bom}
use Rattle.fish_value.specs.Limits.{longest_payload}
use Rattle.fish_csv.specs.Reading.{only, row_of, row_reading, rows_in}
use Rattle.fish_csv.specs.Rows.{kept}
use Rattle.fish_csv.proofs.Records.{rows-nil, rows-there}

-- the test for UTF-8
pub text_yes : (b : List ℕ) → IsUtf8 b → is_utf8 b ≡ true
text_yes b h = is_utf8-from_IsUtf8 b h

pub text_no : (b : List ℕ) → ¬ (IsUtf8 b) → is_utf8 b ≡ false
text_no b h = elim (cases_Bool (is_utf8 b)) [
  | inl text ↦ absurd (h (IsUtf8-from_is_utf8 b text))
  | inr other ↦ other
]

-- bytes that are no text are no row
pub row_reading_other : (b : List ℕ) → is_utf8 b ≡ false → row_reading b ≡ None
unfolding row_reading
row_reading_other b e = rw e refl

-- a text's reading
pub row_reading_text : (b text : List ℕ) → is_utf8 b ≡ true → text ≡ strip_bom b → row_reading b ≡ only (rows_in text)
unfolding row_reading
row_reading_text b text e same = rw (e, same) refl

-- within the limit a payload's row is that of its reading, above it there is none
pub row_of_short : (b : List ℕ) → length b ≤ longest_payload → row_of b ≡ row_reading b
unfolding row_of
row_of_short b h = let fits : nat_le (length b) longest_payload ≡ true = grind (arith, nat_tests) in rw fits refl

pub row_of_long : (b : List ℕ) → longest_payload < length b → row_of b ≡ None
unfolding row_of
row_of_long b h = let long : nat_le (length b) longest_payload ≡ false = grind (arith, nat_tests) in rw long refl

pub row_of_none : (b : List ℕ) → row_reading b ≡ None → row_of b ≡ None
unfolding row_of
row_of_none b e = elim (cases_Bool (nat_le (length b) longest_payload)) [ inl short ↦ rw short e | inr long ↦ rw long refl ]

-- these, for the call that tests a payload
pub ruleset readings = (text_yes, text_no, row_of_none, row_of_long, row_reading_other)

-- of several rows none is the only one
several : (fields : List (List ℕ)) (rows : List (List (List ℕ))) → (rows ≡ [] → ⊥) → only (fields ∷ rows) ≡ None
several fields [] h = absurd (h refl)
several fields (x ∷ more) h = refl

-- a row is the only one where no byte is left after it but line ends
pub one_row : (b : List ℕ) (fields : List (List ℕ)) (rest text : List ℕ) (empty : Bool)
    → rows_in b ≡ fields ∷ rows_in rest → rows_in text ≡ rows_in rest
    → IfSome (slice_get text 0) (λ c. (c == 13 || c == 10) ≡ false) → empty ≡ (length text == 0)
    → only (rows_in b) ≡ (if empty then Some fields else None)
one_row b fields rest [] empty first same begins e = rw (first, sym same, rows-nil, e) refl
one_row b fields rest (c ∷ text) empty first same begins e =
    let not_empty : empty ≡ false = e ∙ grind (arith, nat_tests) in
    rw (first, sym same, not_empty) (several fields (rows_in (c ∷ text)) (rows-there c text begins))

-- a text that is no row or several, as a call answers it
pub read_none : (b text : List ℕ) (fields : List (List ℕ)) (found : Bool) → text ≡ strip_bom b → is_utf8 b ≡ true
    → only (rows_in text) ≡ (if found then Some fields else None) → found ≡ false → row_reading b ≡ None
read_none b text fields found same utf8 one none = row_reading_text b text utf8 same ∙ one ∙ rw none refl

-- a text that is one row
pub read_some : (b text : List ℕ) (fields : List (List ℕ)) (found : Bool) → text ≡ strip_bom b → is_utf8 b ≡ true
    → length b ≤ longest_payload
    → only (rows_in text) ≡ (if found then Some fields else None) → found ≡ true → row_of b ≡ Some fields
read_some b text fields found same utf8 short one is = row_of_short b short ∙ row_reading_text b text utf8 same ∙ one ∙ rw is refl

-- a text that is no row is no payload, and one that is a row is one
pub kept_none : (text : List ℕ) → row_of text ≡ None → None ≡ kept text
kept_none text e = rw e refl

pub kept_some : (text : List ℕ) (fields : List (List ℕ)) → row_of text ≡ Some fields → Some text ≡ kept text
kept_some text fields e = rw e refl
