-- The fields of a text in UTF-8 are texts in UTF-8: all bytes that no field takes are ASCII.
use Rattle.std.specs.Prelude.{◌||◌, ◌&&◌, ◌⊎◌, Option, None, IsUtf8, if◌then◌else◌}
use Rattle.std.proofs.Common.{◌≡◌, ◌==◌, ◌<◌, ◌+◌, ◌++◌, ◌∷◌, ◌∙◌, [], ℕ, List, Bool, Some, suc, zero, refl, sym, ap}
use Rattle.std.proofs.Common.{subst, true, false, length, take, drop, get_or, add-one, arith, inl, inr, append_assoc}
use Rattle.std.specs.List.{list_all}
use Rattle.std.specs.Str.{IsCharBoundary, is_utf8}
use Rattle.std.proofs.lemmas.Bool.{cases_Bool, eqb-true}
use Rattle.std.proofs.lemmas.List.{append-nil}
use Rattle.std.proofs.lemmas.List.Folds.{list_all-append}
use lib.Utf8.{encode}
use Rattle.std.proofs.lemmas.Str.{IsCharBoundary-after_ascii, IsUtf8-append, IsUtf8-drop, IsUtf8-from_is_utf8}
use Rattle.std.proofs.lemmas.Str.{IsUtf8-past_char, IsUtf8-take, is_utf8-from_IsUtf8}
use Rattle.csv.specs.Machine.{Read, field_after, fields_after, is_end, next_record, step}
use Rattle.csv.specs.Reading.{default_config, is_bom, records_next, strip_bom}
use Rattle.csv.specs.Records.{field_at}
use Rattle.csv.specs.declared.parser.Action.{Action}
use Rattle.csv.specs.declared.parser.Action.TheVariants as act
use Rattle.csv.specs.declared.parser.State.{State}
use Rattle.csv.specs.declared.parser.State.TheVariants as st
use Rattle.fish_csv.proofs.Inside.{after-plain, inside-ends, inside-leaves, is_inside}
use Rattle.fish_csv.proofs.Records.{rows-next}
use Rattle.fish_csv.proofs.Steps.{either, row-end, row-other}
use Rattle.fish_csv.specs.within.Machine.{row_from}
use Rattle.fish_csv.specs.Reading.{only, rows_in}
use Rattle.fish_csv.specs.declared.machine.Position.TheVariants as position

both : (a b : Bool) → (a && b) ≡ true → (a ≡ true) × (b ≡ true)
both true b h = (refl, h)
both false b h = cc h

-- the parts round an ASCII byte, by its position
take-front : (p rest : List ℕ) (c : ℕ) → take (length p) (p ++ (c ∷ rest)) ≡ p
take-front [] rest c = refl
take-front (x ∷ p) rest c = ap (λ t. x ∷ t) (take-front p rest c)

drop-front : (p rest : List ℕ) (c : ℕ) → drop (suc (length p)) (p ++ (c ∷ rest)) ≡ rest
drop-front [] rest c = refl
drop-front (x ∷ p) rest c = drop-front p rest c

get-front : (p rest : List ℕ) (c : ℕ) → get_or (p ++ (c ∷ rest)) (length p) 0 ≡ c
get-front [] rest c = refl
get-front (x ∷ p) rest c = get-front p rest c

length-front : (p rest : List ℕ) (c : ℕ) → length p < length (p ++ (c ∷ rest))
length-front [] rest c = omega arith
length-front (x ∷ p) rest c = omega (arith, length-front p rest c)

-- what stands before an ASCII byte of a text is a text, and what follows it
in-front : (p rest : List ℕ) (c : ℕ) → c < 128 → IsUtf8 (p ++ (c ∷ rest)) → IsUtf8 p
in-front p rest c small h =
    let at : IsCharBoundary (p ++ (c ∷ rest)) (length p) =
    (omega (arith, length-front p rest c), λ lt wide. absurd (omega (arith, get-front p rest c, wide))) in
    rw (take-front p rest c) at (IsUtf8-take (p ++ (c ∷ rest)) (length p) h at)

behind : (p rest : List ℕ) (c : ℕ) → c < 128 → IsUtf8 (p ++ (c ∷ rest)) → IsUtf8 rest
behind p rest c small h =
    let at = IsCharBoundary-after_ascii (p ++ (c ∷ rest)) (length p) h (length-front p rest c) (omega (arith, get-front p rest c)) in
    rw (add-one (length p), drop-front p rest c) at (IsUtf8-drop (p ++ (c ∷ rest)) (length p + 1) h at)

-- all fields are texts
abbrev pub AreTexts : List (List ℕ) → Type 0
AreTexts fields = list_all is_utf8 fields ≡ true

one-more : (fields : List (List ℕ)) (field : List ℕ) → AreTexts fields → IsUtf8 field → AreTexts (fields ++ (field ∷ []))
one-more fields field all h = rw (list_all-append is_utf8 fields (field ∷ []), all, is_utf8-from_IsUtf8 field h) refl

-- an action keeps texts, where each byte that it doesn't copy is ASCII
kept : (a : Action) (c : ℕ) (fields : List (List ℕ)) (field rest : List ℕ) → (a ≡ act.Copy) ⊎ (c < 128)
    → AreTexts fields → IsUtf8 (field ++ (c ∷ rest)) → AreTexts (fields_after a fields field) × IsUtf8 (field_after a c field ++ rest)
kept a c fields field rest (inl copies) all text =
    subst (λ b. AreTexts (fields_after b fields field) × IsUtf8 (field_after b c field ++ rest)) (sym copies)
    (all, rw (append_assoc field (c ∷ []) rest) text)
kept act.Skip c fields field rest (inr small) all text =
    (all, IsUtf8-append field rest (in-front field rest c small text) (behind field rest c small text))
kept act.EndField c fields field rest (inr small) all text =
    (one-more fields field all (in-front field rest c small text), behind field rest c small text)
kept act.EndRecord c fields field rest (inr small) all text =
    (one-more fields field all (in-front field rest c small text), behind field rest c small text)
kept act.Copy c fields field rest (inr small) all text = (all, rw (append_assoc field (c ∷ []) rest) text)

-- a byte that passes a test for an ASCII byte
small : (c k : ℕ) → (c == k) ≡ true → k < 128 → c < 128
small c k e h = rw (eqb-true c k e) h

-- outside quotes all bytes but commas and line ends are copied
plain-copies : (c : ℕ) (a r n : Bool) → (c == 44) ≡ a → (c == 13) ≡ r → (c == 10) ≡ n → ((after-plain a r n).1 ≡ act.Copy) ⊎ (c < 128)
plain-copies c true r n ea er en = inr (small c 44 ea (omega arith))
plain-copies c false true n ea er en = inr (small c 13 er (omega arith))
plain-copies c false false true ea er en = inr (small c 10 en (omega arith))
plain-copies c false false false ea er en = inl refl

field-copies : (first : Action) (c : ℕ) (q : Bool) → (c == 34) ≡ q
    → ((if q then (st.InQuoted, first) else after-plain (c == 44) (c == 13) (c == 10)).1 ≡ act.Copy) ⊎ (c < 128)
field-copies first c true e = inr (small c 34 e (omega arith))
field-copies first c false e = plain-copies c (c == 44) (c == 13) (c == 10) refl refl refl

quoted-copies : (c : ℕ) (q : Bool) → (c == 34) ≡ q
    → (let x : State × Action = (if q then (st.AfterQuote, act.Skip) else (st.InQuoted, act.Copy)) in x.1 ≡ act.Copy)
    ⊎ (c < 128)
quoted-copies c true e = inr (small c 34 e (omega arith))
quoted-copies c false e = inl refl

step-copies : (s : State) (c : ℕ) → is_inside s ≡ true → ((step default_config s c).1 ≡ act.Copy) ⊎ (c < 128)
step-copies st.StartRecord c h = cc h
step-copies st.AfterCr c h = cc h
step-copies st.InComment c h = cc h
step-copies st.InEscape c h = cc h
step-copies st.StartField c h = field-copies act.Skip c (c == 34) refl
step-copies st.InField c h = plain-copies c (c == 44) (c == 13) (c == 10) refl refl refl
step-copies st.InQuoted c h = quoted-copies c (c == 34) refl
step-copies st.AfterQuote c h = field-copies act.Copy c (c == 34) refl

-- the fields of the next row of a text are texts, in a row that has begun
next-texts : (s : State) (fields : List (List ℕ)) (field xs : List ℕ) (q : Read) → is_inside s ≡ true
    → AreTexts fields → IsUtf8 (field ++ xs) → next_record default_config s fields field xs ≡ Some q → AreTexts q.0
unfolding next_record
next-texts s fields field [] q h all text e =
    let last : Some (fields ++ (field ∷ []), st.StartRecord, []) ≡ Some q = rw (inside-ends s h) at e in
    let same : fields ++ (field ∷ []) ≡ q.0 = cc in
    rw (← same) (one-more fields field all (rw (append-nil field) at text))
next-texts s fields field (c ∷ rest) q h all text e =
    let leaves = inside-leaves s c h in
    let next = kept (step default_config s c).1 c fields field rest (step-copies s c h) all text in
    elim (cases_Bool (is_end (step default_config s c).1)) [
      | inl ends ↦
          let last : Some (fields_after (step default_config s c).1 fields field, (step default_config s c).0, rest)
          ≡ Some q = rw ends at e in
          let same : fields_after (step default_config s c).1 fields field ≡ q.0 = cc in
          rw (← same) next.0
      | inr on ↦
          next-texts (step default_config s c).0 (fields_after (step default_config s c).1 fields field)
          (field_after (step default_config s c).1 c field) rest q (leaves.1 on) next.0 next.1 (rw on at e)
    ]

-- a line end is ASCII
end-small : (c : ℕ) → (c == 13 || c == 10) ≡ true → c < 128
end-small c e = elim (either (c == 13) (c == 10) e) [
  | inl cr ↦ small c 13 cr (omega arith)
  | inr lf ↦ small c 10 lf (omega arith)
]

-- the same from before a row
first-texts : (xs : List ℕ) (q : Read) → IsUtf8 xs → row_from position.Row [] [] xs ≡ Some q → AreTexts q.0
unfolding next_record
first-texts [] q text e = cc e
first-texts (c ∷ xs) q text e = elim (cases_Bool (c == 13 || c == 10)) [
  | inl ends ↦ first-texts xs q (behind [] xs c (end-small c ends) text) (sym (row-end c [] [] xs ends) ∙ e)
  | inr begins ↦ next-texts st.StartField [] [] (c ∷ xs) q refl refl text (sym (row-other c [] [] xs begins) ∙ e)
]

-- the only row of a text is its first
only-is : (x fields : List (List ℕ)) (rows : List (List (List ℕ))) → only (x ∷ rows) ≡ Some fields → x ≡ fields
only-is x fields [] e = cc
only-is x fields (y ∷ more) e = cc

only-first : (more : State → List ℕ → List (List (List ℕ))) (o : Option Read) (fields : List (List ℕ))
    → only (records_next more o) ≡ Some fields
    → (q : Read) × (o ≡ Some q) × (q.0 ≡ fields)
only-first more None fields e = cc e
only-first more (Some q) fields e = (q, refl, only-is q.0 fields (more q.1 q.2) e)

-- without a byte order mark a text is a text
strip-text : (b : List ℕ) → IsUtf8 b → IsUtf8 (strip_bom b)
unfolding strip_bom encode
strip-text [] h = h
strip-text (x ∷ []) h = h
strip-text (x ∷ y ∷ []) h = h
strip-text (x ∷ y ∷ z ∷ rest) h = elim (cases_Bool (is_bom x y z)) [
  | inl mark ↦
      let two = both (x == 239 && y == 187) (z == 191) mark in
      let one = both (x == 239) (y == 187) two.0 in
      let same : x ∷ y ∷ z ∷ rest ≡ encode 65279 ++ rest = rw (eqb-true x 239 one.0, eqb-true y 187 one.1, eqb-true z 191 two.1) refl in
      rw mark (IsUtf8-past_char (x ∷ y ∷ z ∷ rest) rest 65279 h same)
  | inr none ↦ rw none h
]

-- the fields of a payload are texts
pub one-texts : (b text : List ℕ) (fields : List (List ℕ)) → is_utf8 b ≡ true → text ≡ strip_bom b
    → only (rows_in text) ≡ Some fields → AreTexts fields
one-texts b text fields e same one =
    let first = only-first _ _ fields (rw (rows-next text) at one) in
    rw (← first.2) (first-texts text first.0 (rw (← same) at (strip-text b (IsUtf8-from_is_utf8 b e))) first.1)

-- a field of texts is a text
pub field-text : (fields : List (List ℕ)) (i : ℕ) (text : List ℕ) → AreTexts fields → Some text ≡ field_at fields i → is_utf8 text ≡ true
unfolding field_at
field-text [] i text all e = cc e
field-text (x ∷ fields) zero text all e = let same : text ≡ x = cc in rw same (both _ _ all).0
field-text (x ∷ fields) (suc i) text all e = field-text fields i text (both _ _ all).1 e

-- the same of a payload that was read as one row
pub found-texts : (b text : List ℕ) (fields : List (List ℕ)) (found : Bool) → text ≡ strip_bom b → is_utf8 b ≡ true
    → only (rows_in text) ≡ (if found then Some fields else None) → found ≡ true → AreTexts fields
found-texts b text fields found same utf8 one is = one-texts b text fields utf8 same (one ∙ rw is refl)
