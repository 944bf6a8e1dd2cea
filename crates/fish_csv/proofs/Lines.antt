-- A line without quotes is a row with the parts between its commas, and is the text that is stored for it.
use Rattle.std.specs.Prelude.{◌||◌, Option}
use Rattle.std.proofs.Common.{◌≡◌, ◌==◌, ◌<◌, ◌≤◌, ◌++◌, ◌∷◌, ◌∙◌, [], ℕ, List, Bool, Some, refl, sym, ap, true, false}
use Rattle.std.proofs.Common.{length, length-append, append_assoc, arith, inl, inr}
use Rattle.std.specs.List.{list_any, onto_first, slice_split}
use Rattle.std.proofs.lemmas.Bool.{cases_Bool, eq-eqb, eqb-true, false≢true}
use Rattle.std.proofs.lemmas.Bool.Decides.{nat_tests}
use Rattle.std.proofs.lemmas.List.{append-nil}
use Rattle.std.proofs.lemmas.List.Splits.{slice_split-cons_no, slice_split-cons_yes}
use Rattle.csv.specs.Machine.{Read, after_end, next_record}
use Rattle.csv.specs.Reading.{default_config}
use Rattle.csv.specs.Writing.{default_writer, field_text, fields_text, is_blank, needs_byte}
use Rattle.csv.specs.declared.parser.State.TheVariants as st
use Rattle.csv.specs.declared.parser.Terminator.TheVariants as term
use Rattle.fish_csv.specs.within.Machine.{row_from}
use Rattle.fish_csv.specs.Reading.{rows_in}
use Rattle.fish_csv.specs.Rows.{kept, payload_of_row, stored_text}
use Rattle.fish_csv.specs.within.Turns.{IsStored, TakesRow, ends_line, is_mark}
use Rattle.fish_csv.specs.declared.machine.Position.TheVariants as position
use Rattle.fish_csv.proofs.Records.{rows-end, rows-next}
use Rattle.fish_csv.proofs.Steps.{either, neither, plain-comma, plain-other, row-other}
use Rattle.csv.proofs.RoundTrip.{start-same}
use Rattle.fish_csv.proofs.Stored.{stored-is}

-- a comma
abbrev pub is_comma : ℕ → Bool
is_comma c = c == 44

-- the parts of a line
abbrev pub parts_of : List ℕ → List (List ℕ)
parts_of x = slice_split is_comma x

-- a byte that is no mark and no comma calls for no quotes
no-need : (c : ℕ) → is_mark c ≡ false → is_comma c ≡ false → needs_byte default_writer c ≡ false
no-need c e comma =
    let last = neither (c == 34 || c == 13) (c == 10) e in
    let first = neither (c == 34) (c == 13) last.0 in
    rw (comma, first.0, first.1, last.1) refl

-- a comma stands before each part but the first
comma-front : (c : ℕ) (y x : List ℕ) (ys : List (List ℕ)) → is_comma c ≡ true → field_text default_writer y ≡ y
    → y ++ fields_text default_writer ys ≡ x
    → fields_text default_writer (y ∷ ys) ≡ c ∷ x
unfolding fields_text
comma-front c y x ys comma text e = rw (text, eqb-true c 44 comma) (ap (λ t. 44 ∷ t) e)

-- the first part of a line and the others: none calls for quotes, and with the commas they are the line
abbrev Parts : List ℕ → Type 0
Parts x = (y : List ℕ) × (ys : List (List ℕ)) × (parts_of x ≡ y ∷ ys)
    × (list_any (needs_byte default_writer) y ≡ false) × (y ++ fields_text default_writer ys ≡ x)

parts : (x : List ℕ) → list_any is_mark x ≡ false → Parts x
unfolding fields_text
parts [] e = ([], [], refl, refl, refl)
parts (c ∷ x) e =
    let both = neither (is_mark c) (list_any is_mark x) e in
    let more = parts x both.1 in
    elim (cases_Bool (is_comma c)) [
      | inl comma ↦
          let text : field_text default_writer more.0 ≡ more.0 = rw more.3 refl in (
            [],
            more.0 ∷ more.1,
            slice_split-cons_yes is_comma c x comma ∙ ap (λ t. [] ∷ t) more.2,
            refl,
            comma-front c more.0 x more.1 comma text more.4,
          )
      | inr other ↦ (
        c ∷ more.0,
        more.1,
        slice_split-cons_no is_comma c x other ∙ ap (onto_first c) more.2,
        rw (no-need c both.0 other) more.3,
        ap (λ t. c ∷ t) more.4,
      )
    ]

-- a line that is not empty is no blank row
not-blank : (y : List ℕ) (ys : List (List ℕ)) (c : ℕ) (x : List ℕ) → list_any (needs_byte default_writer) y ≡ false
    → y ++ fields_text default_writer ys ≡ c ∷ x → is_blank default_writer (y ∷ ys) ≡ false
unfolding is_blank fields_text
not-blank [] [] c x plain e = cc e
not-blank (b ∷ y) [] c x plain e = rw plain (grind (arith, nat_tests))
not-blank y (z ∷ zs) c x plain e = refl

-- a line is the text that is stored for its parts
pub line-stored : (c : ℕ) (x : List ℕ) → list_any is_mark (c ∷ x) ≡ false → stored_text (parts_of (c ∷ x)) ≡ c ∷ x
line-stored c x e =
    let p = parts (c ∷ x) e in
    let text : field_text default_writer p.0 ≡ p.0 = rw p.3 refl in
    let blank = not-blank p.0 p.1 c x p.3 p.4 in
    stored-is (parts_of (c ∷ x)) ∙ rw (p.2, text, blank) (append-nil (p.0 ++ fields_text default_writer p.1) ∙ p.4)

-- what was read of a field, before the first part
abbrev joined : List ℕ → List (List ℕ) → List (List ℕ)
joined field [] = field ∷ []
joined field (y ∷ ys) = (field ++ y) ∷ ys

onto-joined : (c : ℕ) (rows : List (List ℕ)) → joined [] (onto_first c rows) ≡ onto_first c rows
onto-joined c [] = refl
onto-joined c (y ∷ ys) = refl

onto-more : (c : ℕ) (field : List ℕ) (rows : List (List ℕ)) → joined (field ++ (c ∷ [])) rows ≡ joined field (onto_first c rows)
onto-more c field [] = refl
onto-more c field (y ∷ ys) = ap (λ t. t ∷ ys) (append_assoc field (c ∷ []) y)

joined-none : (x : List ℕ) → joined [] (parts_of x) ≡ parts_of x
joined-none [] = refl
joined-none (c ∷ x) = elim (cases_Bool (is_comma c)) [
  | inl comma ↦ rw (slice_split-cons_yes is_comma c x comma) refl
  | inr other ↦ rw (slice_split-cons_no is_comma c x other) (onto-joined c (parts_of x))
]

-- the row that a line end or the end of the text ends
abbrev after-line : List (List ℕ) → List ℕ → Option Read
after-line fields [] = Some (fields, st.StartRecord, [])
after-line fields (c ∷ rest) = Some (fields, after_end term.CRLF c, rest)

-- at the end of a line
line-ends : (fields : List (List ℕ)) (field tail : List ℕ) → ends_line tail ≡ true
    → next_record default_config st.InField fields field tail ≡ after-line (fields ++ (field ∷ [])) tail
unfolding next_record
line-ends fields field [] e = refl
line-ends fields field (c ∷ rest) e = elim (either (c == 13) (c == 10) e) [
  | inl cr ↦ rw (eqb-true c 13 cr) refl
  | inr lf ↦ rw (eqb-true c 10 lf) refl
]

-- before a byte that is no quote, and at the end, a field begins as it goes on
field-same : (fields : List (List ℕ)) (x tail : List ℕ) → list_any is_mark x ≡ false → ends_line tail ≡ true
    → next_record default_config st.StartField fields [] (x ++ tail) ≡ next_record default_config st.InField fields [] (x ++ tail)
unfolding next_record
field-same fields [] [] e ends = refl
field-same fields [] (c ∷ tail) e ends = elim (either (c == 13) (c == 10) ends) [
  | inl cr ↦ rw (eqb-true c 13 cr) refl
  | inr lf ↦ rw (eqb-true c 10 lf) refl
]
field-same fields (c ∷ x) tail e ends =
    let last = neither (c == 34 || c == 13) (c == 10) (neither (is_mark c) (list_any is_mark x) e).0 in
    let first = neither (c == 34) (c == 13) last.0 in
    start-same fields [] c (x ++ tail) first.0

-- a line, in a field
line-run : (fields : List (List ℕ)) (field x tail : List ℕ) → list_any is_mark x ≡ false → ends_line tail ≡ true
    → next_record default_config st.InField fields field (x ++ tail) ≡ after-line (fields ++ joined field (parts_of x)) tail
line-run fields field [] tail e ends = rw (append-nil field) (line-ends fields field tail ends)
line-run fields field (c ∷ x) tail e ends =
    let both = neither (is_mark c) (list_any is_mark x) e in
    let last = neither (c == 34 || c == 13) (c == 10) both.0 in
    let first = neither (c == 34) (c == 13) last.0 in
    elim (cases_Bool (is_comma c)) [
      | inl comma ↦
          plain-comma c fields field (x ++ tail) (eqb-true c 44 comma)
          ∙ field-same (fields ++ (field ∷ [])) x tail both.1 ends
          ∙ line-run (fields ++ (field ∷ [])) [] x tail both.1 ends
          ∙ rw (
            joined-none x,
            slice_split-cons_yes is_comma c x comma,
            append-nil field,
            append_assoc fields (field ∷ []) (parts_of x),
          ) refl
      | inr other ↦
          plain-other c fields field (x ++ tail) (λ same. false≢true (sym other ∙ eq-eqb c 44 same))
          (rw (first.1, last.1) refl) ∙ line-run fields (field ++ (c ∷ [])) x tail both.1 ends
          ∙ rw (onto-more c field (parts_of x), slice_split-cons_no is_comma c x other) refl
    ]

-- a line before which a row begins, with what ends it
line-first : (c : ℕ) (x tail : List ℕ) → list_any is_mark (c ∷ x) ≡ false → ends_line tail ≡ true
    → row_from position.Row [] [] ((c ∷ x) ++ tail) ≡ after-line (parts_of (c ∷ x)) tail
line-first c x tail e ends =
    let last = neither (c == 34 || c == 13) (c == 10) (neither (is_mark c) (list_any is_mark x) e).0 in
    let first = neither (c == 34) (c == 13) last.0 in
    let begins : (c == 13 || c == 10) ≡ false = rw (first.1, last.1) refl in
    row-other c [] [] (x ++ tail) begins ∙ field-same [] (c ∷ x) tail e ends ∙ line-run [] [] (c ∷ x) tail e ends
    ∙ ap (λ rows. after-line rows tail) (joined-none (c ∷ x))

-- the row of a line, and the rows after it
line-rows : (c : ℕ) (x tail : List ℕ) → list_any is_mark (c ∷ x) ≡ false → ends_line tail ≡ true
    → rows_in ((c ∷ x) ++ tail) ≡ parts_of (c ∷ x) ∷ rows_in tail
line-rows c x [] e ends = rows-next ((c ∷ x) ++ []) ∙ rw (line-first c x [] e ends) refl
line-rows c x (d ∷ rest) e ends = rows-next ((c ∷ x) ++ (d ∷ rest))
    ∙ rw (line-first c x (d ∷ rest) e ends) (ap (λ rows. parts_of (c ∷ x) ∷ rows) (sym (rows-end d rest ends)))

-- a line of a text and what is after it, as the code names them
pub TakesRow-line : (b line rest : List ℕ) (outcome : Option (List ℕ)) → b ≡ line ++ rest → 0 < length line
    → list_any is_mark line ≡ false → ends_line rest ≡ true → outcome ≡ kept line → TakesRow b outcome rest
unfolding payload_of_row
TakesRow-line b [] rest outcome same some e ends is = absurd (omega arith)
TakesRow-line b (c ∷ x) rest outcome same some e ends is = (
  parts_of (c ∷ x),
  ap rows_in same ∙ line-rows c x rest e ends,
  ap kept (line-stored c x e) ∙ sym is,
  omega (arith, ap length same, length-append (c ∷ x) rest),
)

-- a line is a text that is stored
pub IsStored-line : (line : List ℕ) → 0 < length line → list_any is_mark line ≡ false → IsStored line
IsStored-line [] some e = absurd (omega arith)
IsStored-line (c ∷ x) some e = (parts_of (c ∷ x), sym (line-stored c x e))

-- line ends before the row count nowhere
pub TakesRow-same : (b behind rest : List ℕ) (outcome : Option (List ℕ)) → rows_in behind ≡ rows_in b
    → length behind ≤ length b → TakesRow behind outcome rest → TakesRow b outcome rest
TakesRow-same b behind rest outcome same within (fields, rows, payload, less) = (fields, sym same ∙ rows, payload, omega (arith, less))
