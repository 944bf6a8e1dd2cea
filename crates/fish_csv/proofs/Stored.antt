-- The text that is stored for a row, and that it reads back as one row.
use Rattle.std.specs.Prelude.{◌-◌, None, if◌then◌else◌}
use Rattle.std.proofs.Common.{◌≡◌, ◌≤◌, ◌++◌, ◌∷◌, ◌∙◌, [], ℕ, List, Some, refl, sym, ap, subst, true, length, take}
use Rattle.std.proofs.Common.{length-append, append_assoc, arith, inl, inr}
use Rattle.std.proofs.lemmas.Bool.{cases_Bool}
use Rattle.std.proofs.lemmas.List.{take-append-le, take_all}
use Rattle.csv.specs.Machine.{Read, field_after, fields_after, is_end, next_record, step}
use Rattle.csv.specs.Reading.{default_config, strip_bom}
use Rattle.std.specs.Str.{is_utf8}
use Rattle.fish_value.specs.Limits.{longest_payload}
use Rattle.fish_csv.proofs.Marks.{strip-same}
use Rattle.fish_csv.proofs.Readings.{kept_some, read_some}
use Rattle.csv.specs.Writing.{default_writer, is_blank, read_back, row_body, row_text}
use Rattle.csv.specs.declared.parser.State.{State}
use Rattle.csv.specs.declared.parser.State.TheVariants as st
use Rattle.csv.proofs.RoundTrip.{read-write}
use Rattle.fish_csv.specs.Reading.{only, rows_in}
use Rattle.fish_csv.specs.Rows.{kept, stored_text}
use Rattle.fish_csv.specs.within.Turns.{IsStored}
use Rattle.fish_csv.proofs.Records.{rows-more, rows-nil}

-- the two quotes of a row that shows no byte
abbrev pub blank_quotes : List (List ℕ) → List ℕ
blank_quotes fields = if is_blank default_writer fields then 34 ∷ 34 ∷ [] else []

-- a list without its last element
but-last : (x : List ℕ) (c : ℕ) → take (length (x ++ (c ∷ [])) - 1) (x ++ (c ∷ [])) ≡ x
but-last x c =
    let size = length-append x (c ∷ []) in
    let fits : length x ≤ length x = omega arith in
    let count : length (x ++ (c ∷ [])) - 1 ≡ length x = omega (arith, size) in
    rw (count, take-append-le (length x) x (c ∷ []) fits) (take_all (length x) x fits)

-- the text before the line end
pub stored-is : (fields : List (List ℕ)) → stored_text fields ≡ row_body default_writer fields ++ blank_quotes fields
unfolding stored_text
stored-is fields =
    let parts : row_text default_writer fields ≡ (row_body default_writer fields ++ blank_quotes fields) ++ (10 ∷ []) =
    sym (append_assoc (row_body default_writer fields) (blank_quotes fields) (10 ∷ [])) in
    subst (λ t. take (length t - 1) t ≡ row_body default_writer fields ++ blank_quotes fields) (sym parts)
    (but-last (row_body default_writer fields ++ blank_quotes fields) 10)

-- the row's text is that text and LF
stored-lf : (fields : List (List ℕ)) → row_text default_writer fields ≡ stored_text fields ++ (10 ∷ [])
stored-lf fields = rw (stored-is fields) (sym (append_assoc (row_body default_writer fields) (blank_quotes fields) (10 ∷ [])))

-- a text that ends in no shorter one
longer : (x : List ℕ) → x ++ (10 ∷ 0 ∷ []) ≡ 0 ∷ [] → ⊥
longer x e = omega (arith, ap length e, length-append x (10 ∷ 0 ∷ []))

-- a row that the end of the text ends leaves no byte
none-left : (p q : Read) → Some p ≡ Some q → p.2 ≡ [] → q.2 ≡ 0 ∷ [] → ⊥
none-left p q e f g =
    let same : p ≡ q = cc in
    let all : p.2 ≡ q.2 = ap (λ r. r.2) same in
    let short : length p.2 ≡ 0 = ap length f in
    let long : length q.2 ≡ 1 = ap length g in
    absurd (omega (arith, ap length all))

-- parts of reads that are the same
same-fields : (p q : Read) → Some p ≡ Some q → p.0 ≡ q.0
same-fields p q e = let same : p ≡ q = cc in ap (λ r. r.0) same

same-rest : (p q : Read) → Some p ≡ Some q → p.2 ≡ q.2
same-rest p q e = let same : p ≡ q = cc in ap (λ r. r.2) same

-- where LF ends a row and leaves the byte after it, the end of the text ends the row as LF does
end-as-lf : (s : State) (fields after : List (List ℕ)) (field x : List ℕ)
    → next_record default_config s fields field (x ++ (10 ∷ 0 ∷ [])) ≡ Some (after, st.StartRecord, 0 ∷ [])
    → next_record default_config s fields field x ≡ Some (after, st.StartRecord, [])
unfolding next_record
end-as-lf st.StartRecord fields after field [] e = absurd (none-left _ (after, st.StartRecord, 0 ∷ []) e refl refl)
end-as-lf st.AfterCr fields after field [] e = absurd (none-left _ (after, st.StartRecord, 0 ∷ []) e refl refl)
end-as-lf st.InComment fields after field [] e = absurd (none-left _ (after, st.StartRecord, 0 ∷ []) e refl refl)
end-as-lf st.InEscape fields after field [] e = absurd (none-left _ (after, st.StartRecord, 0 ∷ []) e refl refl)
end-as-lf st.InQuoted fields after field [] e = absurd (none-left _ (after, st.StartRecord, 0 ∷ []) e refl refl)
end-as-lf st.StartField fields after field [] e =
    ap (λ rows. Some (rows, st.StartRecord, [])) (same-fields _ (after, st.StartRecord, 0 ∷ []) e)
end-as-lf st.InField fields after field [] e =
    ap (λ rows. Some (rows, st.StartRecord, [])) (same-fields _ (after, st.StartRecord, 0 ∷ []) e)
end-as-lf st.AfterQuote fields after field [] e =
    ap (λ rows. Some (rows, st.StartRecord, [])) (same-fields _ (after, st.StartRecord, 0 ∷ []) e)
end-as-lf s fields after field (c ∷ x) e = elim (cases_Bool (is_end (step default_config s c).1)) [
  | inl ends ↦
      absurd (longer x (same-rest
      (fields_after (step default_config s c).1 fields field, (step default_config s c).0, x ++ (10 ∷ 0 ∷ []))
      (after, st.StartRecord, 0 ∷ []) (rw ends at e)))
  | inr on ↦ rw on (end-as-lf (step default_config s c).0 (fields_after (step default_config s c).1 fields field) after
      (field_after (step default_config s c).1 c field) x (rw on at e))
]

-- the stored text of a row reads as one row
pub stored-row : (fields : List (List ℕ)) → rows_in (stored_text fields) ≡ read_back fields ∷ []
stored-row fields =
    let read = rw (stored-lf fields, append_assoc (stored_text fields) (10 ∷ []) (0 ∷ [])) at (read-write fields (0 ∷ [])) in
    let one = end-as-lf st.StartRecord [] (read_back fields) [] (stored_text fields) read in
    (rows-more (stored_text fields) (read_back fields) st.StartRecord [] one).0 ∙ rw rows-nil refl

-- a stored text in UTF-8 within the limit, with no byte order mark at its front, is a payload
pub kept-stored : (text behind : List ℕ) → IsStored text → length text ≤ longest_payload → is_utf8 text ≡ true
    → behind ≡ strip_bom text → length text ≤ length behind
    → Some text ≡ kept text
kept-stored text behind (fields, e) short utf8 same long =
    let whole : length text ≤ length (strip_bom text) = omega (arith, ap length same) in
    let one : rows_in text ≡ read_back fields ∷ [] = ap rows_in e ∙ stored-row fields in
    let found : only (rows_in text) ≡ (if true then Some (read_back fields) else None) = rw one refl in
    kept_some text (read_back fields) (read_some text text (read_back fields) true (sym (strip-same text whole)) utf8 short found refl)
