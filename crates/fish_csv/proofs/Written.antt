-- The text of a row, as it is written part by part.
use Rattle.std.specs.Prelude.{◌⊎◌}
use Rattle.std.proofs.Common.{◌≡◌, ◌==◌, ◌<◌, ◌≤◌, ◌+◌, ◌++◌, ◌∷◌, ◌∙◌, [], ℕ, List, Some, None, zero, suc, refl, sym}
use Rattle.std.proofs.Common.{ap, true, false, length, take, get_or, append_assoc, arith, inl, inr}
use Rattle.std.proofs.lemmas.Bool.{cases_lt}
use Rattle.std.proofs.lemmas.List.{append-nil, take_all}
use Rattle.csv.specs.Records.{field_at}
use Rattle.csv.specs.Writing.{default_writer, escaped, field_text, fields_text, is_blank, next_sep, row_body}
use Rattle.csv.proofs.RecordFacts.{field-get, field-there}
use Rattle.csv.proofs.WriteFacts.{row-step}
use Rattle.fish_csv.specs.Rows.{stored_text}
use Rattle.fish_csv.proofs.Stored.{blank_quotes, stored-is}

-- a run and two quotes more
pub escaped-more : (before middle after run rest behind total : List ℕ) → middle ≡ before ++ run → after ≡ middle ++ (34 ∷ 34 ∷ [])
    → escaped default_writer rest ≡ (run ++ (34 ∷ 34 ∷ [])) ++ escaped default_writer behind
    → before ++ escaped default_writer rest ≡ total → after ++ escaped default_writer behind ≡ total
escaped-more before middle after run rest behind total e f g h =
    let left : after ++ escaped default_writer behind ≡ ((before ++ run) ++ (34 ∷ 34 ∷ []))
    ++ escaped default_writer behind = rw (f, e) refl in
    let right : before ++ escaped default_writer rest ≡ before ++
    ((run ++ (34 ∷ 34 ∷ [])) ++ escaped default_writer behind) = ap (λ t. before ++ t) g in
    let same : ((before ++ run) ++ (34 ∷ 34 ∷ [])) ++ escaped default_writer behind ≡ before ++
    ((run ++ (34 ∷ 34 ∷ [])) ++ escaped default_writer behind) = simp append_assoc in
    left ∙ same ∙ sym right ∙ h

-- a field that a row has stands at a position of the row, and one that it doesn't have comes after it
pub field-below : (fields : List (List ℕ)) (i : ℕ) (text : List ℕ) → Some text ≡ field_at fields i → i < length fields
unfolding field_at
field-below [] i text e = cc e
field-below (x ∷ fields) zero text e = omega arith
field-below (x ∷ fields) (suc i) text e = omega (arith, field-below fields i text e)

pub field-past : (fields : List (List ℕ)) (i : ℕ) → None ≡ field_at fields i → length fields ≤ i
field-past fields i e = elim (cases_lt i (length fields)) [
  | inl below ↦ absurd (field-there fields i below (sym e))
  | inr past ↦ past
]

-- a field more
pub fields-more : (fields : List (List ℕ)) (i : ℕ) (text before middle after : List ℕ) → Some text ≡ field_at fields i
    → before ≡ row_body default_writer (take i fields) → middle ≡ before ++ next_sep default_writer i
    → after ≡ middle ++ field_text default_writer text
    → after ≡ row_body default_writer (take (i + 1) fields)
fields-more fields i text before middle after at e f g =
    let all = row-step default_writer fields i (field-below fields i text at) in
    let same : get_or fields i [] ≡ text = field-get fields i text (sym at) in
    g ∙ rw (f, e, all, same)
    (append_assoc (row_body default_writer (take i fields)) (next_sep default_writer i)
    (field_text default_writer text))

-- a row shows no byte where it has one field at most and its body is empty
pub blank-yes : (fields : List (List ℕ)) → length fields < 2 → (length (row_body default_writer fields) == 0) ≡ true
    → is_blank default_writer fields ≡ true
unfolding is_blank fields_text
blank-yes [] h e = refl
blank-yes (x ∷ []) h e = rw (append-nil (field_text default_writer x)) at e
blank-yes (x ∷ y ∷ ys) h e = absurd (omega arith)

pub blank-no : (fields : List (List ℕ)) → (2 ≤ length fields)
    ⊎ ((length (row_body default_writer fields) == 0) ≡ false) → is_blank default_writer fields ≡ false
unfolding is_blank fields_text
blank-no [] (inl many) = absurd (omega arith)
blank-no [] (inr some) = cc some
blank-no (x ∷ []) (inl many) = absurd (omega arith)
blank-no (x ∷ []) (inr some) = rw (append-nil (field_text default_writer x)) at some
blank-no (x ∷ y ∷ ys) e = refl

-- the body of a row is written where the row has no field at the position
all-written : (fields : List (List ℕ)) (position : ℕ) (out : List ℕ) → None ≡ field_at fields position
    → out ≡ row_body default_writer (take position fields) → out ≡ row_body default_writer fields
all-written fields position out none e = e ∙ ap (row_body default_writer) (take_all position fields (field-past fields position none))

-- a row that shows no byte is written as two quotes, another as its body
pub written-blank : (fields : List (List ℕ)) (position : ℕ) (out after : List ℕ) → None ≡ field_at fields position
    → position ≤ length fields → out ≡ row_body default_writer (take position fields)
    → position < 2 → (length out == 0) ≡ true → after ≡ out ++ (34 ∷ 34 ∷ []) → after ≡ stored_text fields
written-blank fields position out after none within e few empty f =
    let body = all-written fields position out none e in
    let past = field-past fields position none in
    let blank = blank-yes fields (omega arith) (rw body at empty) in
    let quotes : blank_quotes fields ≡ 34 ∷ 34 ∷ [] = rw blank refl in
    f ∙ rw body (ap (λ t. row_body default_writer fields ++ t) (sym quotes)) ∙ sym (stored-is fields)

pub written-whole : (fields : List (List ℕ)) (position : ℕ) (out : List ℕ) → None ≡ field_at fields position
    → position ≤ length fields → out ≡ row_body default_writer (take position fields)
    → (2 ≤ position) ⊎ ((length out == 0) ≡ false) → out ≡ stored_text fields
written-whole fields position out none within e shows =
    let body = all-written fields position out none e in
    let quotes : blank_quotes fields ≡ [] =
    rw (blank-no fields (elim shows [ inl many ↦ inl (omega arith) | inr some ↦ inr (rw body at some) ])) refl in
    body ∙ sym (append-nil (row_body default_writer fields))
    ∙ ap (λ t. row_body default_writer fields ++ t) (sym quotes) ∙ sym (stored-is fields)
