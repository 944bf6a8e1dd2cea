-- The lines of a file, stored one after the other.
use Rattle.std.proofs.Common.{◌≡◌, ℕ, ◌+◌, ◌<◌, ◌≤◌, List, [], ◌∷◌, ◌++◌, length, map, take, refl, sym, ap, ◌∙◌, subst, inl, inr}
use Rattle.std.proofs.Common.{⊎_elim, arith, append_assoc, append-nil, length-append, Option, Some, None, true, false, Bool}
use Rattle.std.specs.Prelude.{Err, IfOk, MatchOption, Ok, Result, is_some, option_map, if◌then◌else◌}
use Rattle.std.proofs.lemmas.List.Sums.{sum_by-append}
use Rattle.std.proofs.lemmas.Option.{same_Some}
use Rattle.fish_csv.specs.Left.{rows_left}
use Rattle.fish_csv.specs.Reading.{row_of, rows_in}
use Rattle.fish_csv.specs.Rows as csv
use Rattle.fish_csv.specs.declared.file.RowTexts.{RowTexts}
use Rattle.fish_ingest.specs.Ingestion.{CanStart, HasIngested}
use Rattle.fish_ingest.specs.Refusal.{HasNotClaimed, IsShutHere}
use Rattle.fish_ingest.specs.declared.refusal.IngestRefusal.TheVariants as refusal
use Rattle.fish_json.specs.Lines as json
use Rattle.fish_json.specs.Reading.{record_of}
use Rattle.fish_lanes.proofs.Gaining.{full_by, gains_both, gains_left, gains_one, gains_self, keeps_refused, marks_refused, marks_same}
use Rattle.fish_lanes.proofs.Keeping.{keeps_both, keeps_ingests, keeps_self}
use Rattle.fish_lanes.proofs.RowLists.{contents_append}
use Rattle.fish_lanes.specs.within.Doing.{GainsFirst, IsItem, IsPart}
use Rattle.fish_lanes.specs.within.Pasts.{anywhere}
use Rattle.fish_lanes.specs.within.Gains.{Gains}
use Rattle.fish_lanes.specs.Records.{Content, contents_of_rows}
use Rattle.fish_lanes.specs.within.Registering.{KeepsRegistry}
use Rattle.fish_lanes.specs.within.Sizes.{IsSizeBetween}
use Rattle.fish_lanes.specs.within.Storing.{EndsWith, FindsFull, FindsTextFull, IsFullAt, IsRecordText, IsPartStored, IsStoredUpTo}
use Rattle.fish_lanes.specs.within.Storing.{TakesLine, TakesText, item_of, nothing_stored, one_refused, one_stored}
use Rattle.fish_lanes.specs.Telling.{AreCounted, all_of}
use Rattle.fish_lanes.specs.declared.ingesting.Tally.{Tally}
use Rattle.fish_lanes.specs.declared.work.Work.{Work}
use Rattle.fish_lanes.specs.declared.work.Work.TheVariants as work
use Rattle.fish_value.specs.Outcomes.{accepted, refused}
use Rattle.fish_lines.specs.Resuming.{outcomes_from}
use Rattle.fish_lines.specs.Texts.{form_of_texts, payload_in_text, text_form, texts_left}
use Rattle.fish_lines.specs.declared.resuming.Begin.{Begin}
use Rattle.fish_lines.specs.declared.texts.RecordText.{RecordText}
use Rattle.fish_lines.specs.declared.texts.RecordText.TheVariants as text
use Rattle.fish_lines.specs.declared.texts.RecordTexts.{RecordTexts}
use Rattle.fish_lines.specs.declared.texts.RecordTexts.TheVariants as texts
use Rattle.fish_psf.proofs.RecordLemmas.{csv_long, json_long}
use Rattle.fish_psf.specs.Keys.{keys_for}
use Rattle.fish_psf.specs.Records.{fields_of_payload, is_record}
use Rattle.fish_report.specs.declared.item.Item.TheVariants as item
use Rattle.fish_rule.specs.Logs.{Learns}
use Rattle.fish_rule.specs.Table.{IsOfMoment}
use Rattle.fish_rule.specs.declared.view.Epoch.TheVariants.{Out}
use Rattle.fish_rule.specs.declared.view.Shut.{Shut}
use Rattle.fish_rule.specs.declared.view.View.{View}
use Rattle.fish_value.specs.Limits.{longest_file, longest_payload}
use Rattle.fish_value.specs.declared.field.Form.{Form}
use Rattle.fish_value.specs.declared.field.Form.TheVariants.{Csv, Json}

-- ---- lists

accepted_append : (xs ys : List (Option (List ℕ))) → accepted (xs ++ ys) ≡ accepted xs ++ accepted ys
accepted_append [] ys = refl
accepted_append (Some p ∷ xs) ys = ap (λ (z : List (List ℕ)). p ∷ z) (accepted_append xs ys)
accepted_append (None ∷ xs) ys = accepted_append xs ys

refused_append : (xs ys : List (Option (List ℕ))) → refused (xs ++ ys) ≡ refused xs + refused ys
refused_append xs ys = sum_by-append _ xs ys

all_append : (form : Form) (xs ys : List (List ℕ)) → all_of form (xs ++ ys) ≡ all_of form xs ++ all_of form ys
all_append form [] ys = refl
all_append form (p ∷ xs) ys = ap (λ (z : List Content). (form, p) ∷ z) (all_append form xs ys)

-- the first of what stands in front
take_front : (form : Form) (xs ys : List (List ℕ)) → take (length xs) (all_of form (xs ++ ys)) ≡ all_of form xs
take_front form [] ys = refl
take_front form (p ∷ xs) ys = ap (λ (z : List Content). (form, p) ∷ z) (take_front form xs ys)

-- ---- one line

-- a line in JSON is its payload where it is a record
pub json_record : (line : List ℕ) → is_record Json line ≡ true → json.payload_of_line line ≡ Some line
unfolding is_record
json_record line h = by (record_of line) h
  where
    by : {D : Type 0} (o : Option D) → is_some o ≡ true → option_map (λ _. line) o ≡ Some line
    by (Some d) h = refl
    by None h = absurd cc

pub json_refused : (line : List ℕ) → is_record Json line ≡ false → json.payload_of_line line ≡ None
unfolding is_record
json_refused line h = by (record_of line) h
  where
    by : {D : Type 0} (o : Option D) → is_some o ≡ false → option_map (λ _. line) o ≡ None
    by (Some d) h = absurd cc
    by None h = refl

-- ---- lines so far

-- none
pub stored_none : (v : View) (form : Form) (outs : List (Option (List ℕ))) (tally : Tally) → v.epoch ≡ Out → v.flight ≡ None
    → tally ≡ nothing_stored → IsStoredUpTo v v form outs outs tally
stored_none v form outs tally outside idle none = record {
  front = [];
  parts = refl;
  rows = [];
  gains = gains_self v outside idle;
  registry = keeps_self v;
  content = refl;
  counted = record {
    stored_is = ap (λ (z : Tally). z.stored) none;
    refused_is = ap (λ (z : Tally). z.refused) none;
  };
}

-- the pass may start again after them
pub stored_starts : (v u : View) (form : Form) (outs behind : List (Option (List ℕ))) (tally : Tally) → CanStart v
    → IsStoredUpTo v u form outs behind tally → CanStart u
stored_starts v u form outs behind tally can h = record {
  live = subst (λ (z : ℕ). 1 ≤ z) (sym h.gains.on.lane) can.live;
  outside = h.gains.outside;
}

module _ (v u t : View) (form : Form) (outs behind : List (Option (List ℕ))) (tally after : Tally) where
  -- one more that is a record
  pub stored_more : (payload : List ℕ) (number : ℕ) → IsStoredUpTo v u form outs (Some payload ∷ behind) tally
      → HasIngested u form payload number t → after ≡ one_stored tally → IsStoredUpTo v t form outs behind after
  stored_more payload number h done is = record {
    front = h.front ++ Some payload ∷ [];
    parts = h.parts ∙ sym (append_assoc h.front (Some payload ∷ []) behind);
    rows = h.rows ++ record { number = number; form = form; payload = payload } ∷ [];
    gains = gains_both v u t h.rows _ h.gains (gains_one u t form payload number done);
    registry = keeps_both v u t h.registry (keeps_ingests u t done.on);
    content = contents_append h.rows _ ∙ ap (λ (z : List Content). z ++ (form, payload) ∷ []) h.content
        ∙ sym (ap (all_of form) (accepted_append h.front (Some payload ∷ []))
        ∙ all_append form (accepted h.front) (payload ∷ []));
    counted = record {
      stored_is = ap (λ (z : Tally). z.stored) is ∙ (
          let a = h.counted.stored_is in
          let b = ap length (accepted_append h.front (Some payload ∷ [])) in
          let c = length-append (accepted h.front) (payload ∷ []) in omega arith);
      refused_is = ap (λ (z : Tally). z.refused) is ∙ (
          let a = h.counted.refused_is in let b = refused_append h.front (Some payload ∷ []) in omega arith);
    };
  }

  -- or none
  pub stored_none_more : IsStoredUpTo v u form outs (None ∷ behind) tally → Gains u t [] → KeepsRegistry u t
      → after ≡ one_refused tally → IsStoredUpTo v t form outs behind after
  stored_none_more h gains keeps is = record {
    front = h.front ++ None ∷ [];
    parts = h.parts ∙ sym (append_assoc h.front (None ∷ []) behind);
    rows = h.rows ++ [];
    gains = gains_both v u t h.rows [] h.gains gains;
    registry = keeps_both v u t h.registry keeps;
    content = ap contents_of_rows (append-nil h.rows) ∙ h.content
        ∙ sym (ap (all_of form) (accepted_append h.front (None ∷ []) ∙ append-nil (accepted h.front)));
    counted = record {
      stored_is = ap (λ (z : Tally). z.stored) is ∙ (
          let a = h.counted.stored_is in
          let b = ap length (accepted_append h.front (None ∷ []) ∙ append-nil (accepted h.front)) in omega arith);
      refused_is = ap (λ (z : Tally). z.refused) is ∙ (
          let a = h.counted.refused_is in let b = refused_append h.front (None ∷ []) in omega arith);
    };
  }

-- a pass that only left the log gained nothing
pub gains_unclaimed : (v u : View) → HasNotClaimed v u → Gains v u []
gains_unclaimed v u h = gains_left v u h.left (λ s e. h.shut ∙ e) (marks_same v u h.left.on.learns h.shut)

-- what stands after a pass that gained nothing
pub stored_later : (v u t : View) (form : Form) (outs behind : List (Option (List ℕ))) (tally : Tally) → Gains u t []
    → KeepsRegistry u t → IsStoredUpTo v u form outs behind tally → IsStoredUpTo v t form outs behind tally
stored_later v u t form outs behind tally gains keeps h = record {
  front = h.front;
  parts = h.parts;
  rows = h.rows ++ [];
  gains = gains_both v u t h.rows [] h.gains gains;
  registry = keeps_both v u t h.registry keeps;
  content = ap contents_of_rows (append-nil h.rows) ∙ h.content;
  counted = h.counted;
}

-- a line or row that was taken as a payload is a text that was
pub taken : {E : Type 0} (r : Result (Option Shut) E) (v u : View) (form : Form) (payload : List ℕ) (outcome : Option (List ℕ))
    (t t' : Tally) → (is_record form payload ≡ true → outcome ≡ Some payload) → (is_record form payload ≡ false → outcome ≡ None)
    → IfOk r (λ end. MatchOption end (TakesLine v u form payload t t') (FindsFull v u form payload t t'))
    → IfOk r (λ end. MatchOption end (TakesText v u form outcome t t') (FindsTextFull v u form outcome t t'))
taken (Ok None) v u form payload outcome t t' some none (inl done) =
    subst (λ (o : Option (List ℕ)). TakesText v u form o t t') (sym (some done.1.accepted)) done
taken (Ok None) v u form payload outcome t t' some none (inr left) =
    subst (λ (o : Option (List ℕ)). TakesText v u form o t t') (sym (none left.0))
    (gains_unclaimed v u left.1, keeps_ingests v u left.1.left.on, left.1.shut, left.2)
taken (Ok (Some shut)) v u form payload outcome t t' some none f = (payload, some f.0, f.1, f.2)
taken (Err e) v u form payload outcome t t' some none h = tt

-- a text that was taken is stored where it is a record
pub stored_text : (v u t : View) (form : Form) (outs behind : List (Option (List ℕ))) (outcome : Option (List ℕ)) (tally after : Tally)
    → IsStoredUpTo v u form outs (outcome ∷ behind) tally → TakesText u t form outcome tally after
    → IsStoredUpTo v t form outs behind after
stored_text v u t form outs behind (Some payload) tally after h done =
    stored_more v u t form outs behind tally after payload done.0 h done.1 done.2
stored_text v u t form outs behind None tally after h left =
    stored_none_more v u t form outs behind tally after h left.0 left.1 left.3

-- it leaves what had shut the pass
pub text_shut : (v u : View) (form : Form) (outcome : Option (List ℕ)) (t t' : Tally) → TakesText v u form outcome t t'
    → u.shut ≡ v.shut
text_shut v u form (Some payload) t t' h = h.1.shut
text_shut v u form None t t' h = h.2

-- the claim that shuts a pass has the lines of the record that it prepared
claim_size : (v u : View) (form : Form) (payload : List ℕ) (shut : Shut) → Learns v u → IsShutHere v form payload shut u
    → IsSizeBetween v u form payload shut.lines
claim_size v u form payload shut learns h =
    let p = h.are.parts in
    let later = learns.version in
    let entered = h.version_is in
    let same = p.version_is in
    record {
      version = h.are.origin.version;
      least = omega arith;
      rows = h.are.active.0;
      knows = h.are.active.1;
      size = record {
        parts = h.parts;
        form_is = p.form_is ∙ h.are.form_is;
        payload_is = p.payload_is;
        keys = record {
          defs = h.are.defs;
          are = h.are.active.2;
          written = p.written;
          keys = p.keys ∙ (λ i. keys_for (fields_of_payload (sym p.form_is i) (sym p.payload_is i)) h.are.defs);
        };
        lines_are = h.lines_are;
      };
    }

-- whose definitions are those of no earlier version than before
size_sooner : (v u t : View) (form : Form) (payload : List ℕ) (lines : ℕ) → Learns v u → IsSizeBetween u t form payload lines
    → IsSizeBetween v t form payload lines
size_sooner v u t form payload lines learns h =
    let later = learns.version in
    let least = h.least in
    record { version = h.version; least = omega arith; rows = h.rows; knows = h.knows; size = h.size }

-- a text that found the log full
pub full_text : (v u t : View) (form : Form) (outs behind : List (Option (List ℕ))) (outcome : Option (List ℕ)) (tally after : Tally)
    (shut : Shut) → IsOfMoment t → u.shut ≡ v.shut → IsStoredUpTo v u form outs (outcome ∷ behind) tally
    → FindsTextFull u t form outcome tally after shut → IsFullAt v t form outs after shut
full_text v u t form outs behind outcome tally after shut stands same h f =
    let payload = f.0 in
    let is = f.2 in
    let e = refusal.Full shut.line shut.lines shut.end in
    let gains : Gains u t [] = gains_left u t is.left (keeps_refused u t form payload e is) (marks_refused u t form payload e is) in
    record {
      payload = payload;
      rest = behind;
      stored = subst (λ (z : Tally). IsStoredUpTo v t form outs (Some payload ∷ behind) z) (sym f.3)
          (stored_later v u t form outs (Some payload ∷ behind) tally gains (keeps_ingests u t is.left.on)
          (subst (λ (z : Option (List ℕ)). IsStoredUpTo v u form outs (z ∷ behind) tally) f.1 h));
      full = full_by t shut.line shut.lines shut.end stands is.shut_is;
      size = ⊎_elim (λ (b : (u.shut ≡ Some shut) × HasNotClaimed u t). inl (sym same ∙ b.0))
          (λ (b : IsShutHere u form payload shut t). inr (size_sooner v u t form payload shut.lines h.gains.on.learns
          (claim_size u t form payload shut is.left.on.learns b))) is.by_claim;
    }

-- of the payloads of a file the first so many are stored
pub stored_first : (v u : View) (form : Form) (outs behind : List (Option (List ℕ))) (tally : Tally)
    → IsStoredUpTo v u form outs behind tally → GainsFirst v u (all_of form (accepted outs)) tally.stored
stored_first v u form outs behind tally h = record {
  registry = h.registry;
  rows = h.rows;
  gains = h.gains;
  first = h.content ∙ sym (take_front form (accepted h.front) (accepted behind))
      ∙ (λ i. take (sym h.counted.stored_is i) (all_of form (sym (ap accepted h.parts ∙ accepted_append h.front behind) i)));
}

-- a longer text than a payload may be is no record
pub long_none : (form : Form) (payload : List ℕ) → longest_payload < length payload → is_record form payload ≡ false
long_none Json payload h = json_long payload h
long_none Csv payload h = csv_long payload h

-- a row that is given as a payload is a record
pub row_record : (fields : List (List ℕ)) (text : List ℕ) → csv.payload_of_row fields ≡ Some text → is_record Csv text ≡ true
unfolding is_record csv.payload_of_row
row_record fields text h = by (csv.stored_text fields) (is_some (row_of (csv.stored_text fields))) refl h
  where
    by : (s : List ℕ) (b : Bool) → is_some (row_of s) ≡ b → (if b then Some s else None) ≡ Some text
        → is_some (row_of text) ≡ true
    by s true e h = subst (λ (z : List ℕ). is_some (row_of z) ≡ true) (same_Some _ _ h) e
    by s false e h = absurd cc

-- so is the first that is still to come
pub head_record : (texts : RowTexts) (text : List ℕ) (more : List (Option (List ℕ))) → rows_left texts ≡ Some text ∷ more
    → is_record Csv text ≡ true
unfolding rows_left
head_record texts text more h = by (rows_in texts.rest.now) h
  where
    by : (rows : List (List (List ℕ))) → map csv.payload_of_row rows ≡ Some text ∷ more → is_record Csv text ≡ true
    by [] h = absurd cc
    by (fields ∷ rows) h = row_record fields text (first (csv.payload_of_row fields) (map csv.payload_of_row rows) h)
      where
        first : (o : Option (List ℕ)) (os : List (Option (List ℕ))) → o ∷ os ≡ Some text ∷ more → o ≡ Some text
        first o os e = cc

-- so is a row that a file gives
pub text_given : (file : RecordTexts) (x : RecordText) (more : List (Option (List ℕ))) → text_form x ≡ form_of_texts file
    → texts_left file ≡ payload_in_text x ∷ more → IsRecordText x
text_given file (text.Line line) more same next = tt
text_given file text.Refused more same next = tt
text_given (texts.Rows rows) (text.Row row) more same next = head_record rows row more next
text_given (texts.Lines lines) (text.Row row) more same next = absurd (let bad : Csv ≡ Json = same in cc)

-- each text takes one
pub text_one : (v u : View) (form : Form) (outcome : Option (List ℕ)) (t t' : Tally) → TakesText v u form outcome t t'
    → t'.stored + t'.refused ≡ t.stored + t.refused + 1
text_one v u form (Some payload) t t' h =
    (let a = ap (λ (z : Tally). z.stored) h.2 in let b = ap (λ (z : Tally). z.refused) h.2 in omega arith)
text_one v u form None t t' h =
    (let a = ap (λ (z : Tally). z.stored) h.3 in let b = ap (λ (z : Tally). z.refused) h.3 in omega arith)

-- ---- the file

-- what was stored of a file is what its item tells
pub file_item : (v u : View) (form : Form) (begin : Begin) (name file : List ℕ) (tally : Tally) (end : Option Shut)
    → length file ≤ longest_file → EndsWith v u form (outcomes_from form begin file) tally end
    → IsItem anywhere v u (work.Ingest form begin name file) (item_of name tally end)
file_item v u form begin name file tally None within h = record {
  gained = stored_first v u form (outcomes_from form begin file) [] tally h.stored;
  shuts = λ c e. inl (sym h.shut ∙ e);
  fit = inl (record {
    stored = tally.stored;
    many = tally.refused;
    is = refl;
    within = within;
    counted = subst (λ (z : List (Option (List ℕ))). AreCounted z tally.stored tally.refused)
        (sym (h.stored.parts ∙ append-nil h.stored.front)) h.stored.counted;
  });
}
file_item v u form begin name file tally (Some shut) within h = record {
  gained = stored_first v u form (outcomes_from form begin file) (Some h.payload ∷ h.rest) tally h.stored;
  shuts = λ c e. inr (
    name,
    tally.stored,
    tally.refused,
    inl (ap (λ (z : Shut). item.IngestFull name z.line z.lines z.end tally.stored tally.refused)
        (same_Some shut c (sym h.full.shut ∙ e))),
  );
  fit = inr (inl (record {
    line = shut.line;
    lines = shut.lines;
    end = shut.end;
    stored = tally.stored;
    many = tally.refused;
    is = refl;
    within = within;
    counted = record {
      front = h.stored.front;
      payload = h.payload;
      behind = h.rest;
      parts = h.stored.parts;
      counted = h.stored.counted;
    };
    full = h.full;
    size = h.size;
  }));
}

-- and a part of it a part
pub file_part : (v u : View) (form : Form) (begin : Begin) (name file : List ℕ) → IsPartStored v u form (outcomes_from form begin file)
    → IsPart v u (work.Ingest form begin name file)
file_part v u form begin name file h = (h.1.stored, stored_first v u form (outcomes_from form begin file) h.0 h.1 h.2)

-- nothing of it is one too
pub nothing_part : (v : View) (w : Work) → v.epoch ≡ Out → v.flight ≡ None → IsPart v v w
nothing_part v w outside idle = (0, record { registry = keeps_self v; rows = []; gains = gains_self v outside idle; first = refl })
