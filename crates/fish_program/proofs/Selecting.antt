-- What one more part of a file adds to what was selected, and what its rest does.
use Rattle.std.proofs.Common.{◌≡◌, ◌<◌, ◌≤◌, ◌+◌, inl, inr, ℕ, List, [], ◌∷◌, ◌++◌, append_assoc, refl, sym, ap, ◌∙◌, subst}
use Rattle.std.proofs.Common.{Option, Some, None, arith, length, length-append, take, true, false, Bool, ◌⊎◌}
use Rattle.std.proofs.lemmas.List.{length-take, take_all}
use Rattle.std.proofs.lemmas.List.Elements.{filter_map-append}
use Rattle.std.proofs.lemmas.Option.{same_Some}
use Rattle.std.specs.Prelude.{Err, IfOk, IfSome, Ok, Result}
use Rattle.fish_feed.proofs.Long.{too_long}
use Rattle.fish_feed.specs.OpenFiles.{GivesPart, IsFilePart, IsRestOf, IsStuck}
use Rattle.fish_feed.specs.Parts.{longest_csv_read}
use Rattle.fish_feed.specs.declared.part.OpenFile.{OpenFile}
use Rattle.fish_feed.specs.declared.part.Part.{Part}
use Rattle.fish_lang.specs.Definition.{definition_of}
use Rattle.fish_lanes.specs.declared.work.Work.{Work}
use Rattle.fish_lanes.specs.declared.work.Work.TheVariants as work
use Rattle.fish_lines.proofs.CutLemmas.{cut_after_line}
use Rattle.fish_lines.specs.File.{outcomes}
use Rattle.fish_value.specs.Outcomes.{accepted}
use Rattle.fish_lines.specs.Resuming.{outcomes_from}
use Rattle.fish_lines.specs.declared.resuming.Begin.{Begin}
use Rattle.fish_lines.specs.declared.resuming.Begin.TheVariants.{After, Start}
use Rattle.fish_outside.specs.Content.{Took}
use Rattle.fish_program.specs.Answer.{PassesLimits}
use Rattle.fish_program.specs.within.Selecting.{HasSelected, IsPassed, IsSelected}
use Rattle.fish_select.specs.Selection.{HasFoundRows, most_records}
use Rattle.fish_select.specs.declared.found.Found.{Found}
use Rattle.fish_value.specs.Limits.{longest_file}
use Rattle.fish_value.specs.declared.field.Form.{Form}
use Rattle.fish_value.specs.declared.field.Form.TheVariants.{Json}
use Rattle.fish_command.specs.declared.command.Select.{Select}

-- a file in JSON that is cut after a line
cut_json : (form : Form) (begin : Begin) (part after front : List ℕ) → form ≡ Json → part ≡ front ++ 10 ∷ []
    → outcomes_from form begin (part ++ after) ≡ outcomes_from form begin part ++ outcomes_from form After after
cut_json form begin part after front json line =
    subst (λ (z : Form × List ℕ).
    outcomes_from z.0 begin (z.1 ++ after) ≡ outcomes_from z.0 begin z.1 ++ outcomes_from z.0 After after)
    (λ i. (sym json i, sym line i)) (cut_after_line begin front after)

-- the outcomes from a file's start are the file's
from_start : (form : Form) (header : Bool) (b : List ℕ) → outcomes_from form (Start header) b ≡ outcomes form header b
unfolding outcomes_from
from_start form header b = refl

-- more outcomes have no fewer records
more_accepted : (xs ys : List (Option (List ℕ))) → length (accepted (xs ++ ys)) ≡ length (accepted xs) + length (accepted ys)
more_accepted xs ys =
    ap length (filter_map-append (λ o. o) xs ys) ∙ length-append (accepted xs) (accepted ys)

module _ {F : Type 0} (left : F → Option (List ℕ)) (s : Select) where
  module _ (at_first : Option (List ℕ)) (o u : OpenFile F) (found more : Found)
      (h : HasSelected left at_first s o found) where
    -- what is asked, and the records of these lines or rows
    abbrev Adds : Begin → List ℕ → Type 0
    Adds begin bytes = (os : List (Option (List ℕ))) → HasFoundRows (definition_of s.def) s.value s.form os found
        → HasFoundRows (definition_of s.def) s.value s.form (os ++ outcomes_from s.form begin bytes) more

    -- ---- one more part

    module _ (w : Work) (p : IsFilePart left o w u) where
      joins : (l : List ℕ) → h.before ++ (o.rest ++ (p.more ++ l)) ≡ (h.before ++ p.part) ++ (u.rest ++ l)
      joins l = ap (λ (z : List ℕ). h.before ++ z) (sym (append_assoc o.rest p.more l) ∙ ap (λ (z : List ℕ). z ++ l) p.cut
          ∙ append_assoc p.part u.rest l)
          ∙ sym (append_assoc h.before p.part (u.rest ++ l))

      file_then : (x y : Option (List ℕ)) → Took x y p.more → IfSome x (λ l. at_first ≡ Some (h.before ++ (o.rest ++ l)))
          → IfSome y (λ l. at_first ≡ Some ((h.before ++ p.part) ++ (u.rest ++ l)))
      file_then x None took was = tt
      file_then None (Some l) took was = absurd (let bad : None ≡ Some (p.more ++ l) = took in cc)
      file_then (Some k) (Some l) took was =
          was ∙ ap (λ (z : List ℕ). Some (h.before ++ (o.rest ++ z))) (same_Some k (p.more ++ l) took)
          ∙ ap (λ (z : List ℕ). Some z) (joins l)

      goes_on_then : (after : List ℕ)
          → outcomes_from s.form (Start s.header) ((h.before ++ p.part) ++ after)
          ≡ (h.os ++ outcomes_from s.form o.begin p.part) ++ outcomes_from s.form u.begin after
      goes_on_then after =
          ap (outcomes_from s.form (Start s.header)) (append_assoc h.before p.part after)
          ∙ h.goes_on (p.part ++ after)
          ∙ ap (λ (z : List (Option (List ℕ))). h.os ++ z)
          (cut_json s.form o.begin p.part after p.line.0 (sym h.form_is ∙ p.json) p.line.1)
          ∙ sym (append_assoc h.os (outcomes_from s.form o.begin p.part) (outcomes_from s.form After after))
          ∙ ap (λ (z : Begin). (h.os ++ outcomes_from s.form o.begin p.part) ++ outcomes_from s.form z after) (sym p.begin_is)

      pub selected_part : Adds o.begin p.part → more.count + more.refused ≤ found.count + found.refused + length p.part
          → HasSelected left at_first s u more
      selected_part adds rises = record {
        before = h.before ++ p.part;
        os = h.os ++ outcomes_from s.form o.begin p.part;
        form_is = p.form_is ∙ h.form_is;
        room_is = omega (length-append h.before p.part, p.room_is, h.room_is, arith);
        found_is = adds h.os h.found_is;
        few = omega (length-append h.before p.part, h.few, rises, arith);
        goes_on = goes_on_then;
        file = file_then (left o.feed) (left u.feed) p.took h.file;
      }

      -- with which there are too many records
      pub passed_part : most_records < found.count + length (accepted (outcomes_from s.form o.begin p.part)) → IsPassed left at_first s u
      passed_part many = by (left u.feed) (file_then (left o.feed) (left u.feed) p.took h.file)
        where
          by : (y : Option (List ℕ)) → IfSome y (λ l. at_first ≡ Some ((h.before ++ p.part) ++ (u.rest ++ l)))
              → IfSome y (λ _. (b : List ℕ) × (at_first ≡ Some b) × PassesLimits s.form s.header b)
          by None file = tt
          by (Some l) file =
              let b = (h.before ++ p.part) ++ (u.rest ++ l) in
              let all : outcomes s.form s.header b
              ≡ (h.os ++ outcomes_from s.form o.begin p.part) ++ outcomes_from s.form u.begin (u.rest ++ l)
              = sym (from_start s.form s.header b) ∙ goes_on_then (u.rest ++ l) in (
                b,
                file,
                inr (omega (
                  ap (λ (z : List (Option (List ℕ))). length (accepted z)) all,
                  more_accepted (h.os ++ outcomes_from s.form o.begin p.part) (outcomes_from s.form u.begin (u.rest ++ l)),
                  more_accepted h.os (outcomes_from s.form o.begin p.part),
                  h.found_is.count,
                  many,
                  arith,
                )),
              )

    -- ---- all that is left

    module _ (w : Work) (r : IsRestOf left o w u) where
      -- what the file has, where it is still told
      rest_of : (P : List ℕ → Type 0)
          → ((l : List ℕ) → r.bytes ≡ take longest_csv_read (o.rest ++ l) → P (h.before ++ (o.rest ++ l)))
          → IfSome (left u.feed) (λ _. (b : List ℕ) × (at_first ≡ Some b) × P b)
      rest_of P holds = by (left u.feed) r.all
        where
          by : (y : Option (List ℕ))
              → IfSome y (λ _. (l : List ℕ) × (left o.feed ≡ Some l) × (r.bytes ≡ take longest_csv_read (o.rest ++ l)))
              → IfSome y (λ _. (b : List ℕ) × (at_first ≡ Some b) × P b)
          by None all = tt
          by (Some y) all = (
            h.before ++ (o.rest ++ all.0),
            subst (λ (z : Option (List ℕ)). IfSome z (λ l. at_first ≡ Some (h.before ++ (o.rest ++ l)))) all.1 h.file,
            holds all.0 all.2,
          )

      -- what is left is short enough, so it is all
      all_left : (l : List ℕ) → length r.bytes ≤ longest_file → r.bytes ≡ take longest_csv_read (o.rest ++ l) → r.bytes ≡ o.rest ++ l
      all_left l short is =
          let few : length (o.rest ++ l) ≤ longest_csv_read = omega
          (ap length is, length-take longest_csv_read (o.rest ++ l), short, arith) in
          is ∙ take_all longest_csv_read (o.rest ++ l) few

      outcomes_left : (l : List ℕ) → r.bytes ≡ o.rest ++ l
          → outcomes s.form s.header (h.before ++ (o.rest ++ l)) ≡ h.os ++ outcomes_from s.form o.begin r.bytes
      outcomes_left l is =
          sym (from_start s.form s.header (h.before ++ (o.rest ++ l))) ∙ h.goes_on (o.rest ++ l)
          ∙ ap (λ (z : List ℕ). h.os ++ outcomes_from s.form o.begin z) (sym is)

      pub selected_rest : Adds o.begin r.bytes → length r.bytes ≤ longest_file → IsSelected left at_first s u more
      selected_rest adds short = rest_of (λ b. HasFoundRows (definition_of s.def) s.value s.form (outcomes s.form s.header b) more)
          (λ l is. subst (λ (z : List (Option (List ℕ))). HasFoundRows (definition_of s.def) s.value s.form z more)
          (sym (outcomes_left l (all_left l short is))) (adds h.os h.found_is))

      -- with which there are too many records
      pub passed_rest : length r.bytes ≤ longest_file
          → most_records < found.count + length (accepted (outcomes_from s.form o.begin r.bytes)) → IsPassed left at_first s u
      passed_rest short many = rest_of (PassesLimits s.form s.header)
          (λ l is. inr (omega (
            ap (λ (z : List (Option (List ℕ))). length (accepted z)) (outcomes_left l (all_left l short is)),
            more_accepted h.os (outcomes_from s.form o.begin r.bytes),
            h.found_is.count,
            many,
            arith,
          )))

      -- or which is too long
      pub passed_long : longest_file < length r.bytes → IsPassed left at_first s u
      passed_long long = rest_of (PassesLimits s.form s.header)
          (λ l is. inl (too_long s.form h.before (o.rest ++ l) o.room h.room_is
          (subst (λ (z : Form × List ℕ). IsStuck z.0 o.room z.1) (λ i. (h.form_is i, is i)) (r.stuck long))
          (omega (ap length is, length-take longest_csv_read (o.rest ++ l), long, arith))).0)

-- ---- what was read and added

-- what follows from three facts of an answer
pub if_three : {T E : Type 0} {P Q R S : T → Type 0} (r : Result T E) → ((x : T) → P x → Q x → R x → S x)
    → IfOk r P → IfOk r Q → IfOk r R → IfOk r S
if_three (Ok x) f p q k = f x p q k
if_three (Err e) f p q k = tt

module _ {F : Type 0} (left : F → Option (List ℕ)) (s : Select) (o u : OpenFile F) (p : Part) (found more : Found) (form : Form)
    (begin : Begin) (name bytes b : List ℕ) (gives : GivesPart left o p u) (is : p.work ≡ work.Ingest form begin name bytes)
    (same : b ≡ bytes) where
  abbrev WithBytes : List ℕ → Type 0
  WithBytes z = (os : List (Option (List ℕ))) → HasFoundRows (definition_of s.def) s.value s.form os found
      → HasFoundRows (definition_of s.def) s.value s.form (os ++ outcomes_from s.form begin z) more

  begin_of : (z : List ℕ) → p.work ≡ work.Ingest o.form o.begin o.name z → (begin ≡ o.begin) × (b ≡ z)
  begin_of z at =
      let all : work.Ingest form begin name bytes ≡ work.Ingest o.form o.begin o.name z = sym is ∙ at in
      let here : begin ≡ o.begin = cc in
      let there : bytes ≡ z = cc in
      (here, same ∙ there)

  pub then_part : p.last ≡ false → WithBytes b → more.count + more.refused ≤ found.count + found.refused + length b
      → (u.room < o.room) × ((at_first : Option (List ℕ)) → HasSelected left at_first s o found → HasSelected left at_first s u more)
  then_part last adds rises =
      let part = gives.one last in
      let at = begin_of part.part part.is in
      let some : length part.part ≡ length part.line.0 + 1 = ap length part.line.1 ∙ length-append part.line.0 (10 ∷ []) in (
        omega (part.room_is, some, arith),
        λ at_first h. selected_part left s at_first o u found more h p.work part
            (subst (λ (z : Begin × List ℕ). (os : List (Option (List ℕ))) → HasFoundRows (definition_of s.def) s.value s.form os found
            → HasFoundRows (definition_of s.def) s.value s.form (os ++ outcomes_from s.form z.0 z.1) more) (λ i. (at.0 i, at.1 i)) adds)
            (omega (rises, ap length at.1, arith)),
      )

  pub then_end : (p.last ≡ true) × (length b ≤ longest_file) → WithBytes b → (at_first : Option (List ℕ))
      → HasSelected left at_first s o found → IsSelected left at_first s u more
  then_end last adds at_first h =
      let rest = gives.rest last.0 in
      let at = begin_of rest.bytes rest.is in
      selected_rest left s at_first o u found more h p.work rest
      (subst (λ (z : Begin × List ℕ). (os : List (Option (List ℕ))) → HasFoundRows (definition_of s.def) s.value s.form os found
      → HasFoundRows (definition_of s.def) s.value s.form (os ++ outcomes_from s.form z.0 z.1) more) (λ i. (at.0 i, at.1 i)) adds)
      (omega (last.1, ap length at.1, arith))

  pub then_long : (last : Bool) → p.last ≡ last → ((last ≡ true) × (longest_file < length b))
      ⊎ ((last ≡ true → length b ≤ longest_file)
      × (most_records < found.count + length (accepted (outcomes_from s.form begin b))))
      → (at_first : Option (List ℕ)) → HasSelected left at_first s o found → IsPassed left at_first s u
  then_long true last (inl long) at_first h =
      let rest = gives.rest last in
      let at = begin_of rest.bytes rest.is in
      passed_long left s at_first o u found more h p.work rest (omega (long.1, ap length at.1, arith))
  then_long true last (inr many) at_first h =
      let rest = gives.rest last in
      let at = begin_of rest.bytes rest.is in
      passed_rest left s at_first o u found more h p.work rest (omega (many.0 refl, ap length at.1, arith))
      (subst (λ (z : Begin × List ℕ). most_records < found.count + length (accepted (outcomes_from s.form z.0 z.1)))
      (λ i. (at.0 i, at.1 i)) many.1)
  then_long false last (inl long) at_first h = absurd (let bad : false ≡ true = long.0 in cc)
  then_long false last (inr many) at_first h =
      let part = gives.one last in
      let at = begin_of part.part part.is in
      passed_part left s at_first o u found more h p.work part
      (subst (λ (z : Begin × List ℕ). most_records < found.count + length (accepted (outcomes_from s.form z.0 z.1)))
      (λ i. (at.0 i, at.1 i)) many.1)
