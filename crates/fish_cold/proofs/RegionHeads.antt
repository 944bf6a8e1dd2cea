-- What the words at the front of a region say of it.
use Rattle.std.proofs.Common.{◌≡◌, ℕ, zero, suc, ◌+◌, ◌++◌, ◌∷◌, [], inl, inr, subst, ◌*◌, ◌/◌, ◌<◌, ◌≤◌, ◌^◌, List}
use Rattle.std.proofs.Common.{length, drop, get_or, sym, ap, ◌∙◌, arith, get_or-take, length-drop}
use Rattle.std.proofs.lemmas.List.{get_or-drop}
use Rattle.std.specs.Prelude.{Some, slice_get, slice_index}
use Rattle.std.proofs.lemmas.List.{length-take}
use Rattle.fish_image.specs.Log.{region, region_lines}
use Rattle.fish_layout.specs.Body.{body_lines}
use Rattle.fish_layout.specs.Header.{form_code, form_of, lines_of, void_word}
use Rattle.fish_layout.specs.declared.parts.BodyParts.{BodyParts}
use Rattle.fish_layout.proofs.Fields.{form_code_fits}
use Rattle.fish_layout.proofs.Headers.{form_of-void, lines_of-void}
use Rattle.fish_layout.proofs.Outlines.{body_length}
use Rattle.fish_layout.proofs.Sizes.{few_bytes, roomy, some_lines}
use Rattle.fish_layout.proofs.Entries.{proper_at}
use Rattle.fish_layout.proofs.KeyWords.{body_key}
use Rattle.fish_layout.specs.Cleared.{entry_at}
use Rattle.fish_layout.specs.Entry.{entry_number, entry_place, value_size}
use Rattle.fish_layout.specs.declared.parts.KeyPart.{KeyPart}
use Rattle.fish_layout.proofs.Spelled.{body_says}
use Rattle.std.proofs.lemmas.Bool.{cases_lt}
use Rattle.fish_cold.proofs.Appended.{at_end, stays}
use Rattle.fish_cold.specs.Answers.{HasNodeAt, IsRecordHead, IsVoidHead}
use Rattle.fish_cold.specs.Regions.{Leads}
use Rattle.fish_cold.specs.within.Regions.{IsRegionWhole}

-- a record's header says its lines, and they are within the words
pub record SaysRecord (p : BodyParts) (rest : List ℕ) : Type 0 where
  pub lines : region_lines rest ≡ body_lines p
  pub some : 1 ≤ region_lines rest
  pub whole : 4 * region_lines rest ≤ length rest
  pub form : form_of (slice_index rest 0) ≡ form_code p.form

pub says_record : (p : BodyParts) (rest : List ℕ) → IsRecordHead p rest → SaysRecord p rest
says_record p rest h =
    let n = 4 * region_lines rest in
    let size = body_length h in
    let some = some_lines p in
    let cut = length-take n rest in
    let first : slice_index (region rest) 0 ≡ slice_index rest 0 = get_or-take n rest 0 0 (omega arith) in
    let says = body_says h in
    let lines : region_lines rest ≡ body_lines p = ap lines_of (sym first) ∙ says.lines in
    record {
      lines = lines;
      some = omega arith;
      whole = omega arith;
      form = ap form_of (sym first) ∙ says.form;
    }

-- a void's header says its lines
pub says_void : (rest : List ℕ) (h : IsVoidHead rest) → region_lines rest ≡ h.0
says_void rest h = ap lines_of h.3 ∙ lines_of-void h.0 h.2

-- so its first word is the void's header of so many lines
pub void_first : (rest : List ℕ) (lines word : ℕ) → lines ≡ region_lines rest → word ≡ void_word lines → IsVoidHead rest
    → slice_index rest 0 ≡ word
void_first rest lines word is header h = h.3 ∙ ap void_word (sym (says_void rest h) ∙ sym is) ∙ sym header

-- a record's header is no void's
pub no_void_head : (p : BodyParts) (rest : List ℕ) (lines : ℕ) → IsRecordHead p rest → lines < 2 ^ 16
    → slice_index rest 0 ≡ void_word lines → ⊥
no_void_head p rest lines h small is =
    let form = (says_record p rest h).form in
    let code = form_code_fits p.form in
    let void : form_of (slice_index rest 0) ≡ 2 = ap form_of is ∙ form_of-void lines small in
    omega arith

-- a region that is led to begins within the words
pub leads_within : (words : List ℕ) (first k line : ℕ) → Leads words first k line → line < length words / 4
leads_within words first zero line h = h.1
leads_within words first (suc k) line h = h.4

-- a key entry is within the words, in a whole region
pub record HasRoom (words : List ℕ) (i line : ℕ) : Type 0 where
  pub within : i + 2 < length words
  pub some : 0 < length (drop (4 * line) words)
  pub whole : IsRegionWhole (drop (4 * line) words)

pub node_room : (words : List ℕ) (i line : ℕ) (p : BodyParts) (j : ℕ) (k : KeyPart) → HasNodeAt words i line p j k → HasRoom words i line
node_room words i line p j k h =
    let rest = drop (4 * line) words in
    let says = says_record p rest h.body in
    let lines = says.lines in
    let whole = says.whole in
    let room = roomy p in
    let size = length-drop (4 * line) words in
    let within = h.within in
    let at = h.at in
    record { within = omega arith; some = omega arith; whole = whole }

-- a word of a region, from all words
pub region_word : (words : List ℕ) (line n : ℕ) → n < 4 * region_lines (drop (4 * line) words)
    → get_or (region (drop (4 * line) words)) n 0 ≡ get_or words (4 * line + n) 0
region_word words line n within =
    get_or-take (4 * region_lines (drop (4 * line) words)) (drop (4 * line) words) n 0 within ∙ get_or-drop (4 * line) words n 0

-- the second and the third word of a key entry, from all words
pub record SaysNode (words : List ℕ) (i : ℕ) (p : BodyParts) (j : ℕ) (k : KeyPart) : Type 0 where
  pub number : entry_number (get_or words (i + 1) 0) ≡ p.number
  pub place : entry_place (get_or words (i + 1) 0) ≡ j
  pub size : value_size (get_or words (i + 2) 0) ≤ 256

pub node_says : (words : List ℕ) (i line : ℕ) (p : BodyParts) (j : ℕ) (k : KeyPart) → HasNodeAt words i line p j k → SaysNode words i p j k
node_says words i line p j k h =
    let rest = drop (4 * line) words in
    let record_says = says_record p rest h.body in
    let lines = record_says.lines in
    let room = roomy p in
    let within = h.within in
    let at = h.at in
    let says = body_key j k h.body h.within h.is in
    let second : get_or (region rest) (entry_at j + 1) 0 ≡ get_or words (i + 1) 0 =
    region_word words line (entry_at j + 1) (omega arith) ∙ ap (λ n. get_or words n 0) (omega arith) in
    let third : get_or (region rest) (entry_at j + 2) 0 ≡ get_or words (i + 2) 0 =
    region_word words line (entry_at j + 2) (omega arith) ∙ ap (λ n. get_or words n 0) (omega arith) in
    let few = few_bytes k.value (proper_at 0 p.keys j k h.body.proper.keys h.within h.is).1 in
    let size = says.size in
    let same = ap value_size third in
    record {
      number = ap entry_number (sym second) ∙ says.number;
      place = ap entry_place (sym second) ∙ says.position;
      size = omega arith;
    }

-- where more regions are led over, the one before has lines
pub record LeadsOn (words : List ℕ) (first n : ℕ) : Type 0 where
  pub line : ℕ
  pub leads : Leads words first n line
  pub some : 0 < lines_of (slice_index words (4 * line))

pub leads_before : (words : List ℕ) (first n k line : ℕ) → n < k → Leads words first k line → LeadsOn words first n
leads_before words first n zero line less h = absurd (omega arith)
leads_before words first n (suc k) line less h =
    elim (cases_lt n k) [
      | inl before ↦ leads_before words first n k h.0 before h.1
      | inr last ↦ (let same : k ≡ n = omega arith in
          record { line = h.0; leads = subst (λ j. Leads words first j h.0) same h.1; some = h.2 })
    ]

-- the regions with one more
module _ (words : List ℕ) (first here : ℕ) (regions : List ℕ)
    (found : (k line : ℕ) → k < length regions → Leads words first k line → slice_get regions k ≡ Some line)
    (is_here : (line : ℕ) → Leads words first (length regions) line → line ≡ here) where
  pub found_more : (k line : ℕ) → k < length regions + 1 → Leads words first k line → slice_get (regions ++ here ∷ []) k ≡ Some line
  found_more k line less h =
      elim (cases_lt k (length regions)) [
        | inl before ↦ stays regions here k line (found k line before h)
        | inr last ↦ (
            let same : k ≡ length regions = omega arith in
            let is = is_here line (subst (λ j. Leads words first j line) same h) in
            ap (slice_get (regions ++ here ∷ [])) same ∙ at_end regions here ∙ ap Some (sym is))
      ]

  -- they are all where the last has no lines
  pub found_all : lines_of (slice_index words (4 * here)) ≡ 0 → (k line : ℕ) → Leads words first k line
      → slice_get (regions ++ here ∷ []) k ≡ Some line
  found_all none k line h =
      elim (cases_lt k (length regions + 1)) [
        | inl less ↦ found_more k line less h
        | inr more ↦ (
            let on = leads_before words first (length regions) k line (omega arith) h in
            let is = is_here on.line on.leads in
            let some = on.some in
            let lines = ap (λ l. lines_of (slice_index words (4 * l))) is in
            absurd (omega arith))
      ]

  -- and without it where it lies past the words
  pub found_before : length words / 4 ≤ here → (k line : ℕ) → Leads words first k line → slice_get regions k ≡ Some line
  found_before behind k line h =
      elim (cases_lt k (length regions)) [
        | inl less ↦ found k line less h
        | inr more ↦ elim (cases_lt (length regions) k) [
          | inl on_more ↦ (
              let on = leads_before words first (length regions) k line on_more h in
              let is = is_here on.line on.leads in
              let within = leads_within words first (length regions) on.line on.leads in
              absurd (omega arith))
          | inr last ↦ (
              let same : k ≡ length regions = omega arith in
              let leads = subst (λ j. Leads words first j line) same h in
              let is = is_here line leads in
              let within = leads_within words first (length regions) line leads in
              absurd (omega arith))
        ]
      ]

  -- one region more leads past its lines
  pub here_more : (line : ℕ) → Leads words first (length regions + 1) line → line ≡ here + lines_of (slice_index words (4 * here))
  here_more line h =
      let one : length regions + 1 ≡ suc (length regions) = omega arith in
      let on = subst (λ j. Leads words first j line) one h in
      let is = is_here on.0 on.1 in
      on.3 ∙ ap (λ l. l + lines_of (slice_index words (4 * l))) is
