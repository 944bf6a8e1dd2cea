-- What a lane of a sample stores is its share.
use Rattle.std.proofs.Common.{◌≡◌, ℕ, ◌+◌, ◌^◌, ◌<◌, suc, List, [], ◌∷◌, ◌++◌, length, map, take, refl, sym, ap, ◌∙◌}
use Rattle.std.proofs.Common.{inl, inr, arith}
use Rattle.std.proofs.Common.{true, false, Option, All, append-nil}
use Rattle.std.proofs.lemmas.Bool.{false≢true}
use Rattle.std.proofs.lemmas.List.{take_all}
use Rattle.std.proofs.lemmas.List.Elements.{All-filter}
use Rattle.std.proofs.lemmas.List.FromFn.{get_or-range_with_len, length-range_with_len}
use Rattle.std.specs.Prelude.{◌==◌, ◌%◌}
use Rattle.std.specs.List.{list_all, range_with_len}
use Rattle.fish_gen.specs.Sample.{sample_text}
use Rattle.fish_json.specs.Lines.{payload_of_line}
use Rattle.fish_lanes.proofs.RowLists.{contents_append}
use Rattle.fish_lanes.specs.Records.{LaneRow, contents_of_rows}
use Rattle.fish_lanes.specs.Seen.{Shown}
use Rattle.fish_lanes.specs.Spans.{Span}
use Rattle.fish_lanes.specs.Telling.{SaysItem, SaysItems, all_of, count_of as count_of_item}
use Rattle.fish_value.specs.Outcomes.{accepted, refused}
use Rattle.fish_lines.specs.Resuming.{outcomes_from}
use Rattle.fish_lines.specs.declared.resuming.Begin.TheVariants.{Start}
use Rattle.fish_report.specs.declared.item.Item.{Item}
use Rattle.fish_sample.proofs.Lines.{accepted_all, outcomes_are}
use Rattle.fish_sample.proofs.Telling.{and_both, same_number}
use Rattle.fish_sample.specs.within.Files.{sample_lines}
use Rattle.fish_sample.specs.within.Items.{is_stored}
use Rattle.fish_sample.specs.Sample.{share}
use Rattle.fish_sample.specs.within.Works.{ingest_work}
use Rattle.fish_value.specs.declared.field.Form.{Form}
use Rattle.fish_value.specs.declared.field.Form.TheVariants.{Json}
use Rattle.fish_whole.specs.Whole.{Whole}

all_length : (form : Form) (xs : List (List ℕ)) → length (all_of form xs) ≡ length xs
all_length form [] = refl
all_length form (x ∷ xs) = ap suc (all_length form xs)

-- the numbers of a share fit a word
share_fits : (number lane : ℕ) → number < 2 ^ 32 → All (λ i. i < 2 ^ 32) (share number lane)
share_fits number lane few = All-filter (λ i. (i % 4) + 1 == lane) (λ i. i < 2 ^ 32) (range_with_len 0 number)
    (λ i d less.
    let within : i < number = (let many = length-range_with_len 0 number in omega arith) in
    let is = get_or-range_with_len 0 number i d within in
    omega arith)

module _ (number lane : ℕ) (few : number < 2 ^ 32) where
  abbrev outs : List (Option (List ℕ))
  outs = outcomes_from Json (Start false) (sample_lines (share number lane))

  abbrev texts : List (List ℕ)
  texts = map sample_text (share number lane)

  outs_are : outs ≡ map payload_of_line texts
  outs_are = outcomes_are (share number lane) (share_fits number lane few)

  -- where no line is refused, the payloads are the records
  accepted_are : refused outs ≡ 0 → accepted outs ≡ texts
  accepted_are none = ap accepted outs_are ∙ accepted_all texts (sym (ap refused outs_are) ∙ none)

  -- the rows of a lane whose item says that all of its share is stored
  pub share_rows : (w : Whole) (s : Span) (before : List LaneRow) (shown : List Shown) (name : List ℕ) (rows : List LaneRow)
      (items : List Item) → SaysItems w s before shown rows (ingest_work name (sample_lines (share number lane)) ∷ []) items
      → length items ≡ 1 → list_all is_stored items ≡ true → contents_of_rows rows ≡ all_of Json texts
  share_rows w s before shown name rows [] h many all = absurd (let e = many in omega arith)
  share_rows w s before shown name rows (x ∷ y ∷ items) h many all = absurd (let e = many in omega arith)
  share_rows w s before shown name rows (x ∷ []) h many all =
      ap contents_of_rows h.2 ∙ contents_append h.0 h.1 ∙ ap (λ (z : List LaneRow). contents_of_rows h.0 ++ contents_of_rows z) h.6
      ∙ append-nil (contents_of_rows h.0)
      ∙ h.3 ∙ by h.4
    where
      stored : is_stored x ≡ true
      stored = (and_both (is_stored x) true all).0

      by : SaysItem w s before shown (ingest_work name (sample_lines (share number lane))) x
          → take (count_of_item x) (all_of Json (accepted outs)) ≡ all_of Json texts
      by (inl t) =
          let none : refused outs ≡ 0 = sym t.counted.refused_is ∙ same_number t.many 0 (sym (ap is_stored t.is) ∙ stored) in
          let count : count_of_item x ≡ length (all_of Json (accepted outs))
          = ap count_of_item t.is ∙ t.counted.stored_is ∙ sym (all_length Json (accepted outs)) in
          take_all (count_of_item x) (all_of Json (accepted outs)) (omega (count, arith)) ∙ ap (all_of Json) (accepted_are none)
      by (inr (inl t)) = absurd (false≢true (sym (ap is_stored t.is) ∙ stored))
      by (inr (inr t)) = absurd (false≢true (sym (ap is_stored t.is) ∙ stored))
