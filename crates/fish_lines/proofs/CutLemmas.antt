-- The lines of a file that is cut after one of them.
use Rattle.std.proofs.Common.{◌≡◌, ℕ, List, [], ◌∷◌, ◌++◌, Bool, true, false, append_assoc, append-nil, refl, sym, ap, ◌∙◌}
use Rattle.std.specs.Prelude.{map, filter, not}
use Rattle.std.specs.List.{slice_split, onto_first}
use Rattle.std.specs.Str.Lines.{strip_carriage_return}
use Rattle.std.proofs.lemmas.List.{map-append}
use Rattle.std.proofs.lemmas.List.Elements.{filter-append}
use Rattle.fish_json.specs.Lines.{is_blank_line, is_line_end, lines_of_parts, line_outcomes, line_outcomes_of, payload_of_line}
use Rattle.fish_json.specs.Lines.{without_mark}
use Rattle.fish_lines.proofs.MarkLemmas.{decided_stays, undecided_cases}
use Rattle.fish_lines.proofs.PartLemmas.{Parts, parts_at, parts_of_bytes}
use Rattle.fish_lines.specs.File as file
use Rattle.fish_lines.specs.Resuming.{outcomes_from}
use Rattle.fish_lines.specs.Split.{is_undecided}
use Rattle.fish_lines.specs.declared.resuming.Begin.{Begin}
use Rattle.fish_lines.specs.declared.resuming.Begin.TheVariants.{Start, After}
use Rattle.fish_value.specs.declared.field.Form.TheVariants.{Json}

-- ---- parts round LFs

onto_both : (c : ℕ) (xs ys : List (List ℕ)) → Parts xs → onto_first c (xs ++ ys) ≡ onto_first c xs ++ ys
onto_both c xs ys p = rw p.are refl

split_next : (c : ℕ) (front after : List ℕ) (end : Bool) → is_line_end c ≡ end
    → slice_split is_line_end (front ++ 10 ∷ after) ≡ slice_split is_line_end front ++ slice_split is_line_end after
    → slice_split is_line_end (c ∷ front ++ 10 ∷ after) ≡ slice_split is_line_end (c ∷ front) ++ slice_split is_line_end after
split_next c front after true h same =
    parts_at c (front ++ 10 ∷ after) true h ∙ ap (λ (parts : List (List ℕ)). [] ∷ parts) same
    ∙ ap (λ (parts : List (List ℕ)). parts ++ slice_split is_line_end after) (sym (parts_at c front true h))
split_next c front after false h same =
    parts_at c (front ++ 10 ∷ after) false h ∙ ap (onto_first c) same
    ∙ onto_both c (slice_split is_line_end front) (slice_split is_line_end after) (parts_of_bytes front)
    ∙ ap (λ (parts : List (List ℕ)). parts ++ slice_split is_line_end after) (sym (parts_at c front false h))

-- an LF ends a part, and the next begins after it
split_at : (front after : List ℕ)
    → slice_split is_line_end (front ++ 10 ∷ after) ≡ slice_split is_line_end front ++ slice_split is_line_end after
split_at [] after = refl
split_at (c ∷ front) after = split_next c front after (is_line_end c) refl (split_at front after)

-- ---- lines

lines_append : (xs ys : List (List ℕ)) → lines_of_parts (xs ++ ys) ≡ lines_of_parts xs ++ lines_of_parts ys
lines_append xs ys =
    ap (filter (λ line. not (is_blank_line line))) (map-append strip_carriage_return xs ys)
    ∙ filter-append (λ line. not (is_blank_line line)) (map strip_carriage_return xs) (map strip_carriage_return ys)

lines_cut : (front after : List ℕ)
    → lines_of_parts (slice_split is_line_end (front ++ 10 ∷ after))
    ≡ lines_of_parts (slice_split is_line_end (front ++ 10 ∷ [])) ++ lines_of_parts (slice_split is_line_end after)
lines_cut front after =
    let parts = slice_split is_line_end front in
    ap lines_of_parts (split_at front after) ∙ lines_append parts (slice_split is_line_end after)
    ∙ ap (λ (lines : List (List ℕ)). lines ++ lines_of_parts (slice_split is_line_end after))
    (sym (ap lines_of_parts (split_at front []) ∙ lines_append parts ([] ∷ []) ∙ append-nil (lines_of_parts parts)))

outcomes_of_cut : (front after : List ℕ)
    → line_outcomes_of (slice_split is_line_end (front ++ 10 ∷ after))
    ≡ line_outcomes_of (slice_split is_line_end (front ++ 10 ∷ [])) ++ line_outcomes_of (slice_split is_line_end after)
unfolding line_outcomes_of
outcomes_of_cut front after = ap (map payload_of_line) (lines_cut front after)
    ∙ map-append payload_of_line (lines_of_parts (slice_split is_line_end (front ++ 10 ∷ [])))
    (lines_of_parts (slice_split is_line_end after))

-- ---- the mark at a file's start

-- bytes without the mark end as they did
record Marked (front : List ℕ) : Type 0 where
  rest : List ℕ
  are : (after : List ℕ) → without_mark (front ++ 10 ∷ after) ≡ rest ++ 10 ∷ after

marked_at : (front : List ℕ) (undecided : Bool) → is_undecided front ≡ undecided → Marked front
marked_at front true h = undecided_cases Marked
    (record { rest = []; are = λ after. refl })
    (record { rest = 239 ∷ []; are = λ after. refl })
    (record { rest = 239 ∷ 187 ∷ []; are = λ after. refl })
    front h
marked_at front false h = record { rest = without_mark front; are = λ after. decided_stays front h (10 ∷ after) }

outcomes_cut : (front after : List ℕ)
    → line_outcomes (front ++ 10 ∷ after) ≡ line_outcomes (front ++ 10 ∷ []) ++ line_outcomes_of (slice_split is_line_end after)
unfolding line_outcomes
outcomes_cut front after =
    let m = marked_at front (is_undecided front) refl in
    ap (λ (b : List ℕ). line_outcomes_of (slice_split is_line_end b)) (m.are after)
    ∙ outcomes_of_cut m.rest after
    ∙ ap (λ (b : List ℕ). line_outcomes_of (slice_split is_line_end b) ++ line_outcomes_of (slice_split is_line_end after)) (sym (m.are []))

-- where a file in JSON is cut after an LF, its lines are those before the cut and then those after it
pub cut_after_line : (begin : Begin) (front after : List ℕ)
    → outcomes_from Json begin ((front ++ 10 ∷ []) ++ after)
    ≡ outcomes_from Json begin (front ++ 10 ∷ []) ++ outcomes_from Json After after
unfolding outcomes_from file.outcomes
cut_after_line (Start header) front after =
    ap line_outcomes (append_assoc front (10 ∷ []) after) ∙ outcomes_cut front after
cut_after_line After front after =
    ap (λ (b : List ℕ). line_outcomes_of (slice_split is_line_end b)) (append_assoc front (10 ∷ []) after) ∙ outcomes_of_cut front after
