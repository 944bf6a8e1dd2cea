-- The values among fields, as they come together one field at a time.
use Rattle.std.proofs.Common.{◌≡◌, ℕ, ◌+◌, ◌<◌, ◌≤◌, List, [], ◌∷◌, ◌++◌, Bool, true, false, sym, ap, ◌∙◌, arith}
use Rattle.std.proofs.Common.{length, map, take, drop, get_or}
use Rattle.std.specs.Prelude.{Option, Some, None, if◌then◌else◌}
use Rattle.std.specs.List.{cons_option, filter_map}
use Rattle.std.specs.Option.{option_map_or}
use Rattle.std.proofs.lemmas.List.{append-nil, length-append, map-append, take-append-drop, take-append-le, take_all, take_more}
use Rattle.std.proofs.lemmas.List.Elements.{filter_map-append}
use Rattle.fish_value.specs.Seen.{field_seen}
use Rattle.fish_value.specs.declared.field.Field.{Field}
use Rattle.fish_value.specs.declared.field.FieldView.{FieldView}
use Rattle.fish_value.specs.declared.value.Value.{Value}
use Rattle.fish_psf.specs.Eval.{distinct, first_values, most_values, value_of}
use Rattle.fish_psf.specs.within.Gathering.{with_field, with_value}
use Rattle.fish_psf.proofs.Distinct.{distinct-append, distinct-more}

-- the values of fields that are seen, each once
abbrev pub gathered : List FieldView → List Value
gathered views = distinct (filter_map value_of (map field_seen views))

-- values with that of one more field, or without
one_more : (vs : List Value) (o : Option Value)
    → distinct (vs ++ cons_option o []) ≡ option_map_or (with_value (distinct vs)) o (distinct vs)
one_more vs None = ap distinct (append-nil vs)
one_more vs (Some v) = distinct-more vs v

-- with one field more
gathered_more : (views : List FieldView) (i : ℕ) (view : FieldView) → i < length views
    → gathered (take (i + 1) views) ≡ with_field (gathered (take i views)) (field_seen (get_or views i view))
gathered_more views i view within =
    let before = map field_seen (take i views) in
    let next = get_or views i view in
    ap (λ (l : List FieldView). gathered l) (take_more views i view within)
    ∙ ap (λ (l : List Field). distinct (filter_map value_of l)) (map-append field_seen (take i views) (next ∷ []))
    ∙ ap distinct (filter_map-append value_of before (field_seen next ∷ []))
    ∙ one_more (filter_map value_of before) (value_of (field_seen next))

-- one field more is at most one value more
value_longer : (vs : List Value) (v : Value) (b : Bool) → length (if b then vs else vs ++ v ∷ []) ≤ length vs + 1
value_longer vs v true = omega arith
value_longer vs v false = omega (arith, length-append vs (v ∷ []))

longer_by : (vs : List Value) (o : Option Value) → length (option_map_or (with_value vs) o vs) ≤ length vs + 1
longer_by vs None = omega arith
longer_by vs (Some v) = value_longer vs v _

field_longer : (vs : List Value) (f : Field) → length (with_field vs f) ≤ length vs + 1
field_longer vs f = longer_by vs (value_of f)

-- one field more, where fewer than eight came together
pub gathered_step : (views : List FieldView) (i : ℕ) (view : FieldView) (vs new : List Value) → i < length views
    → vs ≡ gathered (take i views) → length vs < most_values → new ≡ with_field vs (field_seen (get_or views i view))
    → (new ≡ gathered (take (i + 1) views)) × (length new ≤ most_values)
gathered_step views i view vs new within so_far room is =
    let next = field_seen (get_or views i view) in (
      is ∙ ap (λ (l : List Value). with_field l next) so_far ∙ sym (gathered_more views i view within),
      omega (arith, ap length is, field_longer vs next, room),
    )

-- where eight came together, no other field changes them
pub gathered_full : (views : List FieldView) (i : ℕ) → length (gathered (take i views)) ≡ most_values
    → gathered (take i views) ≡ first_values (map field_seen views)
unfolding first_values
gathered_full views i full =
    let before = map field_seen (take i views) in
    let after = map field_seen (drop i views) in
    let more = distinct-append (filter_map value_of before) (filter_map value_of after) in
    let all = ap (λ (l : List FieldView). gathered l) (sym (take-append-drop i views))
    ∙ ap (λ (l : List Field). distinct (filter_map value_of l)) (map-append field_seen (take i views) (drop i views))
    ∙ ap distinct (filter_map-append value_of before after)
    ∙ more.1 in
    sym (ap (take most_values) all ∙ take-append-le most_values _ more.0 (omega (arith, full))
    ∙ take_all most_values _ (omega (arith, full)))
