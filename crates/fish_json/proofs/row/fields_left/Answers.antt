-- One more element comes after the others.
use Rattle.std.proofs.Common.{List, map, sym, ap, ◌∙◌, ◌++◌, ◌∷◌, [], append_assoc, append-nil}
use Rattle.std.proofs.lemmas.List.{map-append}
use Rattle.fish_value.specs.Seen.{field_seen}
use Rattle.fish_value.specs.declared.field.Field.{Field}
use Rattle.fish_value.specs.declared.field.FieldView.{FieldView}
use Rattle.fish_json.specs.Reading.{item_fields}
use Rattle.fish_json.proofs.Items.{items_next, items_over}
use Rattle.fish_json.proofs.row.fields_left.Goals as goal

pub loop-value-init : goal.loop-value-init
loop-value-init c = λ ds h.
    (ds, h, ap (λ (fs : List FieldView). map field_seen fs ++ item_fields ds) (sym c.new-fields.ensures))

pub loop-value-preserved : goal.loop-value-preserved
loop-value-preserved c = λ ds h.
    let fields = c.loop-value.fields in
    let on = c.loop-value.invariant ds h in
    let x = items_next c.loop-value.rest c.in-Some.value c.next.new.self on.0 c.in-Some.ensures.value on.1 in
    let left = item_fields x.1 in (
      x.1,
      x.3,
      on.2 ∙ ap (λ (l : List Field). map field_seen fields ++ l)
          (x.4 ∙ ap (λ (f : Field). f ∷ left) (sym (c.field.ensures x.0 x.2)))
          ∙ sym (append_assoc (map field_seen fields) (field_seen c.field.result ∷ []) left)
          ∙ ap (λ (l : List Field). l ++ left) (sym (map-append field_seen fields (c.field.result ∷ []))
          ∙ ap (map field_seen) (sym c.in_ok-push.ensures.ok)),
    )

pub returns : goal.returns
returns c = λ ds h.
    let on = c.loop-value.invariant ds h in
    let none = items_over c.loop-value.rest c.next.new.self on.0 c.in_default.ensures.value on.1 in
    sym (on.2 ∙ ap (λ (l : List Field). map field_seen c.loop-value.fields ++ l) none ∙ append-nil _)
