-- The elements are the items of an array.
use Rattle.std.proofs.Common.{◌≡◌, [], map, sym, ap, ◌∙◌, Option, Some}
use Rattle.std.specs.Option.{option_map_or}
use Rattle.std.proofs.lemmas.Result.{IfOk-weaker}
use Rattle.serde_json.specs.Data.{Data, Items}
use Rattle.serde_json.specs.Find.{as_array}
use Rattle.serde_json.specs.View.{view}
use Rattle.fish_value.specs.Seen.{field_seen}
use Rattle.fish_json.specs.Reading.{item_fields, items_of}
use Rattle.fish_json.proofs.Items.{items_as, items_seen}
use Rattle.fish_json.proofs.record.elements.Goals as goal

-- the elements, by whether the value is an array
is_array : (v : Data) (found : Option Items) → found ≡ as_array v → items_of (Some v) ≡ option_map_or item_fields found []
is_array v found is = items_as v ∙ ap (λ (o : Option Items). option_map_or item_fields o []) (sym is)

pub returns-in-Some : goal.returns-in-Some
returns-in-Some c =
    let is = is_array (view c.args.value.now) _ c.in-Some.ensures in
    IfOk-weaker c.fields.result _ _ (λ fields h. h ∙ ap (map _) c.as_slice.ensures.value ∙ sym (is ∙ items_seen _)) c.fields.ensures

pub returns-in-None : goal.returns-in-None
returns-in-None c = ap (map field_seen) c.new.ensures ∙ sym (is_array (view c.args.value.now) _ c.in-None.ensures)
