-- The elements are the items of an array.
use Rattle.std.proofs.Common.{map, sym, ap, ◌∙◌}
use Rattle.std.proofs.lemmas.Result.{IfOk-weaker}
use Rattle.fish_value.specs.Seen.{field_seen}
use Rattle.fish_json.proofs.Items.{array_items, other_items}
use Rattle.fish_json.proofs.row.elements.Goals as goal

pub returns-in-Some : goal.returns-in-Some
returns-in-Some c = IfOk-weaker c.fields_left.result _ _ (λ fields h d stands.
    let x = array_items c.args.value.now c.in-Some.items d (λ j b. c.in-Some.ensures j b) stands in
    h x.0 x.1 ∙ sym x.2) c.fields_left.ensures

pub returns-in-None : goal.returns-in-None
returns-in-None c = λ d stands.
    ap (map field_seen) c.new.ensures ∙ sym (other_items c.args.value.now d (λ j b. c.in-None.ensures j b) stands)
