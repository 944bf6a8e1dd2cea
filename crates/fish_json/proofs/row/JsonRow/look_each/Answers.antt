-- What was found has the elements, and where nothing was found there are none.
use Rattle.std.proofs.Common.{map, sym, ap, ◌∙◌}
use Rattle.std.proofs.lemmas.Result.{IfOk-weaker}
use Rattle.fish_value.specs.Seen.{field_seen}
use Rattle.fish_json.specs.Reading.{items_in, items_of}
use Rattle.fish_json.proofs.row.JsonRow.look_each.Goals as goal

pub returns-in-Some : goal.returns-in-Some
unfolding items_in
returns-in-Some c =
    let x = c.in-Some.ensures in
    IfOk-weaker c.elements.result _ _ (λ fields h. h x.0 x.2 ∙ sym (ap items_of x.1)) c.elements.ensures

pub returns-in-None : goal.returns-in-None
unfolding items_in
returns-in-None c = ap (map field_seen) c.new.ensures ∙ sym (ap items_of c.in-None.ensures)
