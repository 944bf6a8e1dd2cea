-- Where the path leads to nothing there are no elements.
use Rattle.std.proofs.Common.{map, ap, ◌∙◌}
use Rattle.std.proofs.lemmas.Result.{IfOk-weaker}
use Rattle.fish_value.specs.Seen.{field_seen}
use Rattle.fish_json.specs.Contents.{contents}
use Rattle.fish_json.specs.Reading.{items_in, items_of}
use Rattle.fish_json.proofs.record.JsonRecord.look_each.Goals as goal

pub returns-in-Some : goal.returns-in-Some
unfolding items_in contents
returns-in-Some c = IfOk-weaker c.elements.result _ _ (λ fields h. h ∙ ap items_of c.in-Some.ensures) c.elements.ensures

pub returns-in-None : goal.returns-in-None
unfolding items_in contents
returns-in-None c = ap (map field_seen) c.new.ensures ∙ ap items_of c.in-None.ensures
