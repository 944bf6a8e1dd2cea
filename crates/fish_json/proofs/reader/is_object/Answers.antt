-- A value has members exactly where its data is an object.
use Rattle.std.proofs.Common.{◌∙◌}
use Rattle.fish_json.proofs.Elements.{object_found}
use Rattle.fish_json.proofs.reader.is_object.Goals as goal

pub returns : goal.returns
returns c = λ d h. c.is_some.ensures ∙ object_found c.args.value.now d c.members.result c.members.ensures h
