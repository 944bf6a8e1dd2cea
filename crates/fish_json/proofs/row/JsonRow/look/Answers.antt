-- What was found is the field, and where nothing was found the field is missing.
use Rattle.std.proofs.Common.{ap, sym}
use Rattle.fish_json.specs.Reading.{json_field_in, json_field_of}
use Rattle.fish_json.proofs.Found.{field_found}
use Rattle.fish_json.proofs.row.JsonRow.look.Goals as goal

pub returns-in-Some : goal.returns-in-Some
returns-in-Some c = let x = c.in-Some.ensures in field_found _ _ x.0 _ x.1 (c.field.ensures x.0 x.2)

pub returns-in-None : goal.returns-in-None
unfolding json_field_in
returns-in-None c = sym (ap json_field_of c.in-None.ensures)
