-- The path names a column or none, and the row has it or not.
use Rattle.std.proofs.Common.{◌∙◌}
use Rattle.fish_csv.proofs.Columns.{no-column, no-csv_field, the-csv_field}
use Rattle.fish_csv.proofs.Texts.{field-text}
use Rattle.fish_csv.proofs.column.field_at.Goals as goal

pub returns-in_default : goal.returns-in_default
returns-in_default c = no-column c.args.path.now _ c.in_default.ensures

pub returns-in_default-get : goal.returns-in_default-get
returns-in_default-get c = no-csv_field c.args.path.now _ c.in-Some.position c.in-Some.ensures c.in_default-get.ensures.value

pub to_field-requires : goal.to_field-requires
to_field-requires c = field-text _ c.in-Some.position _ c.requires c.in-Some-get.ensures.value

pub returns : goal.returns
returns c = c.to_field.ensures ∙ the-csv_field c.args.path.now _ c.in-Some.position _ c.in-Some.ensures c.in-Some-get.ensures.value
