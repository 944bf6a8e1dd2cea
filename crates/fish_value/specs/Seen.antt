-- Fields that are looked at where they stand.
use Rattle.fish_value.specs.declared.field.Field.{Field}
use Rattle.fish_value.specs.declared.field.Field.TheVariants as field
use Rattle.fish_value.specs.declared.field.FieldView.{FieldView}
use Rattle.fish_value.specs.declared.field.FieldView.TheVariants as seen

-- the field that is seen: its text is the text that is borrowed
abbrev pub field_seen : FieldView → Field
field_seen seen.Missing = field.Missing
field_seen seen.Null = field.Null
field_seen (seen.Bool b) = field.Bool b
field_seen (seen.Int n) = field.Int n
field_seen (seen.Text s) = field.Text s.now
field_seen seen.Other = field.Other
