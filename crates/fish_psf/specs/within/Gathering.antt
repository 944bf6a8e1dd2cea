-- How the values of an array's elements come together, one field at a time.
use Rattle.std.specs.Prelude.{List, [], ◌∷◌, ◌++◌, if◌then◌else◌}
use Rattle.std.specs.List.{list_any}
use Rattle.std.specs.Option.{option_map_or}
use Rattle.fish_value.specs.Same.{same_value}
use Rattle.fish_value.specs.declared.field.Field.{Field}
use Rattle.fish_value.specs.declared.value.Value.{Value}
use Rattle.fish_psf.specs.Eval.{value_of}

-- values with one more, unless it is among them
abbrev pub with_value : List Value → Value → List Value
with_value vs v = if list_any (same_value v) vs then vs else vs ++ v ∷ []

-- values with a field's, where it is one
abbrev pub with_field : List Value → Field → List Value
with_field vs f = option_map_or (with_value vs) (value_of f) vs
