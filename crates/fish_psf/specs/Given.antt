-- What a definition gives for a record, as it is handed on: the values of an array's elements, or the one of any other definition.
use Rattle.std.specs.Prelude.{List, option_to_list}
use Rattle.fish_psf.specs.declared.value.Given.{Given}
use Rattle.fish_psf.specs.declared.value.Given.TheVariants as given
use Rattle.fish_value.specs.declared.value.Value.{Value}

-- its values
abbrev pub given_values : Given → List Value
given_values (given.Single value) = option_to_list value
given_values (given.Several values) = values
