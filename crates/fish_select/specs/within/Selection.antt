-- What `select` answers for a file, from the whole list of its bytes.
use Rattle.std.specs.Prelude.{ℕ, List, Bool}
use Rattle.fish_lang.specs.Definition.{Definition}
use Rattle.fish_psf.specs.Records.{evaluation}
use Rattle.fish_psf.specs.Select.{has_value}
use Rattle.fish_value.specs.declared.field.Form.{Form}
use Rattle.fish_value.specs.declared.value.Value.{Value}

-- the definition has the value on a payload of a form
abbrev pub is_selected : Definition → Value → Form → List ℕ → Bool
is_selected def v form payload = has_value (evaluation def form payload) v
