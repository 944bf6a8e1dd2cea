-- The values that a record has under the active definitions.
use Rattle.std.specs.Prelude.{ℕ, List, map}
use Rattle.std.specs.List.{flat_map}
use Rattle.fish_value.specs.declared.value.Value.{Value}
use Rattle.fish_lang.specs.Definition.{definition_of}
use Rattle.fish_psf.specs.Eval.{Fields, values}
use Rattle.fish_psf.specs.declared.key.ActiveDef.{ActiveDef}
use Rattle.fish_psf.specs.declared.key.KeyValue.{KeyValue}

-- a value under an id
abbrev pub value_under : ℕ → Value → KeyValue
value_under id v = record { id = id; value = v }

-- the values of one definition, each under its id
abbrev pub keys_under : Fields → ActiveDef → List KeyValue
keys_under fields active = map (value_under active.id) (values (definition_of active.def) fields)

-- one entry for each value of each definition, in the order of the definitions
unfoldable pub keys_for : Fields → List ActiveDef → List KeyValue
keys_for fields defs = flat_map (keys_under fields) defs
