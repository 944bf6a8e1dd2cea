-- What a checker keeps of a commit. What private clauses need of it.
use Rattle.std.specs.Prelude.{ℕ, ◌≡◌, ◌<◌, ◌≤◌, List, Some, length, slice_get}
use Rattle.fish_image.specs.Log.{AreSomeOf, values_under}
use Rattle.fish_image.specs.declared.terms.IndexRow.{IndexRow}
use Rattle.fish_lang.specs.Definition.{definition_of}
use Rattle.fish_layout.specs.declared.parts.KeyPart.{KeyPart}
use Rattle.fish_psf.specs.Eval.{Fields, values}
use Rattle.fish_value.specs.declared.value.Value.{Value}

-- the index covers a record
pub record IndexCovers (x : IndexRow) (number : ℕ) : Type 0 where
  pub from : ℕ
  pub begins : x.from ≡ Some from
  pub behind : from ≤ number
  pub ahead : (to : ℕ) → x.to ≡ Some to → number < to

-- the values are some of those that the definition gives for these fields, and all where its index covers the record
pub record HasIndexValues (x : IndexRow) (number : ℕ) (fields : Fields) (vs : List Value) : Type 0 where
  pub some : AreSomeOf vs (values (definition_of x.def) fields)
  pub all : IndexCovers x number → vs ≡ values (definition_of x.def) fields

-- each key entry is of a definition, and the entries of each have such values
pub record HasKeysFor (xs : List IndexRow) (number : ℕ) (fields : Fields) (keys : List KeyPart) : Type 0 where
  pub known : (j : ℕ) (k : KeyPart) → slice_get keys j ≡ Some k → k.id < length xs
  pub values : (id : ℕ) (x : IndexRow) → slice_get xs id ≡ Some x
      → HasIndexValues x number fields (values_under id keys)
