-- How a record is divided: what its header and its last key entry say.
use Rattle.std.specs.Prelude.{ℕ, ◌≡◌, ◌+◌, ◌<◌, ◌≤◌, ◌^◌, List, length}
use Rattle.fish_layout.specs.Body.{values_of}
use Rattle.fish_layout.specs.Bytes.{words_for}
use Rattle.fish_layout.specs.Cleared.{entry_at}
use Rattle.fish_layout.specs.declared.outline.Outline.{Outline}
use Rattle.fish_layout.specs.declared.parts.BodyParts.{BodyParts}

-- the outline is that of these parts
pub record IsOutline (p : BodyParts) (o : Outline) : Type 0 where
  pub form : o.form ≡ p.form
  pub lane : o.lane ≡ p.lane
  pub version : o.version ≡ p.version
  pub keys : o.keys ≡ length p.keys
  pub values : o.values ≡ length (values_of p.keys)
  pub payload : o.payload ≡ length p.payload

-- the words have room for what the outline says
pub record HasRoom (o : Outline) (words : List ℕ) : Type 0 where
  pub keys : o.keys < 2 ^ 9
  pub values : o.values < 2 ^ 19
  pub payload : o.payload < 2 ^ 20
  pub all : entry_at o.keys + words_for o.values + words_for o.payload ≤ length words
