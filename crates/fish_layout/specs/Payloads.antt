-- What a record says of itself beside its key entries.
use Rattle.std.specs.Prelude.{◌≡◌}
use Rattle.fish_layout.specs.declared.parts.BodyParts.{BodyParts}
use Rattle.fish_layout.specs.declared.read.Payload.{Payload}

-- the lane, the form and the payload are those of the record
pub record IsPayloadOf (p : BodyParts) (r : Payload) : Type 0 where
  pub lane : r.lane ≡ p.lane
  pub form : r.form ≡ p.form
  pub payload : r.payload ≡ p.payload
