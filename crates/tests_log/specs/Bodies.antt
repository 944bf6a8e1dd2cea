-- The words of a record without keys that is in flight.
use Rattle.std.specs.Prelude.{ℕ, ◌≡◌, List, []}
use Rattle.fish_claim.specs.Fills.{CanFill}
use Rattle.fish_layout.specs.Body.{IsBody}
use Rattle.fish_layout.specs.declared.parts.BodyParts.{BodyParts}
use Rattle.fish_rule.specs.declared.view.Flight.{Flight}
use Rattle.fish_rule.specs.declared.view.View.{View}

-- the words may be stored for the record in flight, and are those of parts without keys
pub record IsPlainBody (v : View) (words : List ℕ) : Type 0 where
  pub flight : Flight
  pub can : CanFill v flight words
  pub parts : BodyParts
  pub is : IsBody parts words
  pub plain : parts.keys ≡ []
