-- Which value a key entry has, by the words of its record.
use Rattle.std.specs.Prelude.{ℕ, ◌≡◌, Some, slice_get}
use Rattle.fish_chain.specs.declared.walk.Node.{Node}
use Rattle.fish_layout.specs.Cleared.{Spells}
use Rattle.fish_layout.specs.declared.parts.BodyParts.{BodyParts}
use Rattle.fish_layout.specs.declared.parts.KeyPart.{KeyPart}
use Rattle.fish_rule.specs.Views.{Among}
use Rattle.fish_rule.specs.ChainFacts.{Always, IsNodeIn}
use Rattle.fish_rule.specs.World.{World, body, low}
use Rattle.fish_rule.specs.declared.view.Found.{Found}
use Rattle.fish_rule.specs.declared.view.Key.{Key}
use Rattle.fish_rule.specs.declared.view.Kind.TheVariants.{Stored}
use Rattle.fish_rule.specs.declared.view.View.{View}
use Rattle.fish_value.specs.declared.value.Value.{Value}

-- the words of the record with number n, its previous nodes put to 0
abbrev pub record_words_at : ℕ → World → ℕ → ℕ
record_words_at n w = body w.log (low (w.dir n))

-- key entry c of the record with number n has this value
pub record HasValue (n c : ℕ) (value : Value) (k : Key) (w : World) : Type 0 where
  pub parts : BodyParts
  pub spells : Spells parts (record_words_at n w)
  pub key : KeyPart
  pub there : slice_get parts.keys c ≡ Some key
  pub is : key.value ≡ value

-- a walk gave the node: in every moment of a pass that knows as much it is an entry of its record
abbrev pub IsNodeGiven : View → Node → Type 0
IsNodeGiven v node = (bucket : ℕ) × Always v (IsNodeIn bucket node.number node.key node.place node.id)

-- the pass found the region of the record with number n
abbrev pub HasRecord : View → ℕ → Type 0
HasRecord v n = (f : Found) × Among f v.learned.found × (f.number ≡ n) × (f.kind ≡ Stored)
