-- The words of a record with the previous nodes that it has in an image.
use Rattle.std.specs.Prelude.{ℕ, ◌≡◌, List, length, slice_index}
use Rattle.fish_image.specs.Progress.{AreHeads}
use Rattle.fish_image.specs.Reached.{AreLinked, with_keys}
use Rattle.fish_layout.specs.Body.{IsBody}
use Rattle.fish_layout.specs.Cleared.{unlinked}
use Rattle.fish_layout.specs.Header.{keys_of}
use Rattle.fish_layout.specs.declared.parts.BodyParts.{BodyParts}

-- words are those of a record that differs in its previous nodes alone: each is the newest key entry of its bucket
-- before it, where the heads before say the newest; and the heads after are those with its key entries
pub record IsRegionLinked (line : ℕ) (q : BodyParts) (words heads heads' out : List ℕ)
    (places : List (ℕ × ℕ)) : Type 0 where
  pub p : BodyParts
  pub size : length out ≡ length words
  pub body : IsBody p out
  pub parts : unlinked p ≡ unlinked q
  pub links : AreLinked (length heads) line 0 p.keys places
  pub heads_are : AreHeads (length heads) (with_keys (length heads) line 0 p.keys places) heads'

-- so it is where the words are a record's; where they have no key entry, nothing changed
pub record AreSpelled (line : ℕ) (words heads heads' out : List ℕ) : Type 0 where
  pub none : keys_of (slice_index words 0) ≡ 0 → (out ≡ words) × (heads' ≡ heads)
  pub linked : (q : BodyParts) (places : List (ℕ × ℕ)) → IsBody q words → AreHeads (length heads) places heads
      → IsRegionLinked line q words heads heads' out places
