-- What the words of a region answer.
use Rattle.std.specs.Prelude.{ℕ, ◌≡◌, ◌+◌, ◌*◌, ◌^◌, ◌<◌, ◌≤◌, List, Option, Some, None, Result, Ok, Err, drop, length}
use Rattle.std.specs.Prelude.{slice_index, slice_index_or, ⊤}
use Rattle.fish_catalog.specs.declared.entry.Entry.{Entry}
use Rattle.fish_catalog.specs.declared.entry.Entry.TheVariants.{Stored, Void}
use Rattle.fish_image.specs.Log.{region}
use Rattle.fish_layout.specs.Body.{IsBody}
use Rattle.fish_layout.specs.Cleared.{entry_at}
use Rattle.fish_layout.specs.Entry.{entry_number}
use Rattle.fish_layout.specs.Header.{void_word}
use Rattle.fish_layout.specs.declared.parts.BodyParts.{BodyParts}
use Rattle.fish_layout.specs.declared.parts.KeyPart.{KeyPart}
use Rattle.fish_cold.specs.declared.node.ColdNode.{ColdNode}
use Rattle.fish_cold.specs.declared.refusal.ColdRefusal.{ColdRefusal}
use Rattle.fish_cold.specs.declared.refusal.ColdRefusal.TheVariants.{DiskFault, Damaged, OutOfMemory}

-- the words begin with the header of a void
abbrev pub IsVoidHead : List ℕ → Type 0
IsVoidHead rest = (lines : ℕ) × (1 ≤ lines) × (lines < 2 ^ 16) × (slice_index rest 0 ≡ void_word lines)

-- the words begin with a record of these parts
abbrev pub IsRecordHead : BodyParts → List ℕ → Type 0
IsRecordHead p rest = IsBody p (region rest)

-- how words that begin with a region are answered: by the record that they are, by a void where they are one, and as
-- damaged only where they are neither
abbrev pub AnswersEntry : ℕ → List ℕ → Result Entry ColdRefusal → Type 0
AnswersEntry number rest (Ok entry) = ((p : BodyParts) → IsRecordHead p rest → entry ≡ Stored p.lane p.form p.payload)
    × (IsVoidHead rest → entry ≡ Void)
AnswersEntry number rest (Err (Damaged n)) = (n ≡ number) × ((p : BodyParts) → IsRecordHead p rest → ⊥)
    × (IsVoidHead rest → ⊥)
AnswersEntry number rest (Err DiskFault) = ⊤
AnswersEntry number rest (Err OutOfMemory) = ⊤

-- a record takes one load for each of its words at most, and a void none
abbrev pub LoadsWords : List ℕ → ℕ → ℕ → Result Entry ColdRefusal → Type 0
LoadsWords rest old new (Ok Void) = new ≡ old
LoadsWords rest old new (Ok (Stored lane form payload)) = (old ≤ new) × (new ≤ old + length (region rest))
LoadsWords rest old new (Err refusal) = ⊤

-- damage is of this number
abbrev pub IsDamageOf : ℕ → ColdRefusal → Type 0
IsDamageOf number (Damaged n) = n ≡ number
IsDamageOf number DiskFault = ⊤
IsDamageOf number OutOfMemory = ⊤

-- entry j of the record of the region at a line of these words is this key entry, at place i of them
pub record HasNodeAt (words : List ℕ) (i line : ℕ) (p : BodyParts) (j : ℕ) (k : KeyPart) : Type 0 where
  pub body : IsRecordHead p (drop (4 * line) words)
  pub at : i ≡ 4 * line + entry_at j
  pub within : j < length p.keys
  pub is : k ≡ slice_index_or p.keys j k

-- the node is this key entry
pub record IsNodeOf (place : ℕ) (p : BodyParts) (j : ℕ) (k : KeyPart) (node : ColdNode) : Type 0 where
  pub number : node.number ≡ p.number
  pub place_is : node.place ≡ place
  pub id : node.id ≡ k.id
  pub key : node.key ≡ j
  pub prev : node.prev ≡ k.prev
  pub value : node.value ≡ k.value

-- this key entry is answered, or none where its record has a number below one; it is not damaged
abbrev pub Walks : ℕ → ℕ → BodyParts → ℕ → KeyPart → Result (Option ColdNode) ColdRefusal → Type 0
Walks place from p j k (Ok (Some node)) = (from ≤ p.number) × IsNodeOf place p j k node
Walks place from p j k (Ok None) = p.number < from
Walks place from p j k (Err (Damaged n)) = ⊥
Walks place from p j k (Err DiskFault) = ⊤
Walks place from p j k (Err OutOfMemory) = ⊤

-- the second word of the key entry at place i of words says a number below this one
pub record IsOlderAt (words : List ℕ) (i from : ℕ) : Type 0 where
  pub room : i + 2 < length words
  pub number : entry_number (slice_index words (i + 1)) < from

-- none is answered just where the number there is below one
abbrev pub EndsWalk : List ℕ → ℕ → ℕ → Result (Option ColdNode) ColdRefusal → Type 0
EndsWalk words i from (Ok None) = IsOlderAt words i from
EndsWalk words i from (Ok (Some node)) = ¬ IsOlderAt words i from
EndsWalk words i from (Err (Damaged n)) = ¬ IsOlderAt words i from
EndsWalk words i from (Err DiskFault) = ⊤
EndsWalk words i from (Err OutOfMemory) = ⊤

-- a node that is answered is as was asked, and its previous node is lower, whatever the words are
pub record IsLinkable (place below from : ℕ) (node : ColdNode) : Type 0 where
  pub place_is : node.place ≡ place
  pub from_is : from ≤ node.number
  pub below_is : node.number < below
  pub lower : node.prev < place
