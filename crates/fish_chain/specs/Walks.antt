-- What a walk down the chain of a bucket gives: the key entries of the settled records in its range, newest first.
use Rattle.std.specs.Prelude.{ℕ, ◌≡◌, ◌+◌, ◌*◌, ◌<◌, ◌≤◌, List, [], ◌∷◌, length, Option, Some, None}
use Rattle.std.proofs.Common.{◌⊎◌}
use Rattle.fish_chain.specs.declared.walk.Node.{Node}
use Rattle.fish_layout.specs.Entry.{entry_number}
use Rattle.fish_rule.specs.ChainSteps.{HasNode}
use Rattle.fish_rule.specs.Parts.{first_head}
use Rattle.fish_rule.specs.Views.{Among}
use Rattle.fish_rule.specs.ChainFacts.{Always, IsClear, IsEntryIn, IsNodeIn}
use Rattle.fish_rule.specs.declared.table.Walk.{Walk}
use Rattle.fish_rule.specs.declared.view.Label.{Label}
use Rattle.fish_rule.specs.declared.view.View.{View}

-- the place is none of the table's
abbrev pub IsPastPlace : View → ℕ → Type 0
IsPastPlace v place = place ≤ v.about.line * 4

-- nothing of the table is left at the place where a walk goes on: it is the head that the bucket had at the start,
-- unless the walk stopped before, since its range begins after the base
pub record IsWalkRest (v : View) (bucket from place : ℕ) : Type 0 where
  pub past : IsPastPlace v place
  pub first : from ≤ v.about.number → place ≡ first_head v.about bucket

-- a walk over settled numbers stands at an entry of its bucket, or where nothing of the table is left, and no entry of
-- its range lies between what it gave and where it stands
pub record IsWalking (v : View) (walk : Walk) : Type 0 where
  pub settled : walk.to ≤ v.learned.settled
  pub at : IsWalkRest v walk.bucket walk.from walk.place
      ⊎ (HasNode v walk.bucket walk.place × (walk.place < walk.given))
  pub clear : Always v (IsClear walk.bucket walk.from walk.to walk.given walk.place)

-- the walk has this bucket and range
pub record HasRange (walk : Walk) (bucket from to : ℕ) : Type 0 where
  pub bucket_is : walk.bucket ≡ bucket
  pub from_is : walk.from ≡ from
  pub to_is : walk.to ≡ to

-- the walk is of this bucket and range, and every entry of the range is still to be given
pub record HasBegunWalk (v : View) (walk : Walk) (bucket from to : ℕ) : Type 0 where
  pub range : HasRange walk bucket from to
  pub walking : IsWalking v walk
  pub ahead : Always v (λ k w. (n c p : ℕ) → from ≤ n → n < to → IsEntryIn bucket n c p k w → p < walk.given)

-- the second word of the entry at a place was read, and names this number
pub record IsNumbered (v : View) (place number : ℕ) : Type 0 where
  pub label : Label
  pub read : Among label v.learned.labels
  pub place_is : label.place ≡ place
  pub number_is : entry_number label.word ≡ number

-- the node is an entry of the walk's bucket and range, and the next one below what was given, in every later
-- moment too
pub record IsNextNode (v : View) (walk : Walk) (node : Node) : Type 0 where
  pub from : walk.from ≤ node.number
  pub to : node.number < walk.to
  pub entry : Always v (IsNodeIn walk.bucket node.number node.key node.place node.id)
  pub below : node.place < walk.given
  pub next : Always v (IsClear walk.bucket walk.from walk.to walk.given node.place)

-- an entry of a bucket is known to be linked at the place, and its second word to name a number from this one on
pub record IsEntryFrom (v : View) (bucket first place : ℕ) : Type 0 where
  pub node : HasNode v bucket place
  pub number : ℕ
  pub numbered : IsNumbered v place number
  pub from : first ≤ number

-- places of such entries, each below the one before: they lead from one place down to another
abbrev pub LeadDown : View → ℕ → ℕ → ℕ → ℕ → List ℕ → Type 0
LeadDown v bucket first from to [] = from ≡ to
LeadDown v bucket first from to (place ∷ places) = (from ≡ place) × IsEntryFrom v bucket first place
    × ((next : ℕ) × (next < place) × LeadDown v bucket first next to places)

-- of so many entries that a walk passed two words were loaded at most; the entry that it gave is one of them, and where
-- it gave none one more word was loaded at most
abbrev pub AreFew : Option Node → ℕ → ℕ → ℕ → Type 0
AreFew None entries old new = new ≤ old + 2 * entries + 1
AreFew (Some node) entries old new = (1 ≤ entries) × (new ≤ old + 2 * entries)

-- going down from where a walk stood to another place the pass loaded few words of the entries that it passed, which
-- are of the walk's bucket and of numbers from the start of its range on
pub record IsBounded (v u : View) (walk : Walk) (to : ℕ) (given : Option Node) : Type 0 where
  pub passed : List ℕ
  pub end : ℕ
  pub down : LeadDown u walk.bucket walk.from walk.place end passed
  pub within : to ≤ end
  pub few : AreFew given (length passed) v.clock.loads u.clock.loads

-- what a walk gave: its next entry, which it then has given, or none where no entry of its range is left, and the
-- walk is past the table
abbrev pub GaveNode : View → Walk → Walk → Option Node → Type 0
GaveNode v walk walk' None = Always v (IsClear walk.bucket walk.from walk.to walk.given 0) × IsPastPlace v walk'.place
GaveNode v walk walk' (Some node) = IsNextNode v walk node × (walk'.given ≡ node.place)
