-- What is read below the base, on a disk that carries its table.
use Rattle.std.specs.Prelude.{ℕ, ◌≡◌, ◌+◌, ◌*◌, ◌<◌, ◌≤◌, ◌⊎◌, List, [], ◌∷◌, ◌++◌, Option}
use Rattle.fish_cold.specs.Carries.{CarriesTable, IsPrior, IsPriorRecord}
use Rattle.fish_cold.specs.declared.cold.Cold.{Cold}
use Rattle.fish_cold.specs.declared.node.ColdNode.{ColdNode}
use Rattle.fish_image.specs.Log.{values_under}
use Rattle.fish_image.specs.Reached.{Reached, head_of}
use Rattle.fish_lang.specs.Definition.{Definition}
use Rattle.fish_layout.specs.Body.{body_lines}
use Rattle.fish_layout.specs.declared.parts.BodyParts.{BodyParts}
use Rattle.fish_psf.specs.Records.{evaluation}
use Rattle.fish_rule.specs.declared.view.Key.{Key}
use Rattle.fish_rule.specs.declared.view.View.{View}
use Rattle.fish_scan.specs.Indices.{bucket_of_value}
use Rattle.fish_scan.specs.Older.{stored_within}
use Rattle.fish_scan.specs.within.Older.{AddsOlder}
use Rattle.fish_scan.specs.OlderWork.{IsOlderFullAllowed, IsOlderIndexAllowed, IsWalkAllowed}
use Rattle.fish_value.specs.declared.row.Row.{Row}
use Rattle.fish_value.specs.declared.value.Value.{Value}

-- numbers from one on and below another were read one by one: the rows that have the value came after others, each
-- record was parsed once, and the loads are those of a full piece
pub record HasReadOlder {image : List ℕ} {count : ℕ} {end : Reached} (prior : IsPrior image count end)
    (def : Definition)
    (value : Value) (from to : ℕ) (before after : List Row) (parsed parses loaded loads : ℕ) : Type 0 where
  pub rows : AddsOlder end.entries def value from to before after
  pub parses_are : parses ≡ parsed + stored_within end.entries from to
  pub most : ℕ
  pub allowed : IsOlderFullAllowed prior from to most
  pub few : loads ≤ loaded + most

-- ---- by a chain

-- the payload is that of a record of these parts, for each of whose words one was loaded
pub record IsPayloadAt (p : BodyParts) (payload : List ℕ) (before now : ℕ) : Type 0 where
  pub is : payload ≡ p.payload
  pub few : now ≤ before + body_lines p * 4

-- the entry's record came after others, with a payload of which something is told
pub record TakesNode (node : ColdNode) (id : ℕ) (value : Value) (to : ℕ) (before after : List Row) (old new : ℕ)
    (told : List ℕ → ℕ → ℕ → Type 0) (last : ℕ) : Type 0 where
  pub below : node.number < to
  pub id_is : node.id ≡ id
  pub value_is : node.value ≡ value
  pub last_is : last ≡ node.number
  pub payload : List ℕ
  pub added : after ≡ before ++ record { number = node.number; payload = payload } ∷ []
  pub payload_is : told payload old new

-- or nothing did, since it is another definition's, has another value, or its record isn't below the one that came last
pub record Passes (node : ColdNode) (id : ℕ) (value : Value) (to : ℕ) (before after : List Row) (old new last : ℕ)
    : Type 0 where
  pub other : node.number < to → node.id ≡ id → node.value ≡ value → ⊥
  pub last_is : last ≡ to
  pub same : after ≡ before
  pub none : new ≡ old

abbrev pub IsVisit : ColdNode → ℕ → Value → ℕ → List Row → List Row → ℕ → ℕ → (List ℕ → ℕ → ℕ → Type 0) → ℕ → Type 0
IsVisit node id value to before after old new told last = TakesNode node id value to before after old new told last
    ⊎ Passes node id value to before after old new last

-- the place is that of the newest key entry of a bucket below the base
abbrev pub IsHeadOf : {content : Option (List ℕ)} {k : Key} {cold : Cold} → CarriesTable content k cold → ℕ → ℕ → Type 0
IsHeadOf h b place = place ≡ head_of h.end.places b

-- each record of a range below the base has its key entries by a definition, under an id
abbrev pub IsCoveredBy : {content : Option (List ℕ)} {k : Key} {cold : Cold} → CarriesTable content k cold → Definition
    → ℕ → ℕ → ℕ
    → Type 0
IsCoveredBy h def id from to = (n : ℕ) (p : BodyParts) → IsPriorRecord h.prior n p → from ≤ n → n < to
    → values_under id p.keys ≡ evaluation def p.form p.payload

-- a chain was followed in the file: the rows of the range that have the value came after others, by so many loads
pub record HasDescended {image : List ℕ} {count : ℕ} {end : Reached} (prior : IsPrior image count end) (b : ℕ)
    (def : Definition) (value : Value) (from to : ℕ) (before after : List Row) (loaded loads : ℕ) : Type 0 where
  pub rows : AddsOlder end.entries def value from to before after
  pub most : ℕ
  pub allowed : IsOlderIndexAllowed prior b after from to most
  pub few : loads ≤ loaded + most

-- and through the table before that
pub record HasWalkedOlder {image : List ℕ} {count : ℕ} {end : Reached} (prior : IsPrior image count end) (v u : View)
    (def : Definition) (value : Value) (id from to : ℕ) (before after : List Row) (loaded loads : ℕ) : Type 0 where
  pub rows : AddsOlder end.entries def value from to before after
  pub walked : ℕ
  pub walk : IsWalkAllowed u (bucket_of_value u id value) walked
  pub most : ℕ
  pub allowed : IsOlderIndexAllowed prior (bucket_of_value u id value) after from to most
  pub own : u.clock.loads ≤ v.clock.loads + walked
  pub few : loads ≤ loaded + walked + most
