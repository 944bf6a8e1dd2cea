-- Epochs: how far each lane is entered, and that no version is after the registry's.
use Rattle.std.specs.Prelude.{ℕ, ◌≡◌, ◌≢◌, ◌<◌, ◌≤◌, ◌⊎◌, suc, ◌-◌, List, Option, Some, None, ⊤, length, slice_get}
use Rattle.std.proofs.Math.Decide.{ℕ_discrete}
use Rattle.fish_catalog.specs.Listing.{IsListing}
use Rattle.fish_catalog.specs.Words.{row_word, IsWritable}
use Rattle.fish_catalog.specs.declared.listed.Listed.{Listed}
use Rattle.fish_catalog.specs.declared.row.CatRow.{CatRow}
use Rattle.fish_layout.specs.Cleared.{body_of, choose}
use Rattle.fish_rule.specs.Boundaries.{Boundaries, IsUnended}
use Rattle.fish_rule.specs.Keys.{IsKeyed}
use Rattle.fish_rule.specs.Regions.{code}
use Rattle.fish_rule.specs.Registry.{opened_at, AreActiveAt, IsBoundaryIndex, IsOperation, IsRegistered, definitions_at}
use Rattle.fish_rule.specs.Registry.{control_word, epoch_at, op_at, row_at, row_in, version_in}
use Rattle.fish_rule.specs.Rounds.{IsSince, Waits}
use Rattle.fish_rule.specs.Views.{AllOf, Each, Has}
use Rattle.fish_rule.specs.World.{body, high}
use Rattle.fish_rule.specs.declared.view.Epoch.{Epoch}
use Rattle.fish_rule.specs.declared.view.Epoch.TheVariants.{Announced, Confirmed, Out}
use Rattle.fish_rule.specs.declared.view.Flight.{Flight}
use Rattle.fish_rule.specs.declared.view.Key.{Key}
use Rattle.fish_rule.specs.declared.view.Kind.TheVariants.{Stored}
use Rattle.fish_rule.specs.declared.view.RegistryWord.{RegistryWord}
use Rattle.fish_rule.specs.declared.view.Round.{Round}
use Rattle.fish_rule.specs.declared.view.Unended.{Unended}
use Rattle.fish_rule.specs.declared.view.View.{View}

-- ---- epochs

-- an epoch as a word: 0, or the version plus one
abbrev pub epoch_word : Epoch → ℕ
epoch_word Out = 0
epoch_word (Announced u) = suc u
epoch_word (Confirmed u) = suc u

-- the epoch's version is at most this one
abbrev pub IsAtMost : ℕ → Epoch → Type 0
IsAtMost v Out = ⊤
IsAtMost v (Announced u) = u ≤ v
IsAtMost v (Confirmed u) = u ≤ v

-- the epoch once the version was found: an announced one is confirmed where it is that very version
abbrev pub confirmed : Epoch → ℕ → Epoch
confirmed Out found = Out
confirmed (Announced u) found = choose (ℕ_discrete found u) (Confirmed u) (Announced u)
confirmed (Confirmed u) found = Confirmed u

-- each lane's word is that of its epoch, and no epoch is ahead of the registry
pub record Epochs (g : ℕ → ℕ) (state : ℕ → Epoch) : Type 0 where
  pub words : (l : ℕ) → 1 ≤ l → l ≤ 16 → g (epoch_at l) ≡ epoch_word (state l)
  pub past : (l : ℕ) → 1 ≤ l → l ≤ 16 → IsAtMost (version_in g) (state l)

-- ---- versions

-- the version is at or past the start's, and so are those of all records, which are at most the registry's; what
-- each version has is a proper listing, and each operation is one that may be made; the rows of the start stand in
-- the words
pub record Versions (k : Key) (count : ℕ) (g : ℕ → ℕ) (version_of : ℕ → ℕ) : Type 0 where
  pub from : k.version ≤ version_in g
  pub few : version_in g ≤ 512
  pub since : (n : ℕ) → k.number ≤ n → n < count → k.version ≤ version_of n
  pub upto : (n : ℕ) → k.number ≤ n → n < count → version_of n ≤ version_in g
  pub listings : (v : ℕ) → v ≤ version_in g → IsListing (definitions_at k g v)
  pub operations : (v : ℕ) → k.version ≤ v → v < version_in g
      → IsOperation (row_in g (length (definitions_at k g v))) (definitions_at k g v) (g (op_at (suc v)))
  pub opened : g opened_at ≡ length k.rows.value
  pub rows : (id : ℕ) (row : CatRow) → slice_get k.rows.value id ≡ Some row
      → IsWritable row × ((i : ℕ) → 2 ≤ i → i < 39 → g (row_at id i) ≡ row_word row i)

-- ---- what holds of one pass

-- no operation and no row has been made of the word at the index
abbrev pub IsUnmade : Key → (ℕ → ℕ) → ℕ → Type 0
IsUnmade k g p = ((v : ℕ) × (version_in g < v) × (v ≤ 512) × (p ≡ op_at v))
    ⊎ ((id : ℕ) × (i : ℕ) × (length (definitions_at k g (version_in g)) ≤ id) × (id < 256) × (i < 39)
    × (p ≡ row_at id i))

-- the word at the index is one that only the control pass stores: nothing is made of it yet, or it is a boundary
abbrev pub IsOwned : Key → (ℕ → ℕ) → ℕ → Type 0
IsOwned k g p = IsUnmade k g p ⊎ IsBoundaryIndex p

-- the control pass knows the registry as it is: its version, its definitions, and all words that only it stores
pub record IsControl (k : Key) (g : ℕ → ℕ) (seen : ℕ) (rows : List Listed) (control_words : List RegistryWord)
    : Type 0 where
  pub version : seen ≡ version_in g
  pub definitions : definitions_at k g (version_in g) ≡ rows
  pub owned : (p : ℕ) → IsOwned k g p → g p ≡ control_word control_words p

-- a pass's lane is as far entered as the pass is, and every other lane that it has is out; what it knows of the
-- registry is so, and no version that it has seen or is confirmed at is before the start's
pub record StaysWith (k : Key) (count : ℕ) (g : ℕ → ℕ) (state : ℕ → Epoch) (version_of : ℕ → ℕ) (lane : ℕ)
    (out : List ℕ) (epoch : Epoch) (seen : ℕ) (words : List RegistryWord) (ends : List Unended) (rows : List Listed)
    (control_words : List RegistryWord) (round : Option Round) : Type 0 where
  pub tied : (l : ℕ) → Has lane out l → (l ≡ lane → state l ≡ epoch) × (l ≢ lane → state l ≡ Out)
  pub from : 1 ≤ lane → k.version ≤ seen
  pub since : IsSince k.version epoch
  pub reached : seen ≤ version_in g
  pub read : AllOf (IsRegistered k g) words
  pub unended : AllOf (IsUnended k count g version_of) ends
  pub control : lane ≡ 1 → IsControl k g seen rows control_words
  pub waits : Waits k count g state version_of lane round

-- the same of the fields of a view
abbrev pub Stays : Key → ℕ → (ℕ → ℕ) → (ℕ → Epoch) → (ℕ → ℕ) → View → Type 0
Stays k count g state version_of v = StaysWith k count g state version_of v.lane v.out v.epoch v.learned.version
    v.learned.words v.learned.unended v.rows v.control_words v.round

-- a record in flight is of the version at which its pass is entered; once an entry of it is linked, it has the
-- keys of that version
pub record IsFlightCarried (k : Key) (g : ℕ → ℕ) (version_of : ℕ → ℕ) (lane : ℕ)
    (epoch : Epoch) (f : Flight) : Type 0 where
  pub entered : epoch ≡ Confirmed (version_of f.number)
  pub keyed : 0 < f.linked
      → IsKeyed (AreActiveAt k g) (version_of f.number) lane f.number f.lines (body_of f.words)

-- the same where there is one
abbrev pub Carries : Key → (ℕ → ℕ) → (ℕ → ℕ) → ℕ → Epoch → Option Flight → Type 0
Carries k g version_of lane epoch None = ⊤
Carries k g version_of lane epoch (Some f) = IsFlightCarried k g version_of lane epoch f

-- ---- all of it

-- epochs, versions, boundaries, and what holds of each pass
pub record RegistryHolds (k : Key) (count : ℕ) (g : ℕ → ℕ) (state : ℕ → Epoch) (version_of : ℕ → ℕ) (views : List View)
    : Type 0 where
  pub epochs : Epochs g state
  pub versions : Versions k count g version_of
  pub boundaries : Boundaries k count g state version_of
  pub each : Each (Stays k count g state version_of) views
  pub flights : Each (λ v. Carries k g version_of v.lane v.epoch v.flight) views

-- each published record has exactly the keys that the definitions active at its version give for it
pub record Keyed (k : Key) (count : ℕ) (g dir log start lane_of version_of : ℕ → ℕ) : Type 0 where
  pub each : (n : ℕ) → k.number ≤ n → n < count → high (dir n) ≡ code Stored
      → IsKeyed (AreActiveAt k g) (version_of n) (lane_of n) n (start (suc n) - start n) (body log (start n))
