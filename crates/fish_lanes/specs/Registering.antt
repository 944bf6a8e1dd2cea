-- The definitions of a log as the items of a run tell them.
use Rattle.std.specs.Prelude.{ℕ, ◌≡◌, ◌⊎◌, ◌+◌, ◌<◌, ◌≤◌, List, [], ◌∷◌, ◌++◌, Option, Some, None, ⊤}
use Rattle.std.specs.Prelude.{count_by, length, map}
use Rattle.fish_catalog.specs.Closing.{with_to}
use Rattle.fish_catalog.specs.Limits.{most_active}
use Rattle.fish_catalog.specs.Listing.{listed_of}
use Rattle.fish_catalog.specs.Rows.{HasActive, IsActiveNamed, IsName, is_active, new_row, with_from}
use Rattle.fish_catalog.specs.declared.row.CatRow.{CatRow}
use Rattle.fish_lanes.specs.declared.work.Work.{Work}
use Rattle.fish_lanes.specs.declared.work.Work.TheVariants as work
use Rattle.fish_registry.specs.Refusing.{IsSaid}
use Rattle.fish_registry.specs.declared.registrar.Registrar.{Registrar}
use Rattle.fish_registry.specs.declared.registrar.Waiting.{Waiting}
use Rattle.fish_report.specs.declared.item.DeregisterCause.{DeregisterCause}
use Rattle.fish_report.specs.declared.item.DeregisterCause.TheVariants as deregister
use Rattle.fish_report.specs.declared.item.Item.{Item}
use Rattle.fish_report.specs.declared.item.Item.TheVariants as item
use Rattle.fish_report.specs.declared.item.RegisterCause.{RegisterCause}
use Rattle.fish_report.specs.declared.item.RegisterCause.TheVariants as register
use Rattle.fish_rule.specs.Registry.{KnowsDefinitions}
use Rattle.fish_rule.specs.declared.view.View.{View}
use Rattle.fish_whole.specs.Whole.{Whole}

-- the rows, the id of the registration that waits for its boundary, and the version
pub record Registry : Type 0 where
  pub rows : List CatRow
  pub waiting : Option ℕ
  pub version : ℕ

-- ---- how items change it

-- a definition is the next row, and waits for its boundary
abbrev pub begun : Registry → ℕ → List ℕ → List ℕ → Registry
begun r id name def = record { rows = r.rows ++ new_row id name def ∷ []; waiting = Some id; version = r.version + 1 }

-- its index begins
abbrev pub bound : Registry → ℕ → ℕ → Registry
bound r id from = record { rows = with_from r.rows id from; waiting = None; version = r.version }

-- an index ends
abbrev pub registry_ended : Registry → ℕ → ℕ → Registry
registry_ended r id to = record { rows = with_to r.rows id to; waiting = r.waiting; version = r.version + 1 }

-- the registry after an item
abbrev pub after : Registry → Item → Registry
after r (item.Registered name id from def) = bound (begun r id name def) id from
after r (item.Rolling name id def seat version) = begun r id name def
after r (item.Bound id from) = bound r id from
after r (item.Deregistered name id to) = registry_ended r id to
after r x = r

-- and after items
abbrev pub after_all : Registry → List Item → Registry
after_all r [] = r
after_all r (x ∷ items) = after_all (after r x) items

-- ---- what items tell of it

-- the number lies between two, or is one of them
abbrev pub LiesWithin : ℕ → ℕ → ℕ → Type 0
LiesWithin low high n = (low ≤ n) × (n ≤ high)

-- no registration waits, and one version more may be made
pub record MayAlter (r : Registry) : Type 0 where
  pub settled : r.waiting ≡ None
  pub few : r.version < 512

-- a definition of this name may be registered
pub record MayRegister (r : Registry) (name : List ℕ) : Type 0 where
  pub change : MayAlter r
  pub free : ¬ HasActive r.rows name
  pub few_active : count_by is_active r.rows < most_active
  pub few : length r.rows < 256

-- why none was
abbrev pub IsRegisterCause : Registry → List ℕ → RegisterCause → Type 0
IsRegisterCause r name (register.Rolling id) = r.waiting ≡ Some id
IsRegisterCause r name register.TooManyVersions = (r.waiting ≡ None) × (512 ≤ r.version)
IsRegisterCause r name register.NameActive = MayAlter r × HasActive r.rows name
IsRegisterCause r name register.TooManyActive =
    MayAlter r × (¬ HasActive r.rows name) × (most_active ≤ count_by is_active r.rows)
IsRegisterCause r name register.TooManyDefinitions =
    MayAlter r × (¬ HasActive r.rows name) × (count_by is_active r.rows < most_active) × (256 ≤ length r.rows)

-- why none was ended
abbrev pub IsDeregisterCause : Registry → List ℕ → DeregisterCause → Type 0
IsDeregisterCause r name (deregister.Rolling id) = r.waiting ≡ Some id
IsDeregisterCause r name deregister.TooManyVersions = (r.waiting ≡ None) × (512 ≤ r.version)
IsDeregisterCause r name deregister.UnknownName = MayAlter r × (¬ HasActive r.rows name)

-- the item fits the registry: boundaries lie between two numbers, a boundary that waits does so for a lane at an older
-- version, and scans and plans are at the registry's version
abbrev pub ItemFits : ℕ → ℕ → Registry → Item → Type 0
ItemFits low high r (item.Registered name id from def) =
    MayRegister r name × (id ≡ length r.rows) × LiesWithin low high from
ItemFits low high r (item.Rolling name id def seat version) =
    MayRegister r name × (id ≡ length r.rows) × (version ≤ r.version)
ItemFits low high r (item.Bound id from) = (r.waiting ≡ Some id) × LiesWithin low high from
ItemFits low high r (item.Deregistered name id to) = MayAlter r × IsActiveNamed r.rows name id × LiesWithin low high to
ItemFits low high r (item.RegisterRefused name cause) = IsRegisterCause r name cause
ItemFits low high r (item.DeregisterRefused name cause) = IsDeregisterCause r name cause
ItemFits low high r (item.Scanned name value from to opens rows version) = version ≡ r.version
ItemFits low high r (item.ScanRefused name version why) = version ≡ r.version
ItemFits low high r (item.Explained name value from to plan version) = version ≡ r.version
ItemFits low high r (item.ExplainRefused name version why) = version ≡ r.version
ItemFits low high r x = ⊤

-- each item fits the registry where it stands
abbrev pub ItemsFit : ℕ → ℕ → Registry → List Item → Type 0
ItemsFit low high r [] = ⊤
ItemsFit low high r (x ∷ items) = ItemFits low high r x × ItemsFit low high (after r x) items

-- ---- versions

-- by the words that the pass has read, the definitions at the registry's version are its rows
abbrev pub KnowsRegistry : View → Registry → Type 0
KnowsRegistry v r = KnowsDefinitions v.about v.learned r.version (map listed_of r.rows)

-- the whole has them at that version
abbrev pub HasRegistry : Whole → Registry → Type 0
HasRegistry w r = w.rows r.version ≡ map listed_of r.rows

-- P holds of the registry before each item, and after them all
abbrev pub InEach : (Registry → Type 0) → Registry → List Item → Type 0
InEach P r [] = P r
InEach P r (x ∷ items) = P r × InEach P (after r x) items

abbrev pub KnowsEach : View → Registry → List Item → Type 0
KnowsEach v = InEach (KnowsRegistry v)

abbrev pub HasEach : Whole → Registry → List Item → Type 0
HasEach w = InEach (HasRegistry w)

-- ---- what the control pass has of it

-- the id of what waits
abbrev pub waiting_id : Option Waiting → Option ℕ
waiting_id None = None
waiting_id (Some w) = Some w.id

-- a registrar's rows and what waits, at the version that its pass knows
abbrev pub registry_of : View → Registrar → Registry
registry_of v r = record { rows = r.catalog; waiting = waiting_id r.waiting; version = v.learned.version }

-- ---- statements

-- the item of a registration of this name and text
abbrev pub IsRegisterItem : List ℕ → List ℕ → Item → Type 0
IsRegisterItem name text x = ((id : ℕ) × (from : ℕ) × (x ≡ item.Registered name id from text))
    ⊎ (((id : ℕ) × (seat : ℕ) × (version : ℕ) × (x ≡ item.Rolling name id text seat version))
    ⊎ ((cause : RegisterCause) × (x ≡ item.RegisterRefused name cause)))

-- and of the end of one
abbrev pub IsDeregisterItem : List ℕ → Item → Type 0
IsDeregisterItem name x = ((id : ℕ) × (to : ℕ) × (x ≡ item.Deregistered name id to))
    ⊎ ((cause : DeregisterCause) × (x ≡ item.DeregisterRefused name cause))

-- the name of a registration is one, and some source says its definition
abbrev pub IsAcceptable : Work → Type 0
IsAcceptable (work.Register name def) = IsName name × IsSaid def
IsAcceptable w = ⊤
