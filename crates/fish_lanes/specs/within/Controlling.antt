-- What one step of the control pass on the definitions tells and leaves.
use Rattle.std.specs.Prelude.{ℕ, ◌≡◌, ◌⊎◌, ◌<◌, suc, List, [], ◌∷◌, ◌++◌, Option, Some, None, ⊤}
use Rattle.fish_lanes.specs.Controlling.{CanControl}
use Rattle.fish_lanes.specs.within.Gains.{Gains}
use Rattle.fish_lanes.specs.Pending.{HasFoundOlder}
use Rattle.fish_lanes.specs.Registering.{LiesWithin, ItemFits, KnowsRegistry, after}
use Rattle.fish_lanes.specs.Registering.{bound, registry_of}
use Rattle.fish_lanes.specs.Single.{NamesNone}
use Rattle.fish_lanes.specs.declared.block.Boundary.{Boundary}
use Rattle.fish_registry.specs.Changing.{IsAtTail}
use Rattle.fish_registry.specs.Knowing.{Knows}
use Rattle.fish_registry.specs.declared.outcome.RegRefusal.{RegRefusal}
use Rattle.fish_registry.specs.declared.outcome.RegRefusal.TheVariants as refusal
use Rattle.fish_registry.specs.declared.registrar.Registrar.{Registrar}
use Rattle.fish_registry.specs.declared.registrar.Waiting.{Waiting}
use Rattle.fish_report.specs.declared.item.DeregisterCause.{DeregisterCause}
use Rattle.fish_report.specs.declared.item.DeregisterCause.TheVariants as deregister
use Rattle.fish_report.specs.declared.item.Item.{Item}
use Rattle.fish_report.specs.declared.item.Item.TheVariants as item
use Rattle.fish_report.specs.declared.item.RegisterCause.{RegisterCause}
use Rattle.fish_report.specs.declared.item.RegisterCause.TheVariants as register
use Rattle.fish_rule.specs.Clocks.{HasLoaded}
use Rattle.fish_rule.specs.LoadSteps.{IsAlone}
use Rattle.fish_rule.specs.Passes.{view}
use Rattle.fish_rule.specs.declared.table.Log.{Log}
use Rattle.fish_rule.specs.declared.table.Pass.{Pass}
use Rattle.fish_rule.specs.declared.view.Noted.TheVariants.{Epoch}
use Rattle.fish_rule.specs.declared.view.View.{View}
use Rattle.fish_store.specs.Sound.{RowsGoOn}

-- the item fits the registry where it stands, the registry is the one after it, and its definitions stay known
pub record Does (u : View) (r : Registrar) (t : View) (s : Registrar) (x : Item) : Type 0 where
  pub so : ItemFits u.learned.count t.learned.count (registry_of u r) x
  pub is : registry_of t s ≡ after (registry_of u r) x
  pub knows : KnowsRegistry u (registry_of u r) → KnowsRegistry t (after (registry_of u r) x)

-- the registry stays, or a boundary was found, and an item more tells of it
abbrev pub HasPolled : View → Registrar → View → Registrar → List Item → List Item → Type 0
HasPolled u r t s old new = ((new ≡ old) × (registry_of t s ≡ registry_of u r))
    ⊎ ((id : ℕ) × (from : ℕ) × (new ≡ old ++ item.Bound id from ∷ []) × Does u r t s (item.Bound id from))

-- the same where no item tells of it yet
abbrev pub IsBoundaryFound : View → Registrar → View → Registrar → Option Boundary → Type 0
IsBoundaryFound u r t s None = registry_of t s ≡ registry_of u r
IsBoundaryFound u r t s (Some b) = Does u r t s (item.Bound b.id b.from)

-- none waits, or the look at the lanes found one at an older version than the last one made
abbrev pub HasLooked : View → View → Registrar → Type 0
HasLooked u t s = (s.waiting ≡ None) ⊎ HasFoundOlder u.clock t.clock t.learned.version

-- the registration with the id was made last, and waits
pub record WaitsFor (u : View) (r : Registrar) (id : ℕ) : Type 0 where
  pub waiting : Waiting
  pub waits : r.waiting ≡ Some waiting
  pub id_is : waiting.id ≡ id
  pub version_is : waiting.version ≡ u.learned.version

-- what a registrar keeps for the pass is known of the words that it read
abbrev pub KnowsAll : View → Type 0
KnowsAll t = (r : Registrar) → Knows t r → KnowsRegistry t (registry_of t r)

-- the item of a registration that was just made: its index begins, or it waits for a lane at an older version
abbrev pub SaysBegun : View → Registrar → View → Registrar → List ℕ → ℕ → List ℕ → Item → Type 0
SaysBegun u r t s name id def x = KnowsRegistry t (registry_of t s)
    × (((seat : ℕ) × (version : ℕ) × (x ≡ item.Rolling name id def seat version) × (version < u.learned.version)
    × (registry_of t s ≡ registry_of u r))
    ⊎ ((from : ℕ) × (x ≡ item.Registered name id from def) × LiesWithin u.learned.count t.learned.count from
    × (registry_of t s ≡ bound (registry_of u r) id from)))

-- the lane and the version that the item of a registration tells of were loaded in between
abbrev pub RollsBy : View → View → Item → Type 0
RollsBy u t (item.Rolling name id def lane older) = HasLoaded u.clock t.clock (Epoch lane) (suc older)
RollsBy u t x = ⊤

-- why a definition was not registered, as an item tells it
abbrev pub register_cause : RegRefusal → Option RegisterCause
register_cause (refusal.Rolling id) = Some (register.Rolling id)
register_cause refusal.TooManyVersions = Some register.TooManyVersions
register_cause refusal.NameActive = Some register.NameActive
register_cause refusal.TooManyActive = Some register.TooManyActive
register_cause refusal.TooManyDefinitions = Some register.TooManyDefinitions
register_cause refusal.OutOfMemory = None
register_cause refusal.UnknownName = None

-- and not ended
abbrev pub deregister_cause : RegRefusal → Option DeregisterCause
deregister_cause (refusal.Rolling id) = Some (deregister.Rolling id)
deregister_cause refusal.TooManyVersions = Some deregister.TooManyVersions
deregister_cause refusal.NameActive = None
deregister_cause refusal.TooManyActive = None
deregister_cause refusal.TooManyDefinitions = None
deregister_cause refusal.OutOfMemory = None
deregister_cause refusal.UnknownName = Some deregister.UnknownName

-- a boundary that the item tells is where the pass knew the tail
abbrev pub SaysTail : View → Item → Type 0
SaysTail u (item.Registered name id from def) = IsAtTail u from
SaysTail u (item.Deregistered name id to) = IsAtTail u to
SaysTail u x = ⊤

-- ---- steps on the definitions

-- the control pass goes on over a step on the definitions: it may control, the rows go on, and no record was stored
pub record Controls (log : Log) (p : Pass) (r : Registrar) (q : Pass) (s : Registrar) : Type 0 where
  pub can : CanControl log q s
  pub grows : RowsGoOn (view p) r.catalog s.catalog
  pub gains : Gains (view p) (view q) []
  pub shut : (view q).shut ≡ (view p).shut

-- the same of a look at the registration that waits
pub record LooksForBoundary (log : Log) (p : Pass) (r : Registrar) (q : Pass) (s : Registrar) : Type 0 where
  pub on : Controls log p r q s
  pub loads : (view q).clock.loads ≡ (view p).clock.loads
  pub idle : r.waiting ≡ None → (view q ≡ view p) × (s.waiting ≡ None)
  pub looked : HasLooked (view p) (view q) s

-- what an item tells of a step on the definitions
pub record TellsStep (u : View) (r : Registrar) (t : View) (s : Registrar) (x : Item) : Type 0 where
  pub closed : IsAlone u → NamesNone x
  pub tail : IsAlone u → SaysTail u x
  pub rolls : RollsBy u t x
  pub does : Does u r t s x

-- the same of the registration with an id that was just made
pub record TellsBegun (u : View) (r : Registrar) (t : View) (s : Registrar) (name : List ℕ) (id : ℕ) (def : List ℕ)
    (x : Item) : Type 0 where
  pub closed : IsAlone u → NamesNone x
  pub tail : IsAlone u → SaysTail u x
  pub rolls : RollsBy u t x
  pub begun : SaysBegun u r t s name id def x
