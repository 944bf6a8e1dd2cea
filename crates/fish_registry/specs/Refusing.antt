-- Why a definition is not registered or not ended, and what a call leaves where it is.
use Rattle.std.specs.Prelude.{ℕ, ◌≡◌, ◌<◌, suc, List, [], ◌∷◌, ◌++◌, Some, None, length, ⊤}
use Rattle.fish_catalog.specs.Rows.{new_row, with_from}
use Rattle.fish_catalog.specs.declared.catalog.CatRefusal.{CatRefusal}
use Rattle.fish_catalog.specs.declared.catalog.CatRefusal.TheVariants as found
use Rattle.fish_lang.specs.Canonical.{definition_text}
use Rattle.fish_lang.specs.Definition.{definition_of}
use Rattle.fish_lang.specs.Language.{IsAccepted}
use Rattle.fish_lang.specs.declared.definition.Def.{Def}
use Rattle.fish_registry.specs.Changing.{HasLoadedTail, IsAtTail}
use Rattle.fish_registry.specs.Knowing.{IsWaiting}
use Rattle.fish_registry.specs.Looking.{at_lane}
use Rattle.fish_registry.specs.declared.outcome.Poll.{Poll}
use Rattle.fish_registry.specs.declared.outcome.Poll.TheVariants as poll
use Rattle.fish_registry.specs.declared.outcome.RegRefusal.{RegRefusal}
use Rattle.fish_registry.specs.declared.outcome.RegRefusal.TheVariants as refusal
use Rattle.fish_registry.specs.declared.registrar.Registrar.{Registrar}
use Rattle.fish_registry.specs.declared.registrar.Waiting.{Waiting}
use Rattle.fish_rule.specs.Clocks.{HasLoaded}
use Rattle.fish_rule.specs.declared.view.Noted.TheVariants.{Epoch}
use Rattle.fish_rule.specs.declared.view.View.{View}

-- a refusal of the catalogue's
abbrev pub refusal_of : CatRefusal → RegRefusal
refusal_of found.NameActive = refusal.NameActive
refusal_of found.TooManyActive = refusal.TooManyActive
refusal_of found.TooManyDefinitions = refusal.TooManyDefinitions
refusal_of found.OutOfMemory = refusal.OutOfMemory
refusal_of found.UnknownName = refusal.UnknownName

-- some source says the definition
abbrev pub IsSaid : Def → Type 0
IsSaid def = (source : List ℕ) × IsAccepted source (definition_of def)

-- no registration waits, and versions are left
pub record MayChange (r : Registrar) (v : View) : Type 0 where
  pub settled : r.waiting ≡ None
  pub few : v.learned.version < 512

-- the definition is the next row, and its registration waits
pub record HasBegunChange (v : View) (r : Registrar) (name : List ℕ) (def : Def) (u : View) (s : Registrar) (id : ℕ)
    : Type 0 where
  pub is_id : id ≡ length r.catalog
  pub rows : s.catalog ≡ r.catalog ++ new_row (length r.catalog) name (definition_text (definition_of def)) ∷ []
  pub waits : s.waiting ≡ Some (record { id = id; version = suc v.learned.version; lane = 2 })
  pub version : u.learned.version ≡ suc v.learned.version
  pub tail : u.tail ≡ v.tail

-- what a look at the lanes tells, and what it leaves: an index that begins now begins at the count of the tail, which
-- is all that the pass has counted; else the rows stay, and so does the registration that waits
abbrev pub PollSays : View → Registrar → View → Registrar → Poll → Type 0
PollSays v r u s poll.Idle = (r.waiting ≡ None) × (s ≡ r) × (u ≡ v)
PollSays v r u s (poll.NotYet seat version) = (w : Waiting) × (r.waiting ≡ Some w)
    × (s.waiting ≡ Some (at_lane w seat)) × (s.catalog ≡ r.catalog)
    × HasLoaded v.clock u.clock (Epoch seat) (suc version) × (version < w.version)
PollSays v r u s (poll.Bound id from) = IsWaiting r id × (s.waiting ≡ None) × (s.catalog ≡ with_from r.catalog id from)
    × HasLoadedTail v u from × (u.learned.count ≡ from)

-- no lane was found at an older version
abbrev pub IsPollClear : Poll → Type 0
IsPollClear poll.Idle = ⊤
IsPollClear (poll.NotYet seat version) = ⊥
IsPollClear (poll.Bound id from) = ⊤

-- an index that begins now begins at the tail that the pass knew
abbrev pub BeginsAtTail : View → Poll → Type 0
BeginsAtTail v (poll.Bound id from) = IsAtTail v from
BeginsAtTail v x = ⊤

-- a refusal of an end
abbrev pub IsOfEnds : RegRefusal → Type 0
IsOfEnds (refusal.Rolling id) = ⊤
IsOfEnds refusal.TooManyVersions = ⊤
IsOfEnds refusal.UnknownName = ⊤
IsOfEnds e = ⊥
