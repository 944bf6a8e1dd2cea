-- How the rounds of a block go on.
use Rattle.std.specs.Prelude.{ℕ, ◌≡◌, ◌⊎◌, ◌++◌, List, [], ◌∷◌, Bool, true, false, Option, Some, None, length, ⊤}
use Rattle.fish_disk.specs.declared.disk.Disk.{Ghosts as Disks}
use Rattle.fish_feed.specs.Queues.{both}
use Rattle.fish_feed.specs.Works.{AreAnewAfterFirst, Triples}
use Rattle.fish_script.specs.Laws.{Pairs}
use Rattle.fish_lanes.specs.Blocks.{IsNewLane}
use Rattle.fish_lanes.specs.Controlling.{bound_items}
use Rattle.fish_lanes.specs.Registering.{registry_of}
use Rattle.fish_lanes.specs.declared.block.BlockEnd.{BlockEnd}
use Rattle.fish_lanes.specs.declared.block.Boundary.{Boundary}
use Rattle.fish_lanes.specs.declared.lane.Lane.{Lane}
use Rattle.fish_lanes.specs.declared.work.Work.{Work}
use Rattle.fish_report.specs.declared.item.Item.{Item}
use Rattle.fish_rule.specs.Passes.{view}
use Rattle.fish_run.specs.Blocks.{Round, with_cut}
use Rattle.fish_run.specs.Reports.{end_of_rounds, first_number}
use Rattle.fish_run.specs.Joins.{block_said, goes_on, lanes_after, said_after}
use Rattle.fish_run.specs.Rounds.{AreAll, FollowOn, GoesOnWith, IsCutFile, IsRestOfWorks, given_in}
use Rattle.fish_run.specs.within.Runs.{CanGoOn}
use Rattle.fish_run.specs.within.Steps.{HasRounds, StopsRounds}
use Rattle.fish_run.specs.Tables.{AreRenewed}
use Rattle.fish_run.specs.Works.{AreNumbered, to_do}
use Rattle.fish_run.specs.declared.fault.RunFault.TheVariants as fault
use Rattle.fish_run.specs.declared.lasting.Stopped.{Stopped}
use Rattle.fish_run.specs.declared.rounds.RoundStart.{RoundStart}
use Rattle.fish_run.specs.declared.saying.Said.{Said}
use Rattle.fish_store.specs.Points.{point_at}
use Rattle.fish_store.specs.declared.store.Store.{Store}

-- ---- a lane between two rounds

-- the rest of its last file, if it goes on with one
abbrev pub RestOf : Lane → Option Work → Type 0
RestOf x None = IsCutFile x → ⊥
RestOf x (Some w) = IsRestOfWorks x (w ∷ x.left)

-- what it said is kept, and it has no item, and the statements that it goes on with
pub record StepsLane (full fresh : Bool) (bound : List Item) (s t : Said) (x y : Lane) : Type 0 where
  pub said : t ≡ record s { items = said_after fresh (goes_on x.works) s.items bound x.items }
  pub next : GoesOnWith full x (to_do y)
  pub new : IsNewLane x.number y

-- so it is of all of them
pub record HasStepped (full fresh : Bool) (bound : Option Boundary) (said said' : List Said)
    (lanes lanes' : List Lane) : Type 0 where
  pub said_are : said' ≡ lanes_after fresh (bound_items bound) said lanes
  pub next : Pairs (λ x y. GoesOnWith full x (to_do y) × IsNewLane x.number y) lanes lanes'

-- ---- the rounds of a block

-- over these rounds lanes were given this
abbrev pub WereGiven : List (List Work) → List Round → Type 0
WereGiven given [] = ⊤
WereGiven given (a ∷ rounds) = given_in (a ∷ rounds) ≡ given

-- what a lane has and what it is given, the next round of it begins with
abbrev pub HasNextWorks : Lane → List Work → Lane → Type 0
HasNextWorks x given y = (to_do y ≡ x.works ++ given) × ((x.works ≡ []) ⊎ (given ≡ [])) × AreAnewAfterFirst given

-- the rounds so far of a block, from its first moment on: over them lanes were given this, and they go on with what
-- they have; what they said is kept, but for the boundary that was found last
pub record GoesIn {D : Type 0} (disks : Disks D) (disk : D) (s : Store) (from : ℕ) (disk' : D) (a : RoundStart)
    (lanes : List Lane) (said : List Said) (given : List (List Work)) : Type 0 where
  pub rounds : List Round
  pub ran : HasRounds disks (point_at disk s) (point_at disk' a.store) from (registry_of (view s.pass) s.registrar)
      rounds a.fresh a.from (registry_of (view a.store.pass) a.store.registrar)
  pub renewed : AreRenewed (view s.pass).about.number rounds a.fresh a.fresh
  pub follow : FollowOn rounds
  pub were : WereGiven given rounds
  pub next : (b : Round) → b.fresh ≡ a.fresh → AreNumbered b.lanes → Triples HasNextWorks lanes b.given b.lanes
      → FollowOn (rounds ++ b ∷ [])
  pub gives : (b : Round) → length b.given ≡ length lanes → given_in (rounds ++ b ∷ []) ≡ both given b.given
  pub many : length given ≡ length lanes
  pub begins : (b : Round) → b.span.from ≡ a.from → first_number (rounds ++ b ∷ []) ≡ from
  pub saying : (b : Round) → AreNumbered b.lanes → length b.lanes ≡ length lanes
      → block_said (rounds ++ b ∷ []) ≡ lanes_after b.fresh (bound_items a.bound) said b.lanes

-- the same before a round for which lanes were given this, where it is of all that they were given
pub record AreLanesReady {D : Type 0} (disks : Disks D) (disk : D) (s : Store) (from : ℕ) (disk' : D) (a : RoundStart)
    (lanes : List Lane) (said : List Said) (now given : List (List Work)) : Type 0 where
  pub rounds : List Round
  pub ran : HasRounds disks (point_at disk s) (point_at disk' a.store) from (registry_of (view s.pass) s.registrar)
      rounds a.fresh a.from (registry_of (view a.store.pass) a.store.registrar)
  pub renewed : AreRenewed (view s.pass).about.number rounds a.fresh a.fresh
  pub next : (b : Round) → b.fresh ≡ a.fresh → b.given ≡ now → AreNumbered b.lanes
      → Pairs (λ x y. to_do y ≡ x.works) lanes b.lanes → FollowOn (rounds ++ b ∷ [])
  pub gives : (b : Round) → b.given ≡ now → given_in (rounds ++ b ∷ []) ≡ given
  pub many : length given ≡ length lanes
  pub begins : (b : Round) → b.span.from ≡ a.from → first_number (rounds ++ b ∷ []) ≡ from
  pub saying : (b : Round) → AreNumbered b.lanes → length b.lanes ≡ length lanes
      → block_said (rounds ++ b ∷ []) ≡ lanes_after b.fresh (bound_items a.bound) said b.lanes

-- lanes came to their ends and said this, and the store may go on
pub record EndsRounds {D : Type 0} (disks : Disks D) (disk : D) (s : Store) (from : ℕ) (disk' : D) (t : Store)
    (end : BlockEnd) (said : List Said) (given : List (List Work)) : Type 0 where
  pub go : CanGoOn disks.images disk' t end.to
  pub rounds : List Round
  pub follow : FollowOn rounds
  pub were : WereGiven given rounds
  pub all : AreAll rounds
  pub ran : HasRounds disks (point_at disk s) (point_at disk' t) from (registry_of (view s.pass) s.registrar)
      rounds false end.to (registry_of (view t.pass) t.registrar)
  pub renewed : AreRenewed (view s.pass).about.number rounds false false
  pub first : first_number rounds ≡ from
  pub last : end_of_rounds rounds ≡ end
  pub said_are : said ≡ block_said rounds

-- a fault stopped them
pub record StopsBlock {D : Type 0} (disks : Disks D) (disk : D) (s : Store) (from : ℕ) (given : List (List Work))
    (disk' : D) (e : Stopped) : Type 0 where
  pub rounds : List Round
  pub cut : Option Round
  pub follow : FollowOn (with_cut rounds cut)
  pub were : WereGiven given (with_cut rounds cut)
  pub stops : StopsRounds disks (point_at disk s) disk' from (registry_of (view s.pass) s.registrar) rounds cut e
  pub renewed : AreRenewed (view s.pass).about.number (with_cut rounds cut) true false
  pub input : e.why ≡ fault.Input → cut ≡ None
