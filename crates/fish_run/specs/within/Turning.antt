-- From a round of a block to the next one.
use Rattle.std.specs.Prelude.{ℕ, ◌≡◌, ◌≢◌, ◌⊎◌, ◌+◌, ◌-◌, ◌*◌, ◌<◌, List, [], Bool, true, false, Option, Some, None}
use Rattle.std.specs.Prelude.{length, slice_get}
use Rattle.std.specs.List.{list_any}
use Rattle.fish_disk.specs.declared.disk.Disk.{Ghosts as Disks}
use Rattle.fish_feed.specs.Queues.{AreIdle}
use Rattle.fish_lanes.specs.Blocks.{AreLanes, EachLane}
use Rattle.fish_lanes.specs.declared.lane.Lane.{Lane}
use Rattle.fish_lanes.specs.declared.work.Work.{Work}
use Rattle.fish_report.specs.declared.item.Item.{Item}
use Rattle.fish_report.specs.declared.item.Item.TheVariants as item
use Rattle.fish_rule.specs.Passes.{view}
use Rattle.fish_rule.specs.declared.view.Shut.{Shut}
use Rattle.fish_rule.specs.declared.view.View.{View}
use Rattle.fish_run.specs.within.Rolls.{RollsOn}
use Rattle.fish_run.specs.within.Runs.{CanGoOn}
use Rattle.fish_run.specs.declared.lasting.Stopped.{Stopped}
use Rattle.fish_run.specs.declared.rounds.RoundStart.{RoundStart}
use Rattle.fish_run.specs.declared.rounds.Turned.{Turned}
use Rattle.fish_run.specs.declared.saying.Said.{Said}
use Rattle.fish_store.specs.declared.store.Store.{Store}
use Rattle.fish_run.specs.within.Going.{EndsRounds, GoesIn, AreLanesReady, StopsBlock}

-- ---- a full table

-- the item tells that the table is full
abbrev pub says_full : Item → Bool
says_full (item.IngestFull file line lines end stored refused) = true
says_full x = false

-- no item of a lane does
abbrev pub FindNoneFull : List Lane → Type 0
FindNoneFull lanes = EachLane (λ i x. list_any says_full x.items ≡ false) lanes

-- a lane hands statements back, or tells so
abbrev pub AsksMore : List Lane → Type 0
AsksMore lanes = (i : ℕ) × (x : Lane) × (slice_get lanes i ≡ Some x)
    × ((x.left ≢ []) ⊎ (list_any says_full x.items ≡ true))

-- ---- a round

-- the store is in the table of before, or in a new one
abbrev pub IsRenewed : {D : Type 0} → Disks D → D → Store → ℕ → Bool → D → Store → Type 0
IsRenewed disks disk s from false disk' t = (disk' ≡ disk) × (t ≡ s)
IsRenewed disks disk s from true disk' t = RollsOn disks disk s from disk' t

-- 1 where the pass isn't shut
abbrev pub unshut_by : Option Shut → ℕ
unshut_by None = 1
unshut_by (Some s) = 0

abbrev pub unshut : View → ℕ
unshut v = unshut_by v.shut

-- what falls from round to round: the numbers that are left for a table to begin at, and whether this one was found
-- full
abbrev pub tables_left : Store → ℕ
tables_left s = 2 * (4294967296 - s.log.key.number) + unshut (view s.pass)

-- lanes did a round, and go on with another or came to their ends
pub record TurnsOn {D : Type 0} (disks : Disks D) (disk : D) (a : RoundStart) (lanes : List Lane) (said : List Said)
    (disk' : D) (lanes' : List Lane) (said' : List Said) (t : Turned) : Type 0 where
  pub go : CanGoOn disks.images disk' t.next.store t.next.from
  pub lanes_are : AreLanes lanes'
  pub many : length lanes' ≡ length said'
  pub same : length lanes' ≡ length lanes
  pub less : t.more ≡ true → tables_left t.next.store < tables_left a.store
  pub idle : t.more ≡ false → AreIdle lanes'
  pub goes : (d : D) (s : Store) (from : ℕ) (now given : List (List Work))
      → AreLanesReady disks d s from disk a lanes said now given
      → GoesIn disks d s from disk' t.next lanes' said' given
  pub ends : t.more ≡ false → (d : D) (s : Store) (from : ℕ) (now given : List (List Work))
      → AreLanesReady disks d s from disk a lanes said now given
      → EndsRounds disks d s from disk' t.next.store t.end said' given

-- the same of rounds up to one after which none goes on
pub record TurnsAll {D : Type 0} (disks : Disks D) (disk : D) (a : RoundStart) (lanes : List Lane) (said : List Said)
    (disk' : D) (lanes' : List Lane) (said' : List Said) (t : Turned) : Type 0 where
  pub go : CanGoOn disks.images disk' t.next.store t.next.from
  pub lanes_are : AreLanes lanes'
  pub many : length lanes' ≡ length said'
  pub same : length lanes' ≡ length lanes
  pub idle : AreIdle lanes'
  pub goes : (d : D) (s : Store) (from : ℕ) (now given : List (List Work))
      → AreLanesReady disks d s from disk a lanes said now given
      → GoesIn disks d s from disk' t.next lanes' said' given
  pub ends : (d : D) (s : Store) (from : ℕ) (now given : List (List Work))
      → AreLanesReady disks d s from disk a lanes said now given
      → EndsRounds disks d s from disk' t.next.store t.end said' given

-- a fault stopped them
abbrev pub StopsTurn : {D : Type 0} → Disks D → D → RoundStart → List Lane → List Said → D → Stopped → Type 0
StopsTurn disks disk a lanes said disk' e = (d : _) (s : Store) (from : ℕ) (now given : List (List Work))
    → AreLanesReady disks d s from disk a lanes said now given
    → StopsBlock disks d s from given disk' e
