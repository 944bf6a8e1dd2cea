-- A block whose lanes are given their statements in turn, over files that are told: before it, at its end, and where a
-- fault stopped it.
use Rattle.std.specs.Prelude.{ℕ, ◌≡◌, ◌+◌, ◌≤◌, List, [], Option, length}
use Rattle.fish_disk.specs.declared.disk.Disk.{Ghosts as Disks}
use Rattle.fish_feed.specs.Queues.{OthersAreFree, AllRunnable, AreIdle, IsQueue, MayEndFeed}
use Rattle.fish_feed.specs.Works.{AreStatementsDone, Triples}
use Rattle.fish_script.specs.Laws.{Pairs}
use Rattle.fish_feed.specs.declared.queue.Queue.{Queue}
use Rattle.fish_lanes.specs.Blocks.{AreLanes, EachLane, IsNewLane}
use Rattle.fish_lanes.specs.declared.block.BlockEnd.{BlockEnd}
use Rattle.fish_lanes.specs.declared.lane.Lane.{Lane}
use Rattle.fish_lanes.specs.declared.work.Work.{Work}
use Rattle.fish_outside.specs.Content.{Files}
use Rattle.fish_run.specs.Blocks.{with_cut}
use Rattle.fish_run.specs.Joins.{nothing_said}
use Rattle.fish_run.specs.within.Going.{EndsRounds, StopsBlock}
use Rattle.fish_run.specs.Rounds.{AreRounds}
use Rattle.fish_run.specs.declared.lasting.Stopped.{Stopped}
use Rattle.fish_run.specs.declared.parts.Ended.{Ended}
use Rattle.fish_run.specs.declared.saying.Said.{Said}
use Rattle.fish_script.specs.declared.script.Statement.{Statement}
use Rattle.fish_store.specs.declared.store.Store.{Store}

-- so many lanes have the numbers from 1 on, and no statement yet
pub record AreNewLanes (count : ℕ) (lanes : List Lane) : Type 0 where
  pub many : length lanes ≡ count
  pub new : EachLane (λ i x. IsNewLane (i + 1) x × (x.works ≡ [])) lanes

-- these lanes may run, one for each queue; they have no statement yet, and have said nothing
pub record AreBegun {F : Type 0} (lanes : List Lane) (queues : List (Queue F)) (said : List Said) : Type 0 where
  pub lanes_are : AreLanes lanes
  pub idle : AreIdle lanes
  pub many : length lanes ≡ length queues
  pub nothing : said ≡ nothing_said lanes

-- there are statements for 1 to 16 lanes, which can be run, and what the first lane alone may hold stands in no other
pub record AreTexts (texts : List (List Statement)) : Type 0 where
  pub some : 1 ≤ length texts
  pub few : length texts ≤ 16
  pub runnable : AllRunnable texts
  pub free : OthersAreFree texts

-- the lanes of these queues were given nothing yet
abbrev pub AreUngiven
    : {F : Type 0} → Option Files → (F → Option (List ℕ)) → List (List Statement) → List (Queue F) → Type 0
AreUngiven told left texts queues = Pairs (λ ss q. IsQueue told left ss [] q) texts queues

-- all that the lanes of these queues are to do was given, and its rounds have ended
pub record EndsParts {D F : Type 0} (disks : Disks D) (disk : D) (s : Store) (from : ℕ) (left : F → Option (List ℕ))
    (before : Option Files) (queues : List (Queue F)) (disk' : D) (now : Option Files) (t : Store) (end : BlockEnd)
    (said : List Said) : Type 0 where
  pub given : List (List Work)
  pub rounds : EndsRounds disks disk s from disk' t end said given
  pub done : (texts : List (List Statement)) → AreUngiven before left texts queues
      → Pairs (AreStatementsDone now) texts given

abbrev pub EndsBlock : {D F : Type 0} → Disks D → D → Store → ℕ → (F → Option (List ℕ)) → Option Files → List (Queue F)
    → D → Option Files → Ended → Type 0
EndsBlock disks disk s from left before queues disk' now e =
    EndsParts disks disk s from left before queues disk' now e.store e.end e.said.items

-- a fault stopped them, after what was given so far
pub record StopsParts {D F : Type 0} (disks : Disks D) (disk : D) (s : Store) (from : ℕ) (left : F → Option (List ℕ))
    (before : Option Files) (queues : List (Queue F)) (disk' : D) (now : Option Files) (queues' : List (Queue F))
    (e : Stopped) : Type 0 where
  pub given : List (List Work)
  pub stops : StopsBlock disks disk s from given disk' e
  pub may : (texts : List (List Statement)) → AreUngiven before left texts queues
      → Triples (MayEndFeed now left) texts given queues'

-- ---- a block with these statements

-- it came to its end, and all of them were done
pub record EndsLanes {D : Type 0} (disks : Disks D) (disk : D) (s : Store) (from : ℕ) (texts : List (List Statement))
    (disk' : D) (told : Option Files) (e : Ended) : Type 0 where
  pub given : List (List Work)
  pub rounds : EndsRounds disks disk s from disk' e.store e.end e.said.items given
  pub done : Pairs (AreStatementsDone told) texts given

-- a fault stopped it, perhaps after some of its rounds
pub record StopsLanes {D : Type 0} (disks : Disks D) (disk : D) (s : Store) (from : ℕ) (texts : List (List Statement))
    (disk' : D) (told : Option Files) (e : Stopped) : Type 0 where
  pub given : List (List Work)
  pub stops : StopsBlock disks disk s from given disk' e
  pub are : AreRounds told texts (with_cut stops.rounds stops.cut)
