-- What the steps of a run leave. Private clauses speak of it.
use Rattle.std.specs.Prelude.{ℕ, ◌≡◌, ◌≢◌, ◌⊎◌, ◌<◌, ◌≤◌, List, [], ◌∷◌, ◌++◌, Bool, false, true, Option, Some, None}
use Rattle.std.specs.Prelude.{IfSome, length, slice_get}
use Rattle.fish_disk.specs.declared.disk.Disk.{Ghosts as Disks}
use Rattle.fish_script.specs.Laws.{Pairs}
use Rattle.fish_lanes.specs.Blocks.{AreEnded, HasRegistered, IsBlockSpan, NameMarks, SaysBlock}
use Rattle.fish_lanes.specs.Controlling.{IsCheckpointAtMost}
use Rattle.fish_lanes.specs.Outcome.{HandsBack, IsFullIn, LanesSayPlans, SayFullLast, SaysShutBy}
use Rattle.fish_lanes.specs.Ending.{EndsAlone}
use Rattle.fish_lanes.specs.Gains.{WasShut}
use Rattle.fish_lanes.specs.Plans.{KnowsListed}
use Rattle.fish_lanes.specs.Registering.{Registry, registry_of}
use Rattle.fish_lanes.specs.Spans.{Span}
use Rattle.fish_lanes.specs.declared.block.BlockEnd.{BlockEnd}
use Rattle.fish_lanes.specs.declared.lane.Lane.{Lane}
use Rattle.fish_lanes.specs.declared.work.LaneFault.TheVariants as cause
use Rattle.fish_outside.specs.Content.{Files, Gained, GainedPart}
use Rattle.fish_registry.specs.declared.registrar.Registrar.{Registrar}
use Rattle.fish_report.specs.ReportText.{report_text}
use Rattle.fish_report.specs.declared.item.Item.{Item}
use Rattle.fish_rule.specs.Views.{AllOf}
use Rattle.fish_rule.specs.declared.view.Shut.{Shut}
use Rattle.fish_rule.specs.declared.view.View.{View}
use Rattle.fish_run.specs.Blocks.{AreAcknowledged, AreFullSince, AreInOne, Block, HasFoundFull, Round}
use Rattle.fish_run.specs.Blocks.{SaysCut, SaysFirst}
use Rattle.fish_run.specs.within.Blocks.{AreMarked}
use Rattle.fish_run.specs.Blocks.{SaysOne, SaysOneLane, SaysRounds, after_round, after_rounds, begun_anew, first_items}
use Rattle.fish_run.specs.Blocks.{in_table, last_table, left_table, rounds_of, with_cut}
use Rattle.fish_run.specs.CommitRows.{by_roll, last_rows, recent_rows, rows_through}
use Rattle.fish_run.specs.Faults.{IsFirstFault, IsRunUndamaged}
use Rattle.fish_run.specs.Ran.{AreFirst, AreNextOf, IsBlockOf}
use Rattle.fish_run.specs.Reports.{are_refused, report_of}
use Rattle.fish_run.specs.within.Runs.{CanClose}
use Rattle.fish_run.specs.Tables.{AreRenewed, table_by}
use Rattle.fish_run.specs.within.Tables.{table_after}
use Rattle.fish_run.specs.declared.fault.RunFault.TheVariants as fault
use Rattle.fish_run.specs.declared.lasting.Stopped.{Stopped}
use Rattle.fish_script.specs.declared.script.Block as script
use Rattle.fish_store.specs.CommitRows.{LeavesRows}
use Rattle.fish_store.specs.Points.{point_at}
use Rattle.fish_store.specs.Sound.{IsSoundBehind, Point, StoreRuns}
use Rattle.fish_whole.specs.Whole.{Whole, WillHold}

-- ---- one round

-- a round ran, and no lane stopped at a fault: after it the log has so many numbers, and the registry is this; what
-- shuts the pass had shut it before, and then still does, or an item of the round tells of it; an item that tells of a
-- claim leaves it shut; and no checkpoint that it tells has more entries than the last commit
pub record HasRunOne (Past : Whole → Type 0) (count : ℕ) (fresh : Bool) (full : Option Shut) (u : View) (r t : Registry)
    (from to : ℕ)
    (b : Round) : Type 0 where
  pub fresh_is : b.fresh ≡ fresh
  pub full_is : b.span.full ≡ full
  pub shut : (c : Shut) → u.shut ≡ Some c → (full ≡ Some c) ⊎ IsFullIn b.lanes c.line c.lines c.end
  pub keeps : (c : Shut) → full ≡ Some c → u.shut ≡ Some c
  pub shuts : (line lines end : ℕ) → IsFullIn b.lanes line lines end → WasShut u
  pub begins : b.span.from ≡ from
  pub ends : b.span.to ≡ to
  pub tells : (past : Whole) → Past past → WillHold past u (λ w. SaysOne w from r b)
  pub marks : NameMarks u b.lanes
  pub committed : AllOf (IsCheckpointAtMost count) (first_items b.lanes)
  pub after : t ≡ after_round r b

-- a round ran, and a lane stopped at a fault
pub record HasCutOne (Past : Whole → Type 0) (count : ℕ) (fresh : Bool) (full : Option Shut) (u : View) (r : Registry)
    (from to : ℕ)
    (b : Round) : Type 0 where
  pub fresh_is : b.fresh ≡ fresh
  pub full_is : b.span.full ≡ full
  pub begins : b.span.from ≡ from
  pub ends : b.span.to ≡ to
  pub tells : (past : Whole) → Past past → WillHold past u (λ w. SaysCut w from r b)
  pub marks : NameMarks u b.lanes
  pub committed : AllOf (IsCheckpointAtMost count) (first_items b.lanes)

-- what a round left after a number of the log: what its lanes tell is so of each whole that the control pass may leave
-- later, after such a past
pub record Leaves (Past : Whole → Type 0) (count : ℕ) (v u : View) (r s : Registrar) (from : ℕ) (lanes : List Lane)
    (end : BlockEnd)
    : Type 0 where
  pub some : 0 < length lanes
  pub begins : EndsAlone v from
  pub tells : (past : Whole) → Past past → (k : Span) → IsBlockSpan v u end.to k → k.lanes ≡ length lanes
      → (k.from ≤ k.to) × WillHold past u (λ w. SaysBlock w k lanes)
  pub has : (x : Lane) → slice_get lanes 0 ≡ Some x → HasRegistered v u r s x end
  pub ended : AreEnded lanes
  pub marks : NameMarks u lanes
  pub alone : (x : Lane) → lanes ≡ x ∷ [] → SaysOneLane r.catalog v.shut from x
  pub shuts : SaysShutBy v u lanes
  pub last : SayFullLast v lanes
  pub plans : LanesSayPlans (KnowsListed u) (registry_of v r) s.catalog from lanes
  pub committed : AllOf (IsCheckpointAtMost count) (first_items lanes)
  pub left : HandsBack v u lanes
  pub stays : WasShut v → end.to ≤ from

-- no lane stopped at a fault
abbrev pub AreWholeLanes : List Lane → Type 0
AreWholeLanes lanes = (i : ℕ) (x : Lane) → slice_get lanes i ≡ Some x → x.fault ≡ cause.None

-- ---- rounds

-- no table begins at a lower number after these rounds; where it begins at the same one, it is the same table, and none
-- was begun for one of them nor after them
pub record IsTableAfter (v u : View) (rounds : List Round) (fresh : Bool) : Type 0 where
  pub rises : v.about.number ≤ u.about.number
  pub same : u.about.number ≡ v.about.number → (u.about ≡ v.about) × AreInOne rounds × (fresh ≡ false)

-- from one moment of the store to a later one these rounds ran, each of them without a fault, where the log had so many
-- numbers and the registry was this; then it has so many, and this one; and perhaps a new table was begun since
pub record HasRounds {D : Type 0} (disks : Disks D) (p q : Point D) (from : ℕ) (r : Registry) (rounds : List Round)
    (fresh : Bool) (to : ℕ) (t : Registry) : Type 0 where
  pub runs : StoreRuns disks p q (λ w. SaysRounds w from r rounds to)
  pub after : t ≡ begun_anew fresh to (after_rounds r rounds)
  pub committed : AreAcknowledged q.flusher.count rounds
  pub fulls : (before : List Round) → HasFoundFull before p.view.shut → AreFullSince before rounds
  pub full : (before : List Round) → HasFoundFull before p.view.shut
      → HasFoundFull (in_table fresh (last_table before rounds)) q.view.shut
  pub marks : (before : List Round) → AreMarked p.view before
      → AreMarked q.view (in_table fresh (last_table before rounds))
  pub rows : LeavesRows disks p.disk q.disk (λ was. by_roll fresh (after_rounds r rounds) (recent_rows r rounds was))
      (rows_through r rounds)
  pub begins : q.view.about.number ≡ table_by fresh to (table_after p.view.about.number rounds)
  pub shape : q.shape ≡ p.shape
  pub table : IsTableAfter p.view q.view rounds fresh

-- the same, and perhaps one more ran, which was cut; after them the log has so many numbers
pub record HasRunRounds {D : Type 0} (disks : Disks D) (p q : Point D) (from : ℕ) (r : Registry) (rounds : List Round)
    (fresh : Bool) (cut : Option Round) (end : ℕ) : Type 0 where
  pub runs : StoreRuns disks p q (λ w. SaysFirst w from r rounds cut end)
  pub committed : AreAcknowledged q.flusher.count (with_cut rounds cut)
  pub fulls : (before : List Round) → HasFoundFull before p.view.shut → AreFullSince before (with_cut rounds cut)
  pub marks : (before : List Round) → AreMarked p.view before → AreMarked q.view (left_table fresh before rounds cut)
  pub rows : LeavesRows disks p.disk q.disk (last_rows r (with_cut rounds cut)) (rows_through r (with_cut rounds cut))
  pub ends : EndsAlone q.view end
  pub shape : q.shape ≡ p.shape
  pub table : IsTableAfter p.view q.view (with_cut rounds cut) fresh

-- ---- why a run stops

-- a fault stopped rounds of a block, before a next one or in it, when the store was at a moment: it is there still, and
-- may be closed, unless memory ran out for its table
pub record StopsRounds {D : Type 0} (disks : Disks D) (p : Point D) (disk : D) (from : ℕ) (r : Registry)
    (rounds : List Round) (cut : Option Round) (s : Stopped) : Type 0 where
  pub at : Point D
  pub disk_is : at.disk ≡ disk
  pub store : IfSome s.store (λ x. (at ≡ point_at disk x) × CanClose x)
  pub lost : s.store ≡ None → s.why ≡ fault.Memory
  pub fresh : Bool
  pub end : ℕ
  pub cut_by : IfSome cut (λ b. IsFirstFault b.lanes s.why)
  pub ran : HasRunRounds disks p at from r rounds fresh cut end
  pub whole : (past : Whole) → IsSoundBehind disks p (disks.content disk) past → IsRunUndamaged s.why

-- ---- blocks

-- these blocks ran, each of them without a fault, and were written
pub record WritesBlocks {D : Type 0} (disks : Disks D) (p q : Point D) (from : ℕ) (r : Registry) (begin : Item)
    (told : Option Files) (text : List script.Block) (to : ℕ) (t : Registry) (old new : Option (List ℕ))
    (refused : Bool) : Type 0 where
  pub blocks : List Block
  pub are : Pairs (IsBlockOf told) text blocks
  pub ran : HasRounds disks p q from r (rounds_of blocks) false to t
  pub renewed : AreRenewed p.view.about.number (rounds_of blocks) false false
  pub written : Gained old new (report_text (report_of begin blocks))
  pub refused_is : refused ≡ are_refused blocks

-- all blocks ran, and their items were written; the rows of the definitions are those that they tell
pub record RunsAll {D : Type 0} (disks : Disks D) (p q : Point D) (from : ℕ) (r : Registry) (begin : Item)
    (told : Option Files) (text : List script.Block) (old new : Option (List ℕ)) (refused : Bool) (end : ℕ)
    : Type 0 where
  pub blocks : List Block
  pub all : Pairs (IsBlockOf told) text blocks
  pub ran : HasRunRounds disks p q from r (rounds_of blocks) false None end
  pub rows_are : q.rows ≡ (after_rounds r (rounds_of blocks)).rows
  pub renewed : AreRenewed p.view.about.number (rounds_of blocks) false false
  pub written : Gained old new (report_text (report_of begin blocks))
  pub refused_is : refused ≡ are_refused blocks

-- a fault stopped them
pub record RunsSome {D : Type 0} (disks : Disks D) (p : Point D) (disk : D) (from : ℕ) (r : Registry) (begin : Item)
    (told : Option Files) (text : List script.Block) (old new : Option (List ℕ)) (refused : Bool) (s : Stopped)
    : Type 0 where
  pub blocks : List Block
  pub part : List Round
  pub cut : Option Round
  pub are : AreFirst told text blocks
  pub next : AreNextOf told text (length blocks) (with_cut part cut)
  pub stops : StopsRounds disks p disk from r (rounds_of blocks ++ part) cut s
  pub renewed : AreRenewed p.view.about.number (with_cut (rounds_of blocks ++ part) cut) true false
  pub written : GainedPart old new (report_text (report_of begin blocks))
  pub refused_is : refused ≡ are_refused blocks
  pub exact : s.why ≢ fault.Output → s.why ≢ fault.Memory → Gained old new (report_text (report_of begin blocks))
  pub input : s.why ≡ fault.Input → cut ≡ None
