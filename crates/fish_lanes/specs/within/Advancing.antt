-- How far the statements of a lane are done.
use Rattle.std.specs.Prelude.{ℕ, ◌≡◌, ◌≢◌, ◌⊎◌, ◌+◌, ◌≤◌, List, [], ◌∷◌, ◌++◌, Option, Some, None, Result, Ok, Err}
use Rattle.std.specs.Prelude.{Bool, false, length, take}
use Rattle.fish_cold.specs.declared.cold.Cold.{Cold}
use Rattle.fish_lanes.specs.within.Doing.{IsItem, IsStopped}
use Rattle.fish_lanes.specs.Full.{IsNotFull}
use Rattle.fish_lanes.specs.within.Full.{SaysLast}
use Rattle.fish_lanes.specs.Gains.{WasShut}
use Rattle.fish_lanes.specs.within.Gains.{Gains}
use Rattle.fish_lanes.specs.within.Pasts.{WasHere, anywhere}
use Rattle.fish_lanes.specs.within.Published.{IsPublished}
use Rattle.fish_lanes.specs.Records.{LaneRow, contents_of_rows}
use Rattle.fish_lanes.specs.Registering.{Registry, after_all}
use Rattle.fish_lanes.specs.within.Running.{CanBegin, HasRun, IsFullItem, SayPlans}
use Rattle.fish_lanes.specs.Seen.{IsShown, Shown, settled, shown_by}
use Rattle.fish_lanes.specs.within.Sizes.{SaysShut}
use Rattle.fish_lanes.specs.Spans.{IsAnswerItem, Span, answers, span_after}
use Rattle.fish_lanes.specs.within.Spans.{IsWithinSpan, made_by_all}
use Rattle.fish_lanes.specs.Telling.{SaysItem, StandFrom, content_of, count_of, told_to}
use Rattle.fish_lanes.specs.declared.lane.Lane.{Lane}
use Rattle.fish_lanes.specs.declared.lane.LanePass.{LanePass}
use Rattle.fish_lanes.specs.declared.statements.Stop.{Stop}
use Rattle.fish_lanes.specs.declared.work.LaneFault.{LaneFault}
use Rattle.fish_lanes.specs.declared.work.LaneFault.TheVariants as fault
use Rattle.fish_lanes.specs.declared.work.Work.{Work}
use Rattle.fish_report.specs.declared.item.Item.{Item}
use Rattle.fish_rule.specs.Logs.{Learns}
use Rattle.fish_rule.specs.Passes.{view}
use Rattle.fish_rule.specs.Views.{AllOf, Among}
use Rattle.fish_rule.specs.declared.table.Log.{Log}
use Rattle.fish_rule.specs.declared.view.Key.{Key}
use Rattle.fish_rule.specs.declared.view.View.{View}
use Rattle.fish_whole.specs.Whole.{Whole}
use Rattle.fish_whole.specs.within.Whole.{MustHoldUpTo}

-- all that items show
abbrev pub shown_in : List Item → List Shown
shown_in [] = []
shown_in (x ∷ items) = shown_by x ++ shown_in items

-- what items tell that are as many as the statements
abbrev pub SaysAll : Whole → Span → List LaneRow → List Shown → List LaneRow → List Work → List Item → Type 0
SaysAll z s before shown rows [] [] = rows ≡ []
SaysAll z s before shown rows [] (x ∷ items) = ⊥
SaysAll z s before shown rows (w ∷ works) [] = ⊥
SaysAll z s before shown rows (w ∷ works) (x ∷ items) = (mine : List LaneRow) × (rest : List LaneRow)
    × (rows ≡ mine ++ rest) × (contents_of_rows mine ≡ take (count_of x) (content_of w))
    × SaysItem z s before shown w x
    × StandFrom (told_to x) rest
    × SaysAll z (span_after x s) (before ++ mine) (shown ++ shown_by x) rest works items

-- the item tells of no number from this one on
abbrev pub EndsBy : ℕ → Item → Type 0
EndsBy count x = told_to x ≤ count

-- the statements so far are told by as many items, after each such past
pub record HasAnswered (Past : Whole → Type 0) (v u : View) (works : List Work) (items : List Item) : Type 0 where
  pub rows : List LaneRow
  pub gains : Gains v u rows
  pub tells : (past : Whole) → Past past → (s : Span) → IsWithinSpan v u s → s.full ≡ v.shut
      → MustHoldUpTo past u s.to (λ w. SaysAll w s [] [] rows works items)
  pub shown : (n : ℕ) (s : Shown) → Among s (shown_in items) → IsShown n s → u.about.number ≤ n → IsPublished u n
  pub settles : (m : ℕ) → Among (settled m) (shown_in items) → m ≤ u.learned.settled
  pub ends : AllOf (EndsBy u.learned.count) items
  pub size : length items ≡ length works
  pub full : AllOf (IsFullItem u) items
  pub versions : v.learned.version + made_by_all items ≤ u.learned.version
  pub shuts : SaysShut v u items

-- so many items answer the statements so far, and the definitions are the same after them
pub record HasSaid (v u : View) (works : List Work) (items : List Item) : Type 0 where
  pub size : length (answers items) ≡ length works
  pub same : (r : Registry) → after_all r items ≡ r
  pub learns : Learns v u
  pub plans : SayPlans v u works items

-- its first statements are told by its items, one each
pub record IsWorkSoFar (Past : Whole → Type 0) (v u : View) (works : List Work) (items : List Item) : Type 0 where
  pub told : HasAnswered Past v u (take (length items) works) (answers items)
  pub said : HasSaid v u (take (length items) works) items
  pub few : length items ≤ length works

-- it is so far, or it stopped at a fault
abbrev pub IsOn : (Whole → Type 0) → View → View → List Work → List Item → LaneFault → Type 0
IsOn Past v u works items fault.None = IsWorkSoFar Past v u works items
IsOn Past v u works items fault.Memory = HasRun Past v u works items fault.Memory × SayPlans v u works items
IsOn Past v u works items fault.Disk = HasRun Past v u works items fault.Disk × SayPlans v u works items
IsOn Past v u works items (fault.Damaged n) = HasRun Past v u works items (fault.Damaged n) × SayPlans v u works items

-- so it is whatever a disk has before the table
abbrev pub IsOnAnyhow : View → View → List Work → List Item → LaneFault → Type 0
IsOnAnyhow v u works items why = (content : Option (List ℕ)) (k : Key) (cold : Cold) (later : Option (List ℕ))
    → IsOn (WasHere content k cold later) v u works items why

-- whichever pass had begun its statements, and whatever a disk has before the table, it goes on from where they were
abbrev pub GoesOnBy : View → View → List Work → List Item → List Item → LaneFault → Type 0
GoesOnBy v u works old new why =
    (start : View) (content : Option (List ℕ)) (k : Key) (cold : Cold) (later : Option (List ℕ))
    → IsWorkSoFar (WasHere content k cold later) start v works old
    → IsOn (WasHere content k cold later) start u works new why

-- the same after such pasts alone
abbrev pub FinishesBy : (Whole → Type 0) → View → View → List Work → List Item → List Item → LaneFault → Type 0
FinishesBy Past v u works old new why = (start : View) → IsWorkSoFar Past start v works old
    → IsOn Past start u works new why

-- the next statement has its item, which is so whatever stood before the table; or it has none
abbrev pub HasNextItem : View → View → Work → List Item → List Item → Result (Unit {0}) Stop → Type 0
HasNextItem v u w old new (Ok done) = (x : Item) × (new ≡ old ++ x ∷ []) × IsItem anywhere v u w x
HasNextItem v u w old new (Err why) = (new ≡ old) × IsStopped v u w why

-- a lane stops without its disk where memory runs out, and only then
abbrev pub IsShortFault : LaneFault → Type 0
IsShortFault why = (why ≡ fault.None) ⊎ (why ≡ fault.Memory)

-- the lane has its pass, with the same number and statements, and went on, whatever its disk tells
pub record HasGone (log : Log) (old new : Lane) : Type 0 where
  pub before : LanePass
  pub before_is : old.seat ≡ Some before
  pub after : LanePass
  pub after_is : new.seat ≡ Some after
  pub can : CanBegin log after.pass
  pub works : new.works ≡ old.works
  pub number : new.number ≡ old.number
  pub left : new.left ≡ old.left
  pub on : GoesOnBy (view before.pass) (view after.pass) old.works old.items new.items new.fault
  pub last : (view before.pass).shut ≡ None → AllOf IsNotFull old.items → SaysLast (view after.pass) new.items new.fault
  pub short : IsShortFault new.fault
  pub more : length old.items ≤ length new.items
  pub answers : AllOf IsAnswerItem old.items → AllOf IsAnswerItem new.items

-- it has no statement without an item, but for those that it hands back since it found the log full, unless it was so
-- when the block began; or it stopped at a fault; after each such past, whichever pass had begun it
pub record HasFinished (Past : Whole → Type 0) (full : Bool) (log : Log) (old new : Lane) : Type 0 where
  pub before : LanePass
  pub before_is : old.seat ≡ Some before
  pub after : LanePass
  pub after_is : new.seat ≡ Some after
  pub can : CanBegin log after.pass
  pub works : old.works ≡ new.works ++ new.left
  pub number : new.number ≡ old.number
  pub run : (start : View) → IsOnAnyhow start (view before.pass) old.works old.items old.fault
      → HasRun Past start (view after.pass) new.works new.items new.fault
      × SayPlans start (view after.pass) new.works new.items
  pub cut : AllOf IsAnswerItem old.items → new.left ≢ [] → (new.fault ≡ fault.None) × (full ≡ false)
      × WasShut (view after.pass)
  pub last : full ≡ false → SaysLast (view before.pass) old.items old.fault
      → SaysLast (view after.pass) new.items new.fault
  pub answers : AllOf IsAnswerItem old.items → AllOf IsAnswerItem new.items
