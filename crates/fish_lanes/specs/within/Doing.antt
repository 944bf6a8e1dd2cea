-- What one statement leaves of its pass.
use Rattle.std.specs.Prelude.{ℕ, ◌≡◌, ◌⊎◌, ◌≤◌, List, [], ◌∷◌, ◌++◌, Option, Some, None, length, map, max, min, take}
use Rattle.fish_cold.specs.declared.cold.Cold.{Cold}
use Rattle.fish_epoch.specs.Definitions.{version_of}
use Rattle.fish_epoch.specs.declared.definitions.Known.{Known}
use Rattle.fish_lang.specs.Canonical.{definition_text}
use Rattle.fish_lang.specs.Definition.{Definition, definition_of}
use Rattle.fish_lang.specs.Language.{IsAccepted}
use Rattle.fish_lanes.specs.within.Gains.{Gains, IsFullBy}
use Rattle.fish_lanes.specs.Loading.{LoadsAcross, LoadsWithin}
use Rattle.fish_lanes.specs.within.Pasts.{IsHere}
use Rattle.fish_lanes.specs.Records.{Content, LaneRow, contents_of_rows}
use Rattle.fish_lanes.specs.Registering.{IsDeregisterItem, IsRegisterItem}
use Rattle.fish_lanes.specs.within.Registering.{KeepsRegistry}
use Rattle.fish_lanes.specs.Sizes.{claim_of}
use Rattle.fish_lanes.specs.within.Sizes.{IsSizeBetween, SaysShut}
use Rattle.fish_lanes.specs.Telling.{AreCountedUpTo, SaysStored, SaysTooLong, content_of, count_of}
use Rattle.fish_lanes.specs.declared.statements.Stop.{Stop}
use Rattle.fish_lanes.specs.declared.statements.Stop.TheVariants as stop
use Rattle.fish_lanes.specs.declared.work.Work.{Work}
use Rattle.fish_lanes.specs.declared.work.Work.TheVariants as work
use Rattle.fish_lines.specs.Resuming.{outcomes_from}
use Rattle.fish_plan.specs.declared.pieces.Piece.{Piece}
use Rattle.fish_psf.specs.Records.{evaluation}
use Rattle.fish_psf.specs.Select.{select}
use Rattle.fish_report.specs.declared.item.Item.{Item}
use Rattle.fish_report.specs.declared.item.Item.TheVariants as item
use Rattle.fish_report.specs.declared.item.ScanCause.{ScanCause}
use Rattle.fish_report.specs.declared.item.ScanCause.TheVariants as cause
use Rattle.fish_rule.specs.LoadSteps.{IsAlone}
use Rattle.fish_rule.specs.Views.{Among}
use Rattle.fish_rule.specs.declared.view.Key.{Key}
use Rattle.fish_rule.specs.declared.view.View.{View}
use Rattle.fish_scan.specs.Matching.{Finds}
use Rattle.fish_scan.specs.Older.{selectable}
use Rattle.fish_scan.specs.Scans.{IsExplained, IsPlanned, IsRefused, OnlyScans}
use Rattle.fish_scan.specs.declared.ask.Answer.{Answer}
use Rattle.fish_scan.specs.declared.ask.Ask.{Ask}
use Rattle.fish_scan.specs.declared.refusal.ScanRefusal.{ScanRefusal}
use Rattle.fish_scan.specs.declared.refusal.ScanRefusal.TheVariants as refusal
use Rattle.fish_value.specs.Limits.{longest_file}
use Rattle.fish_value.specs.declared.field.Form.{Form}
use Rattle.fish_value.specs.declared.row.Row.{Row}
use Rattle.fish_value.specs.declared.value.Value.{Value}
use Rattle.fish_walk.specs.Looks.{IsTailCount}
use Rattle.fish_walk.specs.Settling.{EndsAt}
use Rattle.fish_whole.specs.Whole.{Whole}

-- the pass gained the first so many of these, and the definitions are the same
pub record GainsFirst (v u : View) (all : List Content) (count : ℕ) : Type 0 where
  pub registry : KeepsRegistry v u
  pub rows : List LaneRow
  pub gains : Gains v u rows
  pub first : contents_of_rows rows ≡ take count all

-- why a scan was refused, as an item tells it
abbrev pub scan_refusal_at : ℕ → ScanCause → ScanRefusal
scan_refusal_at version cause.UnknownName = refusal.UnknownName version
scan_refusal_at version (cause.EmptyRange from to) = refusal.EmptyRange from to
scan_refusal_at version (cause.NotCovered from to) = refusal.NotCovered from to

-- and what an item tells of a refusal, which isn't one of memory, of a range below the log's first number, or of a file
abbrev pub cause_of : ScanRefusal → Option ScanCause
cause_of (refusal.UnknownName version) = Some cause.UnknownName
cause_of (refusal.EmptyRange from to) = Some (cause.EmptyRange from to)
cause_of (refusal.NotCovered from to) = Some (cause.NotCovered from to)
cause_of (refusal.ColdRange base) = None
cause_of refusal.DiskFault = None
cause_of (refusal.Damaged number) = None
cause_of refusal.OutOfMemory = None

-- the rows are those that the table has, and then a selection of what stood before it
pub record FindsAcross (past : Whole) (u : View) (def : Definition) (value : Value) (from to : ℕ) (opens : List ℕ)
    (rows : List Row)
    : Type 0 where
  pub upper : List Row
  pub lower : List Row
  pub rows_are : rows ≡ upper ++ lower
  pub above : Finds u def value (min (max from u.about.number) to) to opens upper
  pub below : lower ≡ select (map selectable past.log) (evaluation def) value from (min to u.about.number) []

-- after this past they are the records of the range on which the definition that the name means has the value
pub record IsAnswerBehind (past : Whole) (v u : View) (known : Known) (ask : Ask) (answer : Answer) : Type 0 where
  pub planned : IsPlanned v u known ask answer.from answer.to answer.opens answer.plan
  pub def : Definition
  pub means : IsAccepted planned.asked.named.newest.listed.def def
  pub found : FindsAcross past u def ask.value answer.from answer.to answer.opens answer.rows

-- a range was planned, and no number below the table is open
pub record IsExplainedAnswer (v u : View) (known : Known) (ask : Ask) (answer : Answer) : Type 0 where
  pub explained : IsExplained v u known ask answer.from answer.to answer.opens answer.plan
  pub opened : (n : ℕ) → Among n answer.opens → u.about.number ≤ n

-- on a disk that carries the table, the answer is one after what the disk has before it, and few words were loaded
pub record IsAnswerHere (content : Option (List ℕ)) (k : Key) (cold : Cold) (v u : View) (known : Known) (ask : Ask)
    (answer : Answer)
    : Type 0 where
  pub each : (past : Whole) → IsHere content k cold past → IsAnswerBehind past v u known ask answer
  pub loads : (past : Whole) → IsHere content k cold past → LoadsAcross past v u ask.value answer

-- an answer at a version, for which no more words were loaded than its plan allows
pub record IsScanned (Past : Whole → Type 0) (v u : View) (ask : Ask) (from to : ℕ) (opens : List ℕ) (rows : List Row)
    (version : ℕ)
    : Type 0 where
  pub known : Known
  pub version_is : version ≡ version_of known
  pub plan : List Piece
  pub planned : IsPlanned v u known ask from to opens plan
  pub opened : (n : ℕ) → Among n opens → u.about.number ≤ n
  pub answer : (past : Whole) → Past past → IsAnswerBehind past v u known ask
      (record { from = from; to = to; opens = opens; rows = rows; plan = plan })
  pub loads : LoadsWithin Past v u ask.value (record { from = from; to = to; opens = opens; rows = rows; plan = plan })

-- a plan at a version
pub record IsPlannedAt (v u : View) (ask : Ask) (from to : ℕ) (plan : List Piece) (version : ℕ) : Type 0 where
  pub known : Known
  pub version_is : version ≡ version_of known
  pub opens : List ℕ
  pub explained : IsExplained v u known ask from to opens plan

-- a refusal at a version
pub record IsRefusedAt (v u : View) (ask : Ask) (version : ℕ) (why : ScanCause) : Type 0 where
  pub known : Known
  pub version_is : version ≡ version_of known
  pub refused : IsRefused v u known ask (scan_refusal_at version why)

-- the item tells of a refusal for this cause
pub record IsRefusedItem (name : List ℕ) (version : ℕ) (why : ScanRefusal) (refused : List ℕ → ℕ → ScanCause → Item)
    (x : Item)
    : Type 0 where
  pub cause : ScanCause
  pub cause_is : cause_of why ≡ Some cause
  pub is : x ≡ refused name version cause

-- the records before one that found the log full are stored
pub record FitsFull (v u : View) (form : Form) (outs : List (Option (List ℕ))) (name file : List ℕ) (x : Item)
    : Type 0 where
  pub line : ℕ
  pub lines : ℕ
  pub end : ℕ
  pub stored : ℕ
  pub many : ℕ
  pub is : x ≡ item.IngestFull name line lines end stored many
  pub within : length file ≤ longest_file
  pub counted : AreCountedUpTo outs stored many
  pub full : IsFullBy u line lines end
  pub size : (v.shut ≡ Some (claim_of line lines end)) ⊎ IsSizeBetween v u form counted.payload lines

-- a scan was answered
pub record FitsScanned (Past : Whole → Type 0) (v u : View) (ask : Ask) (x : Item) : Type 0 where
  pub from : ℕ
  pub to : ℕ
  pub opens : List ℕ
  pub rows : List Row
  pub version : ℕ
  pub is : x ≡ item.Scanned ask.name ask.value from to opens rows version
  pub fits : IsScanned Past v u ask from to opens rows version

-- a plan was made
pub record FitsExplained (v u : View) (ask : Ask) (x : Item) : Type 0 where
  pub from : ℕ
  pub to : ℕ
  pub plan : List Piece
  pub version : ℕ
  pub is : x ≡ item.Explained ask.name ask.value from to plan version
  pub fits : IsPlannedAt v u ask from to plan version

-- neither
pub record FitsRefused (v u : View) (ask : Ask) (refused : List ℕ → ℕ → ScanCause → Item) (x : Item) : Type 0 where
  pub version : ℕ
  pub why : ScanCause
  pub is : x ≡ refused ask.name version why
  pub fits : IsRefusedAt v u ask version why

-- all below a number is stored; a pass that is alone finds it where the log ends, with as many claimed as it knew by
-- the tail, and no fewer than it had counted
pub record FitsCheckpoint (v u : View) (x : Item) : Type 0 where
  pub count : ℕ
  pub is : x ≡ item.Checkpointed count
  pub above : v.learned.settled ≤ count
  pub settled : count ≤ u.learned.settled
  pub counted : count ≤ u.learned.count
  pub exact : IsAlone v → (claimed : ℕ) × IsTailCount claimed v.tail × EndsAt u count claimed
      × (v.learned.count ≤ claimed)

-- the item fits the statement, and what it tells of its pass is so, after each such past
abbrev pub IsFit : (Whole → Type 0) → View → View → Work → Item → Type 0
IsFit Past v u (work.Register name def) x = IsRegisterItem name (definition_text (definition_of def)) x
IsFit Past v u (work.Deregister name) x = IsDeregisterItem name x
IsFit Past v u (work.Ingest form begin name file) x = SaysStored (outcomes_from form begin file) name file x
    ⊎ (FitsFull v u form (outcomes_from form begin file) name file x ⊎ SaysTooLong name file x)
IsFit Past v u (work.Scan ask) x = FitsScanned Past v u ask x ⊎ FitsRefused v u ask item.ScanRefused x
IsFit Past v u (work.Explain ask) x = FitsExplained v u ask x ⊎ FitsRefused v u ask item.ExplainRefused x
IsFit Past v u work.Checkpoint x = FitsCheckpoint v u x

-- the item tells what the statement did
pub record IsItem (Past : Whole → Type 0) (v u : View) (w : Work) (x : Item) : Type 0 where
  pub gained : GainsFirst v u (content_of w) (count_of x)
  pub fit : IsFit Past v u w x
  pub shuts : SaysShut v u (x ∷ [])

-- a part of it was done
abbrev pub IsPart : View → View → Work → Type 0
IsPart v u w = (count : ℕ) × GainsFirst v u (content_of w) count

-- the statement has no item: memory ran out when a part of it was done, or it is a scan of older records, and nothing
-- was done
abbrev pub IsStopped : View → View → Work → Stop → Type 0
IsStopped v u w stop.Memory = IsPart v u w
IsStopped v u w stop.Older = (ask : Ask) × (w ≡ work.Scan ask) × OnlyScans v u
