-- What a block of one lane tells besides: the control pass does its statements, and no other pass is out.
use Rattle.std.specs.Prelude.{ℕ, ◌≡◌, ◌⊎◌, List, [], ◌∷◌, Option, None, map, min, ⊤}
use Rattle.fish_catalog.specs.Intervals.{AreIntervals}
use Rattle.fish_catalog.specs.Listing.{listed_of}
use Rattle.fish_catalog.specs.declared.interval.Interval.{Interval}
use Rattle.fish_catalog.specs.declared.row.CatRow.{CatRow}
use Rattle.fish_lanes.specs.Doing.{explained_item, scanned_item}
use Rattle.fish_lanes.specs.Loading.{LoadsWithin}
use Rattle.fish_lanes.specs.Spans.{answers}
use Rattle.fish_lanes.specs.declared.work.Work.{Work}
use Rattle.fish_lanes.specs.declared.work.Work.TheVariants as work
use Rattle.fish_plan.specs.Cover.{IsCover}
use Rattle.fish_plan.specs.Gaps.{HasGap, IsFirstGap}
use Rattle.fish_plan.specs.Pieces.{one_full}
use Rattle.fish_plan.specs.declared.pieces.Piece.{Piece}
use Rattle.fish_report.specs.declared.item.Item.{Item}
use Rattle.fish_report.specs.declared.item.Item.TheVariants as item
use Rattle.fish_report.specs.declared.item.ScanCause.{ScanCause}
use Rattle.fish_report.specs.declared.item.ScanCause.TheVariants as cause
use Rattle.fish_rule.specs.Views.{AllOf}
use Rattle.fish_rule.specs.declared.view.Shut.{Shut}
use Rattle.fish_rule.specs.declared.view.View.{View}
use Rattle.fish_scan.specs.Naming.{IsNewestListed}
use Rattle.fish_scan.specs.Reach.{end_of}
use Rattle.fish_scan.specs.Scans.{first_asked}
use Rattle.fish_scan.specs.declared.ask.Answer.{Answer}
use Rattle.fish_scan.specs.declared.ask.Ask.{Ask}
use Rattle.fish_scan.specs.declared.ask.Explained.{Explained}
use Rattle.fish_scan.specs.declared.ask.How.{How}
use Rattle.fish_scan.specs.declared.ask.How.TheVariants as how
use Rattle.fish_whole.specs.Whole.{Whole}

-- ---- any number of statements

-- the item names no number as open, and no lane for which a registration waits
abbrev pub NamesNone : Item → Type 0
NamesNone (item.Scanned name value from to opens rows version) = opens ≡ []
NamesNone (item.Rolling name id def seat version) = ⊥
NamesNone x = ⊤

-- ---- one statement

-- the range is all that is asked for of a log that ends at this number
pub record IsWholeAnswer (ask : Ask) (end from to : ℕ) : Type 0 where
  pub begins : from ≡ min (first_asked ask) to
  pub ends : to ≡ end_of ask.to end

-- the plan is the cover of a range, all settled below a number, by the intervals of the rows with a text
abbrev pub IsCoverOf : List CatRow → List ℕ → ℕ → ℕ → ℕ → List Piece → Type 0
IsCoverOf rows text from settled to plan = (xs : List Interval) → AreIntervals rows text xs
    → IsCover plan from settled to xs

-- the range is read in the way that is asked for: number by number, or by that cover, which has no gap where the index
-- alone is asked for
abbrev pub IsReadBy : List CatRow → List ℕ → How → ℕ → ℕ → ℕ → List Piece → Type 0
IsReadBy rows text how.Full from settled to plan = plan ≡ one_full from to
IsReadBy rows text how.Auto from settled to plan = IsCoverOf rows text from settled to plan
IsReadBy rows text how.Index from settled to plan = IsCoverOf rows text from settled to plan × ¬ HasGap plan settled

-- the plan of all that is asked for, by the text of the newest row with the name
pub record IsPlanFor (rows : List CatRow) (ask : Ask) (end from to : ℕ) (plan : List Piece) : Type 0 where
  pub whole : IsWholeAnswer ask end from to
  pub position : ℕ
  pub newest : IsNewestListed (map listed_of rows) ask.name position
  pub is : IsReadBy rows newest.listed.def ask.how from end to plan

-- the numbers are those of the first gap in the cover of it
pub record IsGapFor (rows : List CatRow) (ask : Ask) (end from to : ℕ) : Type 0 where
  pub position : ℕ
  pub newest : IsNewestListed (map listed_of rows) ask.name position
  pub first : ℕ
  pub last : ℕ
  pub whole : IsWholeAnswer ask end first last
  pub plan : List Piece
  pub cover : IsCoverOf rows newest.listed.def first end last plan
  pub gap : IsFirstGap plan end from to

-- a scan was answered: none of its numbers is open, and in the whole block the pass loaded no more words of the log
-- than the pieces of the plan are allowed
pub record IsScanWork (Past : Whole → Type 0) (v u : View) (rows : List CatRow) (end : ℕ) (ask : Ask) (x : Item)
    : Type 0 where
  pub answer : Answer
  pub version : ℕ
  pub is : x ≡ scanned_item ask answer version
  pub closed : answer.opens ≡ []
  pub plan : IsPlanFor rows ask end answer.from answer.to answer.plan
  pub loads : LoadsWithin Past v u ask.value answer

-- a plan was told
pub record IsPlanSaid (rows : List CatRow) (end : ℕ) (ask : Ask) (x : Item) : Type 0 where
  pub explained : Explained
  pub version : ℕ
  pub is : x ≡ explained_item ask explained version
  pub plan : IsPlanFor rows ask end explained.from explained.to explained.plan

-- what the cause of a refusal tells
abbrev pub IsCauseAt : List CatRow → ℕ → Ask → ScanCause → Type 0
IsCauseAt rows end ask (cause.NotCovered from to) = IsGapFor rows ask end from to
IsCauseAt rows end ask why = ⊤

-- the item of a refusal
pub record IsCauseSaid (rows : List CatRow) (end : ℕ) (ask : Ask) (refused : List ℕ → ℕ → ScanCause → Item) (x : Item)
    : Type 0 where
  pub version : ℕ
  pub why : ScanCause
  pub is : x ≡ refused ask.name version why
  pub tells : IsCauseAt rows end ask why

-- where the index of a row begins or ends, where that is all that a block tells: at the log's end, unless it was full
abbrev pub IsBoundaryAt : Option Shut → ℕ → Item → Type 0
IsBoundaryAt full end (item.Registered name id from def) = full ≡ None → from ≡ end
IsBoundaryAt full end (item.Deregistered name id to) = full ≡ None → to ≡ end
IsBoundaryAt full end x = ⊤

-- the item of the statement, where the log ended at a number before the block, the rows were these, and the pass was
-- the first before it, and is the second after it
abbrev pub SaysSingle : (Whole → Type 0) → View → View → List CatRow → ℕ → Work → Item → Type 0
SaysSingle Past v u rows end (work.Scan ask) x = IsScanWork Past v u rows end ask x
    ⊎ IsCauseSaid rows end ask item.ScanRefused x
SaysSingle Past v u rows end (work.Explain ask) x = IsPlanSaid rows end ask x
    ⊎ IsCauseSaid rows end ask item.ExplainRefused x
SaysSingle Past v u rows end work.Checkpoint x = x ≡ item.Checkpointed end
SaysSingle Past v u rows end (work.Register name def) x = IsBoundaryAt v.shut end x
SaysSingle Past v u rows end (work.Deregister name) x = IsBoundaryAt v.shut end x
SaysSingle Past v u rows end w x = ⊤

-- where one statement is all that was to do, its item
abbrev pub SaysOnly : (Whole → Type 0) → View → View → List CatRow → ℕ → List Work → List Item → Type 0
SaysOnly Past v u rows end works items = (w : Work) → works ≡ w ∷ []
    → AllOf (SaysSingle Past v u rows end w) (answers items)

-- ---- without the pass

-- the range that a scan was answered for can be planned as was asked: by the index alone only where that has no gap
abbrev pub CanPlan : List CatRow → Ask → ℕ → ℕ → ℕ → Type 0
CanPlan rows ask end from to = (plan : List Piece) × IsPlanFor rows ask end from to plan

-- the range that an item tells of is all that is asked for of a log that ends at this number, and is planned by these
-- rows; a checkpoint tells that number, and so does a boundary, unless this claim had found the log full
abbrev pub SaysWhole : List CatRow → Option Shut → ℕ → Work → Item → Type 0
SaysWhole rows full end (work.Scan ask) (item.Scanned name value from to opens found version) =
    CanPlan rows ask end from to
SaysWhole rows full end (work.Scan ask) (item.ScanRefused name version why) = IsCauseAt rows end ask why
SaysWhole rows full end (work.Explain ask) (item.Explained name value from to plan version) =
    IsPlanFor rows ask end from to plan
SaysWhole rows full end (work.Explain ask) (item.ExplainRefused name version why) = IsCauseAt rows end ask why
SaysWhole rows full end work.Checkpoint x = x ≡ item.Checkpointed end
SaysWhole rows full end (work.Register name def) x = IsBoundaryAt full end x
SaysWhole rows full end (work.Deregister name) x = IsBoundaryAt full end x
SaysWhole rows full end w x = ⊤
