-- What a scan answers, and why it refuses.
use Rattle.std.specs.Prelude.{ℕ, ◌≡◌, ◌<◌, ◌≤◌, List, Some, ⊤}
use Rattle.std.specs.Option.{unwrap_or}
use Rattle.fish_catalog.specs.declared.interval.Interval.{Interval}
use Rattle.fish_catalog.specs.declared.listed.Listed.{Listed}
use Rattle.fish_epoch.specs.Definitions.{AreRead, rows_of, version_of}
use Rattle.fish_epoch.specs.declared.definitions.Known.{Known}
use Rattle.fish_lang.specs.Definition.{Definition}
use Rattle.fish_lang.specs.Language.{IsAccepted}
use Rattle.fish_plan.specs.Cover.{IsCover}
use Rattle.fish_plan.specs.Gaps.{HasGap, IsFirstGap}
use Rattle.fish_plan.specs.Pieces.{Fill, one_full}
use Rattle.fish_plan.specs.declared.pieces.Piece.{Piece}
use Rattle.fish_rule.specs.Clocks.{HasLoaded, IsLater}
use Rattle.fish_rule.specs.Logs.{Learns}
use Rattle.fish_rule.specs.LoadSteps.{IsAlone}
use Rattle.fish_rule.specs.declared.view.Epoch.TheVariants.{Out}
use Rattle.fish_rule.specs.declared.view.Noted.TheVariants.{Version}
use Rattle.fish_rule.specs.declared.view.View.{View}
use Rattle.fish_scan.specs.Intervals.{AreListedIntervals}
use Rattle.fish_scan.specs.Matching.{Finds}
use Rattle.fish_scan.specs.Naming.{HasNone, IsNewestListed}
use Rattle.fish_scan.specs.Reach.{IsExact, IsRange}
use Rattle.fish_scan.specs.declared.ask.Answer.{Answer}
use Rattle.fish_scan.specs.declared.ask.Ask.{Ask}
use Rattle.fish_scan.specs.declared.ask.How.{How}
use Rattle.fish_scan.specs.declared.ask.How.TheVariants as how
use Rattle.fish_scan.specs.declared.refusal.ScanRefusal.{ScanRefusal}
use Rattle.fish_scan.specs.declared.refusal.ScanRefusal.TheVariants as refusal
use Rattle.fish_walk.specs.Settling.{IsEnd, SettlesAt}

-- the second view is the first but for what was learned since, and the tail and the epoch that were seen
pub record OnlyScans (v u : View) : Type 0 where
  pub learns : Learns v u
  pub clock : IsLater v.clock u.clock
  pub frame : u ≡ record v { epoch = u.epoch; tail = u.tail; learned = u.learned; clock = u.clock }
  pub outside : v.epoch ≡ Out → u.epoch ≡ Out

-- and no word of the log was loaded
pub record OnlyPlans (v u : View) : Type 0 where
  pub scans : OnlyScans v u
  pub loads : u.clock.loads ≡ v.clock.loads

-- ---- what is asked

-- the first number that is asked for
abbrev pub first_asked : Ask → ℕ
first_asked ask = unwrap_or ask.from 0

-- these ends are asked for, and no number lies between
abbrev pub AreEmptyEnds : Ask → ℕ → ℕ → Type 0
AreEmptyEnds ask from to = (ask.from ≡ Some from) × (ask.to ≡ Some to) × (to ≤ from)

-- both ends are asked for, and no number lies between
abbrev pub IsEmptyAsk : Ask → Type 0
IsEmptyAsk ask = (from : ℕ) × (to : ℕ) × AreEmptyEnds ask from to

-- the newest definition that has the name asked for, in the version that the pass loaded between the two views, which
-- is no older than the one that it knew, stands at this place
pub record IsNamed (v u : View) (known : Known) (ask : Ask) (position : ℕ) : Type 0 where
  pub loaded : HasLoaded v.clock u.clock Version (version_of known)
  pub least : v.learned.version ≤ version_of known
  pub read : AreRead u known
  pub newest : IsNewestListed (rows_of known) ask.name position

-- and the range that is asked for isn't empty
pub record IsAsked (v u : View) (known : Known) (ask : Ask) (position : ℕ) : Type 0 where
  pub named : IsNamed v u known ask position
  pub some : ¬ IsEmptyAsk ask

-- ---- plans

-- the plan covers the range by the intervals of the rows with a text, whose boundaries were loaded after the settled
-- number
pub record IsCovered (v u : View) (rows : List Listed) (text : List ℕ) (from settled to : ℕ) (plan : List Piece)
    : Type 0 where
  pub moment : View
  pub after : Learns v moment
  pub known : settled ≤ moment.learned.settled
  pub intervals : List Interval
  pub are : AreListedIntervals moment u rows text intervals
  pub cover : IsCover plan from settled to intervals

-- the range is read in the way that is asked for
abbrev pub IsPlan : View → View → List Listed → List ℕ → How → ℕ → ℕ → ℕ → List Piece → Type 0
IsPlan v u rows text how.Full from settled to plan = plan ≡ one_full from to
IsPlan v u rows text how.Auto from settled to plan = IsCovered v u rows text from settled to plan
IsPlan v u rows text how.Index from settled to plan = IsCovered v u rows text from settled to plan
    × ¬ HasGap plan settled

-- ---- answers

-- the range of what is asked for, and the plan by which it is to be read
pub record IsPlanned (v u : View) (known : Known) (ask : Ask) (from to : ℕ) (opens : List ℕ) (plan : List Piece)
    : Type 0 where
  pub position : ℕ
  pub asked : IsAsked v u known ask position
  pub range : IsRange v u (first_asked ask) ask.to from to opens
  -- it is settled as far as this call found: up to the count, or to a number at which it loaded no entry's word
  pub settled : ℕ
  pub stops_at : SettlesAt IsEnd v u settled range.count
  pub least : v.learned.settled ≤ settled
  pub most : settled ≤ u.learned.settled
  -- a pass that was alone has planned all that was asked for of the log
  pub exact : IsAlone v → IsExact v u ask.to range.count settled to opens
  pub plan_is : IsPlan v u (rows_of known) asked.named.newest.listed.def ask.how from settled to plan

-- and the pieces of the plan fill the range, wherever that begins
pub record IsExplained (v u : View) (known : Known) (ask : Ask) (from to : ℕ) (opens : List ℕ) (plan : List Piece)
    : Type 0 where
  pub planned : IsPlanned v u known ask from to opens plan
  pub fill : Fill plan from to

-- the range doesn't begin below the log's first number, and the rows are exactly the records of the range, less the
-- open ones, on which the definition that the name means has the value, newest first
pub record IsAnswer (v u : View) (known : Known) (ask : Ask) (answer : Answer) : Type 0 where
  pub explained : IsExplained v u known ask answer.from answer.to answer.opens answer.plan
  pub base : u.about.number ≤ answer.from
  pub def : Definition
  pub means : IsAccepted explained.planned.asked.named.newest.listed.def def
  pub found : Finds u def ask.value answer.from answer.to answer.opens answer.rows

-- ---- refusals

-- the plan by the index has full pieces below what was settled, and the first of them is this one
pub record IsUncovered (v u : View) (known : Known) (ask : Ask) (from to : ℕ) : Type 0 where
  pub position : ℕ
  pub asked : IsAsked v u known ask position
  pub first : ℕ
  pub last : ℕ
  pub opens : List ℕ
  pub range : IsRange v u (first_asked ask) ask.to first last opens
  pub settled : ℕ
  pub stops_at : SettlesAt IsEnd v u settled range.count
  pub least : v.learned.settled ≤ settled
  pub most : settled ≤ u.learned.settled
  pub exact : IsAlone v → IsExact v u ask.to range.count settled last opens
  pub plan : List Piece
  pub covered : IsCovered v u (rows_of known) asked.named.newest.listed.def first settled last plan
  pub gap : IsFirstGap plan settled from to

-- why there is no plan
abbrev pub IsUnplanned : View → View → Known → Ask → ScanRefusal → Type 0
IsUnplanned v u known ask (refusal.UnknownName version) = (version ≡ version_of known)
    × HasLoaded v.clock u.clock Version version × AreRead u known × HasNone (rows_of known) ask.name
    × (v.learned.version ≤ version)
IsUnplanned v u known ask (refusal.EmptyRange from to) = AreEmptyEnds ask from to
    × ((position : ℕ) × IsNamed v u known ask position)
IsUnplanned v u known ask (refusal.NotCovered from to) = (ask.how ≡ how.Index) × IsUncovered v u known ask from to
IsUnplanned v u known ask (refusal.ColdRange base) = ⊥
IsUnplanned v u known ask refusal.DiskFault = ⊥
IsUnplanned v u known ask (refusal.Damaged number) = ⊥
IsUnplanned v u known ask refusal.OutOfMemory = ⊤

-- why there is no answer; a refusal comes only where none of those before it does
abbrev pub IsRefused : View → View → Known → Ask → ScanRefusal → Type 0
IsRefused v u known ask (refusal.UnknownName version) = (version ≡ version_of known)
    × HasLoaded v.clock u.clock Version version × AreRead u known × HasNone (rows_of known) ask.name
    × (v.learned.version ≤ version)
IsRefused v u known ask (refusal.EmptyRange from to) = AreEmptyEnds ask from to
    × ((position : ℕ) × IsNamed v u known ask position)
IsRefused v u known ask (refusal.NotCovered from to) = (ask.how ≡ how.Index) × IsUncovered v u known ask from to
IsRefused v u known ask (refusal.ColdRange base) = (base ≡ u.about.number)
    × ((first : ℕ) × (last : ℕ) × (opens : List ℕ) × (plan : List Piece) × (first < base)
    × IsPlanned v u known ask first last opens plan)
IsRefused v u known ask refusal.DiskFault = ⊥
IsRefused v u known ask (refusal.Damaged number) = ⊥
IsRefused v u known ask refusal.OutOfMemory = ⊤
