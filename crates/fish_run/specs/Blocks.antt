-- What a run tells of the whole log, by the rounds of its blocks.
use Rattle.std.specs.Prelude.{ℕ, ◌≡◌, ◌≢◌, ◌≤◌, ◌+◌, List, [], ◌∷◌, ◌++◌, length, map, slice_get, Bool, true, false}
use Rattle.std.specs.Prelude.{Option, Some, None, ⊤}
use Rattle.fish_catalog.specs.Clamps.{clamped}
use Rattle.fish_catalog.specs.declared.row.CatRow.{CatRow}
use Rattle.fish_lanes.specs.Blocks.{AreEnded, EachLane, SaysBlock, control_items}
use Rattle.fish_lanes.specs.Controlling.{IsCheckpointAtMost}
use Rattle.fish_lanes.specs.Full.{AreFullLast, EndsFull}
use Rattle.fish_lanes.specs.Outcome.{IsFullIn, LanesSayPlans}
use Rattle.fish_lanes.specs.Plans.{RowsAre}
use Rattle.fish_lanes.specs.Registering.{ItemsFit, HasEach, Registry, after_all}
use Rattle.fish_lanes.specs.Single.{NamesNone, SaysWhole}
use Rattle.fish_lanes.specs.Sizes.{NamesOneClaim}
use Rattle.fish_lanes.specs.Spans.{Span, answers}
use Rattle.fish_lanes.specs.declared.block.BlockEnd.{BlockEnd}
use Rattle.fish_lanes.specs.declared.lane.Lane.{Lane}
use Rattle.fish_lanes.specs.declared.work.LaneFault.TheVariants as cause
use Rattle.fish_lanes.specs.declared.work.Work.{Work}
use Rattle.fish_report.specs.declared.item.Item.{Item}
use Rattle.fish_rule.specs.Views.{AllOf, Among}
use Rattle.fish_rule.specs.declared.view.Shut.{Shut}
use Rattle.fish_whole.specs.Whole.{Whole}

-- what ran at once in one table: whether it was begun for it; what each lane was given; where it lies, its lanes with
-- their items, and what was found once they had ended
pub record Round : Type 0 where
  pub fresh : Bool
  pub given : List (List Work)
  pub span : Span
  pub lanes : List Lane
  pub end : BlockEnd

-- a block that has run: whether it stood between `lanes` and `end`, and its rounds
pub record Block : Type 0 where
  pub several : Bool
  pub rounds : List Round

abbrev pub rounds_of : List Block → List Round
rounds_of [] = []
rounds_of (b ∷ blocks) = b.rounds ++ rounds_of blocks

-- ---- definitions

-- before the first block: the rows with which the store was opened, and no change of them
abbrev pub first_registry : List CatRow → Registry
first_registry rows = record { rows = rows; waiting = None; version = 0 }

-- the items of a block's first lane, and with the boundary after them
abbrev pub first_items : List Lane → List Item
first_items [] = []
first_items (x ∷ lanes) = x.items

abbrev pub lanes_controls : List Lane → BlockEnd → List Item
lanes_controls [] end = []
lanes_controls (x ∷ lanes) end = control_items x end

abbrev pub round_controls : Round → List Item
round_controls b = lanes_controls b.lanes b.end

-- the registry with which a round begins: in a table of its own no index begins or ends past the log
abbrev pub begun_anew : Bool → ℕ → Registry → Registry
begun_anew false n r = r
begun_anew true n r = record r { rows = map (clamped n) r.rows }

abbrev pub begun_for : Round → Registry → Registry
begun_for b r = begun_anew b.fresh b.span.from r

-- the registry after a round, and after rounds
abbrev pub after_round : Registry → Round → Registry
after_round r b = after_all r (round_controls b)

abbrev pub after_rounds : Registry → List Round → Registry
after_rounds r [] = r
after_rounds r (b ∷ rounds) = after_rounds (after_round (begun_for b r) b) rounds

-- ---- a full log

-- an item of some round was refused by this claim
abbrev pub IsFullOf : List Round → ℕ → ℕ → ℕ → Type 0
IsFullOf rounds line lines end = (b : Round) × Among b rounds × IsFullIn b.lanes line lines end

-- what found the table full, if anything did, is a claim that an item of these rounds tells of; and something did where
-- an item tells so
pub record HasFoundFull (rounds : List Round) (full : Option Shut) : Type 0 where
  pub told : (c : Shut) → full ≡ Some c → IsFullOf rounds c.line c.lines c.end
  pub some : (line lines end : ℕ) → IsFullOf rounds line lines end → (c : Shut) × (full ≡ Some c)

-- of the rounds before one those in its table
abbrev pub in_table : Bool → List Round → List Round
in_table false before = before
in_table true before = []

-- the rounds in the last table, where those before them in the first one are these
abbrev pub last_table : List Round → List Round → List Round
last_table before [] = before
last_table before (b ∷ rounds) = last_table (in_table b.fresh before ++ b ∷ []) rounds

-- no table was begun for one of these rounds
abbrev pub AreInOne : List Round → Type 0
AreInOne [] = ⊤
AreInOne (b ∷ rounds) = (b.fresh ≡ false) × AreInOne rounds

-- what had found the table full before each of these rounds, the ones before it in that table tell
abbrev pub AreFullSince : List Round → List Round → Type 0
AreFullSince before [] = ⊤
AreFullSince before (b ∷ rounds) = HasFoundFull (in_table b.fresh before) b.span.full
    × AreFullSince (in_table b.fresh before ++ b ∷ []) rounds

-- ---- what rounds tell

-- what a round of one lane tells besides, where the log has so many numbers before it, the rows are these, and this
-- claim had found the log full, if any: its items name no open number, and no lane for which a registration waits; and
-- where one statement is all of the round, its range is all that was asked for of that log, and planned by the rows; or
-- its boundary is the log's end
pub record SaysOneLane (rows : List CatRow) (full : Option Shut) (from : ℕ) (x : Lane) : Type 0 where
  pub none : AllOf NamesNone x.items
  pub whole : (w : Work) → x.works ≡ w ∷ [] → AllOf (SaysWhole rows full from w) (answers x.items)

-- what a round tells that begins where the log has so many numbers and the registry is this, even one in which a lane
-- stopped at a fault: its lanes' items are so of the log, and those of its first lane of the definitions; where a
-- statement has no item, neither have those after it; of the items of a lane that a full log refused all name one
-- claim, that of before the round if there was one; and where there was none, that is its last item, and no other lane
-- hands statements back; and where there was one, nothing is stored
pub record SaysPart (w : Whole) (from : ℕ) (r : Registry) (b : Round) : Type 0 where
  pub begins : b.span.from ≡ from
  pub ends : b.end.to ≡ b.span.to
  pub rises : b.span.from ≤ b.span.to
  pub first : b.span.first ≡ r.version
  pub many : b.span.lanes ≡ length b.lanes
  pub lanes : SaysBlock w b.span b.lanes
  pub registers : ItemsFit b.span.from (b.span.to + 16) r (first_items b.lanes)
  pub definitions : HasEach w r (first_items b.lanes)
  pub ended : AreEnded b.lanes
  pub fulls : EachLane (λ i x. NamesOneClaim b.span.full x.items) b.lanes
  pub last_full : b.span.full ≡ None → EachLane (λ i x. AreFullLast x.items) b.lanes
  pub left : EachLane (λ i x. x.left ≢ [] → (x.fault ≡ cause.None) × EndsFull x.items × (b.span.full ≡ None)) b.lanes
  pub stays : (c : Shut) → b.span.full ≡ Some c → b.span.to ≡ b.span.from
  pub alone : (x : Lane) → b.lanes ≡ x ∷ [] → SaysOneLane r.rows b.span.full from x

-- what one tells in which a lane did: by the definitions after it, which are those that its first lane's items tell
-- unless it was that lane, pieces by an index lie where the index is complete, and no number is read one by one that
-- was known to be so
pub record SaysCut (w : Whole) (from : ℕ) (r : Registry) (b : Round) : Type 0 where
  pub part : SaysPart w from r b
  pub behind : Registry
  pub last : b.span.last ≡ behind.version
  pub plans : LanesSayPlans (RowsAre w) r behind.rows from b.lanes
  pub behind_is : (x : Lane) → slice_get b.lanes 0 ≡ Some x → x.fault ≡ cause.None → behind ≡ after_round r b

-- what one tells in which none did: every statement has its item; the definitions at each version are those that its
-- first lane's items tell, with the boundary that was found after them, and none waits for its boundary any more; and
-- the same of plans, by these definitions
pub record SaysOne (w : Whole) (from : ℕ) (r : Registry) (b : Round) : Type 0 where
  pub part : SaysPart w from r b
  pub whole : EachLane (λ i x. x.fault ≡ cause.None) b.lanes
  pub registers : ItemsFit b.span.from (b.span.to + 16) r (round_controls b)
  pub definitions : HasEach w r (round_controls b)
  pub last : b.span.last ≡ (after_round r b).version
  pub settled : (after_round r b).waiting ≡ None
  pub plans : LanesSayPlans (RowsAre w) r (after_round r b).rows from b.lanes

-- what rounds tell: each begins where the one before it ended, with the definitions that it left; the last one ends
-- here
abbrev pub SaysRounds : Whole → ℕ → Registry → List Round → ℕ → Type 0
SaysRounds w from r [] end = from ≡ end
SaysRounds w from r (b ∷ rounds) end =
    SaysOne w from (begun_for b r) b × SaysRounds w b.span.to (after_round (begun_for b r) b) rounds end

-- what a round tells that a lane's fault cut, and with which the log ends
abbrev pub SaysRest : Whole → ℕ → Registry → Option Round → ℕ → Type 0
SaysRest w from r None end = from ≡ end
SaysRest w from r (Some b) end = SaysCut w from (begun_for b r) b × (b.span.to ≡ end)

-- what rounds tell, and after them the one that was cut
pub record SaysFirst (w : Whole) (from : ℕ) (r : Registry) (rounds : List Round) (cut : Option Round) (end : ℕ)
    : Type 0 where
  pub to : ℕ
  pub whole : SaysRounds w from r rounds to
  pub rest : SaysRest w to (after_rounds r rounds) cut end

-- the rounds, and the one after them that was cut
abbrev pub with_cut : List Round → Option Round → List Round
with_cut rounds None = rounds
with_cut rounds (Some b) = rounds ++ b ∷ []

-- what all rounds of a run tell, from the number on at which the first table begins, with these rows, and where no
-- claim had found it full
pub record SaysRun (w : Whole) (first : ℕ) (rows : List CatRow) (rounds : List Round) (cut : Option Round) (end : ℕ)
    : Type 0 where
  pub tells : SaysFirst w first (first_registry rows) rounds cut end
  pub fulls : AreFullSince [] (with_cut rounds cut)

-- ---- refusals of a full log

-- the rounds in the table that is left, where it may be a new one
abbrev pub left_table : Bool → List Round → List Round → Option Round → List Round
left_table fresh before rounds None = in_table fresh (last_table before rounds)
left_table fresh before rounds (Some b) = last_table before (rounds ++ b ∷ [])

-- all such items name the table's end, and those with the same line have the same lines
pub record FullsAgree (rounds : List Round) (end : ℕ) : Type 0 where
  pub ends : (line lines e : ℕ) → IsFullOf rounds line lines e → e ≡ end
  pub same : (line a b e f : ℕ) → IsFullOf rounds line a e → IsFullOf rounds line b f → a ≡ b

-- ---- checkpoints

-- no checkpoint that an item of these rounds tells has more entries than so many
abbrev pub AreAcknowledged : ℕ → List Round → Type 0
AreAcknowledged count rounds = (b : Round) → Among b rounds → AllOf (IsCheckpointAtMost count) (first_items b.lanes)
