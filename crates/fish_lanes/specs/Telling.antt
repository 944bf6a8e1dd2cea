-- What the items of a lane tell of the whole log.
use Rattle.std.specs.Prelude.{ℕ, ◌≡◌, ◌<◌, ◌≤◌, ◌+◌, ◌⊎◌, ◌++◌, List, [], ◌∷◌, Option, Some, length, take}
use Rattle.fish_lang.specs.Canonical.{definition_text}
use Rattle.fish_lang.specs.Definition.{definition_of}
use Rattle.fish_lanes.specs.Records.{Content, HasNumber, LaneRow, contents_of_rows}
use Rattle.fish_lanes.specs.Registering.{IsDeregisterItem, IsRegisterItem}
use Rattle.fish_lanes.specs.Scanning.{SaysExplained, SaysRefused, SaysScanned}
use Rattle.fish_lanes.specs.Seen.{IsSeen, Shown, settled, shown_by}
use Rattle.fish_lanes.specs.Sizes.{IsEarlier, IsSizeOf}
use Rattle.fish_lanes.specs.Spans.{Span, answers, span_after}
use Rattle.fish_lanes.specs.declared.work.Work.{Work}
use Rattle.fish_lanes.specs.declared.work.Work.TheVariants as work
use Rattle.fish_value.specs.Outcomes.{accepted, refused}
use Rattle.fish_lines.specs.Resuming.{outcomes_from}
use Rattle.fish_report.specs.declared.item.Item.{Item}
use Rattle.fish_report.specs.declared.item.Item.TheVariants as item
use Rattle.fish_report.specs.declared.item.ScanCause.TheVariants as cause
use Rattle.fish_rule.specs.Views.{Among}
use Rattle.fish_value.specs.Limits.{longest_file}
use Rattle.fish_value.specs.declared.field.Form.{Form}
use Rattle.fish_whole.specs.Whole.{Whole}

-- payloads with their form
abbrev pub all_of : Form → List (List ℕ) → List Content
all_of form [] = []
all_of form (p ∷ payloads) = (form, p) ∷ all_of form payloads

-- what a statement is to store
abbrev pub content_of : Work → List Content
content_of (work.Ingest form begin name file) = all_of form (accepted (outcomes_from form begin file))
content_of w = []

-- how much of it an item says is stored
abbrev pub count_of : Item → ℕ
count_of (item.Ingested file stored refused) = stored
count_of (item.IngestFull file line lines end stored refused) = stored
count_of x = 0

-- up to which number an item tells of the log
abbrev pub told_to : Item → ℕ
told_to (item.Registered name id from def) = from
told_to (item.Deregistered name id to) = to
told_to (item.Scanned name value from to opens rows version) = to
told_to (item.Explained name value from to plan version) = to
told_to (item.ScanRefused name version (cause.NotCovered from to)) = to
told_to (item.ExplainRefused name version (cause.NotCovered from to)) = to
told_to (item.Checkpointed count) = count
told_to x = 0

-- none of the rows has a number below this one
abbrev pub StandFrom : ℕ → List LaneRow → Type 0
StandFrom first rows = (n : ℕ) → HasNumber n rows → first ≤ n

-- all lines or rows were read, and so many are records, and so many are none
pub record AreCounted (outs : List (Option (List ℕ))) (stored many : ℕ) : Type 0 where
  pub stored_is : stored ≡ length (accepted outs)
  pub refused_is : many ≡ refused outs

-- the same of those before a record
pub record AreCountedUpTo (outs : List (Option (List ℕ))) (stored many : ℕ) : Type 0 where
  pub front : List (Option (List ℕ))
  pub payload : List ℕ
  pub behind : List (Option (List ℕ))
  pub parts : outs ≡ front ++ Some payload ∷ behind
  pub counted : AreCounted front stored many

-- ---- one item

-- the file is no longer than a file may be, and so many of its lines or rows are stored, and so many are no record
pub record SaysStored (outs : List (Option (List ℕ))) (name file : List ℕ) (x : Item) : Type 0 where
  pub stored : ℕ
  pub many : ℕ
  pub is : x ≡ item.Ingested name stored many
  pub within : length file ≤ longest_file
  pub counted : AreCounted outs stored many

-- or only those before a record whose region ends past the log's end; its lines are those of that record, or those of
-- the claim that found the log full before
pub record SaysFull (w : Whole) (s : Span) (shown : List Shown) (form : Form) (outs : List (Option (List ℕ)))
    (name file : List ℕ)
    (x : Item) : Type 0 where
  pub line : ℕ
  pub lines : ℕ
  pub end : ℕ
  pub stored : ℕ
  pub many : ℕ
  pub is : x ≡ item.IngestFull name line lines end stored many
  pub within : length file ≤ longest_file
  pub counted : AreCountedUpTo outs stored many
  pub past : end < line + lines
  pub size : IsEarlier s shown line lines end ⊎ IsSizeOf w s form counted.payload lines

-- or the file is too long, and nothing of it is stored
pub record SaysTooLong (name file : List ℕ) (x : Item) : Type 0 where
  pub is : x ≡ item.IngestTooLong name 0 0
  pub past : longest_file < length file

-- all below a number is stored, which lies between the block's ends and is no less than an earlier item told, so that
-- checkpoints never fall; and where no other lane is, all that the lane stored before lies below it
pub record SaysCheckpoint (s : Span) (before : List LaneRow) (shown : List Shown) (x : Item) : Type 0 where
  pub count : ℕ
  pub is : x ≡ item.Checkpointed count
  pub above : s.from ≤ count
  pub own : s.lanes ≡ 1 → (n : ℕ) → HasNumber n before → n < count
  pub within : count ≤ s.to
  pub rises : (earlier : ℕ) → Among (settled earlier) shown → earlier ≤ count

-- what one item tells of its block, after these rows of its lane and what was shown
abbrev pub SaysItem : Whole → Span → List LaneRow → List Shown → Work → Item → Type 0
SaysItem w s before shown (work.Register name def) x = IsRegisterItem name (definition_text (definition_of def)) x
SaysItem w s before shown (work.Deregister name) x = IsDeregisterItem name x
SaysItem w s before shown (work.Ingest form begin name file) x = SaysStored (outcomes_from form begin file) name file x
    ⊎ (SaysFull w s shown form (outcomes_from form begin file) name file x ⊎ SaysTooLong name file x)
SaysItem w s before shown (work.Scan ask) x = SaysScanned w s (IsSeen s.from before shown) ask x
    ⊎ SaysRefused w s ask item.ScanRefused x
SaysItem w s before shown (work.Explain ask) x = SaysExplained w s (IsSeen s.from before shown) ask x
    ⊎ SaysRefused w s ask item.ExplainRefused x
SaysItem w s before shown work.Checkpoint x = SaysCheckpoint s before shown x

-- ---- the items of a lane

-- what the items of a lane tell: the rows are what they say is stored, one after the other, and none tells of what is
-- stored after it; where statements are left without an item, the rest of the rows are the first payloads of the next
-- statement
abbrev pub SaysItems : Whole → Span → List LaneRow → List Shown → List LaneRow → List Work → List Item → Type 0
SaysItems w s before shown rows [] [] = rows ≡ []
SaysItems w s before shown rows [] (x ∷ items) = ⊥
SaysItems w s before shown rows (y ∷ works) [] = (j : ℕ) × (contents_of_rows rows ≡ take j (content_of y))
SaysItems w s before shown rows (y ∷ works) (x ∷ items) = (mine : List LaneRow) × (rest : List LaneRow)
    × (rows ≡ mine ++ rest)
    × (contents_of_rows mine ≡ take (count_of x) (content_of y))
    × SaysItem w s before shown y x
    × StandFrom (told_to x) rest
    × SaysItems w (span_after x s) (before ++ mine) (shown ++ shown_by x) rest works items

-- the same from the lane's first statement on, by the items that answer statements
abbrev pub SaysLane : Whole → Span → List LaneRow → List Work → List Item → Type 0
SaysLane w s rows works items = SaysItems w s [] [] rows works (answers items)
