-- What scans, and plans of scans, tell of the whole log.
use Rattle.std.specs.Prelude.{ℕ, ◌≡◌, ◌≢◌, ◌+◌, ◌<◌, ◌≤◌, List, [], Some, length, map, min, slice_get}
use Rattle.fish_catalog.specs.declared.entry.Entry.{Entry}
use Rattle.fish_catalog.specs.declared.entry.Entry.TheVariants as entry
use Rattle.fish_catalog.specs.declared.listed.Listed.{Listed}
use Rattle.fish_lang.specs.Definition.{Definition}
use Rattle.fish_lang.specs.Language.{IsAccepted}
use Rattle.fish_lanes.specs.Spans.{Span}
use Rattle.fish_plan.specs.Pieces.{Fill, one_full}
use Rattle.fish_plan.specs.declared.pieces.Piece.{Piece}
use Rattle.fish_plan.specs.declared.pieces.Piece.TheVariants.{Index}
use Rattle.fish_psf.specs.Records.{evaluation}
use Rattle.fish_psf.specs.Select.{select}
use Rattle.fish_report.specs.declared.item.Item.{Item}
use Rattle.fish_report.specs.declared.item.Item.TheVariants as item
use Rattle.fish_report.specs.declared.item.ScanCause.{ScanCause}
use Rattle.fish_report.specs.declared.item.ScanCause.TheVariants as cause
use Rattle.fish_rule.specs.Views.{Among}
use Rattle.fish_scan.specs.Naming.{HasNone, IsNewestListed}
use Rattle.fish_scan.specs.Older.{selectable}
use Rattle.fish_scan.specs.Reach.{Rise}
use Rattle.fish_scan.specs.Scans.{AreEmptyEnds, IsEmptyAsk, first_asked}
use Rattle.fish_scan.specs.declared.ask.Ask.{Ask}
use Rattle.fish_scan.specs.declared.ask.How.TheVariants as how
use Rattle.fish_value.specs.declared.field.Form.{Form}
use Rattle.fish_value.specs.declared.row.Row.{Row}
use Rattle.fish_whole.specs.Whole.{Whole}

-- at a version of the block the definitions of the whole are these
pub record HasRows (w : Whole) (s : Span) (version : ℕ) (rows : List Listed) : Type 0 where
  pub least : s.first ≤ version
  pub most : version ≤ s.last
  pub are : w.rows version ≡ rows

-- at such a version the name means the definition: it is that of the newest row with the name
pub record Means (w : Whole) (s : Span) (version : ℕ) (name : List ℕ) (def : Definition) : Type 0 where
  pub rows : List Listed
  pub has : HasRows w s version rows
  pub position : ℕ
  pub newest : IsNewestListed rows name position
  pub accepted : IsAccepted newest.listed.def def

-- the number is one that was asked for
pub record IsAskedFor (ask : Ask) (n : ℕ) : Type 0 where
  pub above : first_asked ask ≤ n
  pub below : (to : ℕ) → ask.to ≡ Some to → n < to

-- numbers were asked for; the range begins where it was asked to, or where it ends; it ends where it was asked to, or
-- before, and at most 16 numbers after the block
pub record IsAskedRange (s : Span) (ask : Ask) (from to : ℕ) : Type 0 where
  pub some : ¬ IsEmptyAsk ask
  pub begins : from ≡ min (first_asked ask) to
  pub ends : (end : ℕ) → ask.to ≡ Some end → to ≤ end
  pub near : to ≤ s.to + 16

-- the range holds all that the lane had seen, of the log and of what was asked for, and none of it is open
pub record HoldsSeen (w : Whole) (seen : ℕ → Type 0) (ask : Ask) (from to : ℕ) (opens : List ℕ) : Type 0 where
  pub each : (n : ℕ) → seen n → n < length w.log → IsAskedFor ask n → (from ≤ n) × (n < to) × ¬ Among n opens

-- the open numbers rise within the range, from a beginning on; each is the last number of its lane in the range, of
-- those below an end; and every number from the end on is open, so that what a scan shows lies below it
pub record AreOpen (begin end : ℕ) (entries : List Entry) (from to : ℕ) (opens : List ℕ) : Type 0 where
  pub rise : Rise from to opens
  pub first : (n : ℕ) → Among n opens → begin ≤ n
  pub latest : (m n lane : ℕ) (f g : Form) (p q : List ℕ) → Among n opens → n < m → m < to → m < end
      → slice_get entries m ≡ Some (entry.Stored lane f p) → slice_get entries n ≢ Some (entry.Stored lane g q)
  pub behind : (n : ℕ) → from ≤ n → n < to → end ≤ n → Among n opens

-- a scan: its rows are exactly the records of the log in its range, less the open ones, on which the definition that
-- the name means has the value, newest first
pub record SaysScan (w : Whole) (s : Span) (seen : ℕ → Type 0) (ask : Ask) (from to : ℕ) (opens : List ℕ)
    (rows : List Row) (version : ℕ) : Type 0 where
  pub range : IsAskedRange s ask from to
  pub def : Definition
  pub means : Means w s version ask.name def
  pub rows_are : rows ≡ select (map selectable w.log) (evaluation def) ask.value from to opens
  pub holds : HoldsSeen w seen ask from to opens
  pub are_open : AreOpen s.from s.to w.log from to opens

-- a plan: its pieces fill the range, each by an index is by one of a row with the text that the name means, and of
-- numbers of the log, and it is one piece where the numbers are to be read one by one
pub record SaysPlan (w : Whole) (s : Span) (seen : ℕ → Type 0) (ask : Ask) (from to : ℕ) (plan : List Piece)
    (version : ℕ) : Type 0 where
  pub range : IsAskedRange s ask from to
  pub rows : List Listed
  pub has : HasRows w s version rows
  pub position : ℕ
  pub newest : IsNewestListed rows ask.name position
  pub holds : HoldsSeen w seen ask from to []
  pub fill : Fill plan from to
  pub indexed : (position id begin end : ℕ) → slice_get plan position ≡ Some (Index id begin end)
      → (end ≤ length w.log) × ((row : Listed) × (slice_get rows id ≡ Some row) × (row.def ≡ newest.listed.def))
  pub full : ask.how ≡ how.Full → plan ≡ one_full from to

-- why neither was answered
abbrev pub IsRefusedFor : Whole → Span → Ask → ℕ → ScanCause → Type 0
IsRefusedFor w s ask version cause.UnknownName =
    (rows : List Listed) × HasRows w s version rows × HasNone rows ask.name
IsRefusedFor w s ask version (cause.EmptyRange from to) = AreEmptyEnds ask from to
    × ((rows : List Listed) × HasRows w s version rows × ((position : ℕ) × IsNewestListed rows ask.name position))
IsRefusedFor w s ask version (cause.NotCovered from to) = (ask.how ≡ how.Index) × (from < to) × (to ≤ s.to)
    × (first_asked ask ≤ from) × ((end : ℕ) → ask.to ≡ Some end → to ≤ end)

-- ---- items

-- the item of a scan
pub record SaysScanned (w : Whole) (s : Span) (seen : ℕ → Type 0) (ask : Ask) (x : Item) : Type 0 where
  pub from : ℕ
  pub to : ℕ
  pub opens : List ℕ
  pub rows : List Row
  pub version : ℕ
  pub is : x ≡ item.Scanned ask.name ask.value from to opens rows version
  pub tells : SaysScan w s seen ask from to opens rows version

-- of a plan
pub record SaysExplained (w : Whole) (s : Span) (seen : ℕ → Type 0) (ask : Ask) (x : Item) : Type 0 where
  pub from : ℕ
  pub to : ℕ
  pub plan : List Piece
  pub version : ℕ
  pub is : x ≡ item.Explained ask.name ask.value from to plan version
  pub tells : SaysPlan w s seen ask from to plan version

-- and of a refusal, at a version of the block
pub record SaysRefused (w : Whole) (s : Span) (ask : Ask) (refused : List ℕ → ℕ → ScanCause → Item) (x : Item)
    : Type 0 where
  pub version : ℕ
  pub why : ScanCause
  pub is : x ≡ refused ask.name version why
  pub least : s.first ≤ version
  pub most : version ≤ s.last
  pub tells : IsRefusedFor w s ask version why
