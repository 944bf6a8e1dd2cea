-- What a scan across the base of a table answers, and why it refuses.
use Rattle.std.specs.Prelude.{ℕ, ◌≡◌, ◌+◌, ◌≤◌, List, [], ◌++◌, map, max, min, Option, ⊤}
use Rattle.fish_cold.specs.Carries.{CarriesTable}
use Rattle.fish_cold.specs.declared.cold.Cold.{Cold}
use Rattle.fish_epoch.specs.declared.definitions.Known.{Known}
use Rattle.fish_lang.specs.Definition.{Definition}
use Rattle.fish_lang.specs.Language.{IsAccepted}
use Rattle.fish_plan.specs.declared.pieces.Piece.{Piece}
use Rattle.fish_psf.specs.Records.{evaluation}
use Rattle.fish_psf.specs.Select.{select}
use Rattle.fish_rule.specs.Views.{Among}
use Rattle.fish_rule.specs.declared.view.Key.{Key}
use Rattle.fish_rule.specs.declared.view.View.{View}
use Rattle.fish_scan.specs.Below.{AreOlderAllowed, older_parses}
use Rattle.fish_scan.specs.Cutting.{pieces_above, pieces_below}
use Rattle.fish_scan.specs.Matching.{Finds}
use Rattle.fish_scan.specs.Older.{selectable}
use Rattle.fish_scan.specs.Parses.{HasParsed}
use Rattle.fish_scan.specs.Scans.{IsPlanned, IsUnplanned}
use Rattle.fish_scan.specs.Work.{AreAllowed}
use Rattle.fish_scan.specs.declared.ask.Answer.{Answer}
use Rattle.fish_scan.specs.declared.ask.Ask.{Ask}
use Rattle.fish_scan.specs.declared.refusal.ScanRefusal.{ScanRefusal}
use Rattle.fish_scan.specs.declared.refusal.ScanRefusal.TheVariants as refusal
use Rattle.fish_value.specs.declared.row.Row.{Row}
use Rattle.fish_value.specs.declared.value.Value.{Value}

-- ---- answers

-- how many words were loaded: of the log as the pieces there are allowed, and through the log to the chains of older
-- records, which the pass's own count has too; and of the file as the pieces below the log are allowed
pub record IsWorkWith {content : Option (List ℕ)} {k : Key} {cold : Cold} (h : CarriesTable content k cold) (v u : View)
    (value : Value) (answer : Answer) (loaded loads : ℕ) : Type 0 where
  pub most : ℕ
  pub allowed : AreAllowed u value answer.opens answer.rows (pieces_above k.number answer.plan) most
  pub walked : ℕ
  pub older : ℕ
  pub allowed_older : AreOlderAllowed h.prior u value answer.rows (pieces_below k.number answer.plan) walked older
  pub own : u.clock.loads ≤ v.clock.loads + most + walked
  pub counted : loads ≤ loaded + most + walked + older

-- how often a record was parsed: those of the full pieces that aren't open, each once
pub record HasParsedWith {content : Option (List ℕ)} {k : Key} {cold : Cold} (h : CarriesTable content k cold)
    (u : View)
    (answer : Answer) (parsed parses : ℕ) : Type 0 where
  pub between : ℕ
  pub above : HasParsed u answer.opens (pieces_above k.number answer.plan) (min (max answer.from k.number) answer.to)
      answer.to
      parsed between
  pub below : parses ≡ between + older_parses h.end.entries (pieces_below k.number answer.plan)

-- on a disk that carries the table: the range and the plan are those of what is asked, and the rows are exactly the
-- records of the range on which the definition that the name means has the value, newest first. Those in the table are
-- less the open ones; the older ones are a selection of the entries for which the disk stands, and none of them is open
pub record IsAnswerWith {content : Option (List ℕ)} {k : Key} {cold : Cold} (h : CarriesTable content k cold)
    (v u : View)
    (known : Known) (ask : Ask) (answer : Answer) (parsed parses loaded loads : ℕ) : Type 0 where
  pub planned : IsPlanned v u known ask answer.from answer.to answer.opens answer.plan
  pub def : Definition
  pub means : IsAccepted planned.asked.named.newest.listed.def def
  pub opens : (n : ℕ) → Among n answer.opens → k.number ≤ n
  pub upper : List Row
  pub lower : List Row
  pub rows : answer.rows ≡ upper ++ lower
  pub above : Finds u def ask.value (min (max answer.from k.number) answer.to) answer.to answer.opens upper
  pub below : lower ≡ select (map selectable h.end.entries) (evaluation def) ask.value answer.from
      (min answer.to k.number) []
  pub parsed_are : HasParsedWith h u answer parsed parses
  pub work : IsWorkWith h v u ask.value answer loaded loads

-- ---- refusals

-- the range that is asked for was planned, and begins at this number or before it
pub record IsBroken (v u : View) (known : Known) (ask : Ask) (first : ℕ) : Type 0 where
  pub from : ℕ
  pub to : ℕ
  pub opens : List ℕ
  pub plan : List Piece
  pub planned : IsPlanned v u known ask from to opens plan
  pub least : from ≤ first

-- why there is no answer; a refusal comes only where none of those before it does. A fault or damage of the disk comes
-- only where a range was planned that begins below the table, and damage is at one of its numbers, or at the table's
-- first
abbrev pub IsRefusedWith : View → View → Known → Ask → ScanRefusal → Type 0
IsRefusedWith v u known ask (refusal.UnknownName version) = IsUnplanned v u known ask (refusal.UnknownName version)
IsRefusedWith v u known ask (refusal.EmptyRange from to) = IsUnplanned v u known ask (refusal.EmptyRange from to)
IsRefusedWith v u known ask (refusal.NotCovered from to) = IsUnplanned v u known ask (refusal.NotCovered from to)
IsRefusedWith v u known ask (refusal.ColdRange base) = ⊥
IsRefusedWith v u known ask refusal.DiskFault = IsBroken v u known ask u.about.number
IsRefusedWith v u known ask (refusal.Damaged n) = (n ≤ u.about.number) × IsBroken v u known ask n
IsRefusedWith v u known ask refusal.OutOfMemory = ⊤

-- what was read isn't damaged
abbrev pub IsUndamagedScan : ScanRefusal → Type 0
IsUndamagedScan (refusal.UnknownName version) = ⊤
IsUndamagedScan (refusal.EmptyRange from to) = ⊤
IsUndamagedScan (refusal.NotCovered from to) = ⊤
IsUndamagedScan (refusal.ColdRange base) = ⊤
IsUndamagedScan refusal.DiskFault = ⊤
IsUndamagedScan (refusal.Damaged n) = ⊥
IsUndamagedScan refusal.OutOfMemory = ⊤
