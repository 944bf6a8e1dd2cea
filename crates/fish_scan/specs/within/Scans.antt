-- What a scan answers, and why it refuses. What private clauses need of it.
use Rattle.std.specs.Prelude.{ℕ, ◌≡◌, ◌<◌, List, ⊤}
use Rattle.fish_catalog.specs.declared.listed.Listed.{Listed}
use Rattle.fish_epoch.specs.Definitions.{rows_of}
use Rattle.fish_epoch.specs.declared.definitions.Known.{Known}
use Rattle.fish_lang.specs.Definition.{definition_of}
use Rattle.fish_lang.specs.Language.{IsAccepted}
use Rattle.fish_plan.specs.Gaps.{IsFirstGap}
use Rattle.fish_plan.specs.declared.pieces.Piece.{Piece}
use Rattle.fish_rule.specs.declared.view.View.{View}
use Rattle.fish_scan.specs.within.Reach.{IsReach}
use Rattle.fish_scan.specs.Scans.{IsAsked, IsCovered, IsPlan, first_asked}
use Rattle.fish_scan.specs.declared.ask.Ask.{Ask}
use Rattle.fish_scan.specs.declared.ask.How.TheVariants as how
use Rattle.fish_scan.specs.declared.ask.How.{How}
use Rattle.fish_scan.specs.declared.matching.Query.{Query}
use Rattle.fish_scan.specs.declared.reach.Reach.{Reach}
use Rattle.fish_scan.specs.declared.refusal.ScanRefusal.TheVariants as refusal
use Rattle.fish_scan.specs.declared.refusal.ScanRefusal.{ScanRefusal}
use Rattle.fish_scan.specs.declared.scanning.PlannedScan.{PlannedScan}

-- ---- plans

-- why there is none
abbrev pub IsPlanRefused : View → View → List Listed → List ℕ → How → ℕ → ℕ → ℕ → ScanRefusal → Type 0
IsPlanRefused v u rows text way from settled to (refusal.NotCovered first last) = (way ≡ how.Index)
    × ((plan : List Piece) × IsCovered v u rows text from settled to plan × IsFirstGap plan settled first last)
IsPlanRefused v u rows text way from settled to refusal.OutOfMemory = ⊤
IsPlanRefused v u rows text way from settled to (refusal.UnknownName version) = ⊥
IsPlanRefused v u rows text way from settled to (refusal.EmptyRange first last) = ⊥
IsPlanRefused v u rows text way from settled to (refusal.ColdRange base) = ⊥
IsPlanRefused v u rows text way from settled to refusal.DiskFault = ⊥
IsPlanRefused v u rows text way from settled to (refusal.Damaged number) = ⊥

-- ---- answers

-- the definition that a text is, the value that is asked for, and the range
pub record IsQuery (text : List ℕ) (ask : Ask) (reach : Reach) (query : Query) : Type 0 where
  pub means : IsAccepted text (definition_of query.def)
  pub value : query.value ≡ ask.value
  pub reach_is : query.reach ≡ reach

-- what the pass knows before it reads a record
pub record IsPlannedScan (v u : View) (known : Known) (ask : Ask) (p : PlannedScan) : Type 0 where
  pub position : ℕ
  pub asked : IsAsked v u known ask position
  pub means : IsAccepted asked.named.newest.listed.def (definition_of p.query.def)
  pub value : p.query.value ≡ ask.value
  pub reach : IsReach v u (first_asked ask) ask.to p.query.reach
  pub plan : IsPlan v u (rows_of known) asked.named.newest.listed.def ask.how p.query.reach.from p.query.reach.settled
      p.query.reach.to p.plan

-- ---- refusals

-- a range is refused where it begins below the log's first number
abbrev pub IsCold : ℕ → ℕ → ScanRefusal → Type 0
IsCold base from (refusal.ColdRange found) = (found ≡ base) × (from < base)
IsCold base from refusal.OutOfMemory = ⊤
IsCold base from (refusal.UnknownName version) = ⊥
IsCold base from (refusal.EmptyRange first last) = ⊥
IsCold base from (refusal.NotCovered first last) = ⊥
IsCold base from refusal.DiskFault = ⊥
IsCold base from (refusal.Damaged number) = ⊥
