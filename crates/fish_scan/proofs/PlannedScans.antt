-- What was planned fills its range, what is answered of it, and why there is no answer.
use Rattle.std.proofs.Common.{◌≡◌, ℕ, ◌≤◌, List, [], min, sym, ◌∙◌, subst, arith}
use Rattle.fish_catalog.specs.declared.listed.Listed.{Listed}
use Rattle.fish_epoch.specs.declared.definitions.Known.{Known}
use Rattle.fish_lang.specs.Definition.{definition_of}
use Rattle.fish_plan.proofs.Inside.{full_is_plan}
use Rattle.fish_plan.specs.Pieces.{Fill}
use Rattle.fish_plan.specs.declared.pieces.Piece.{Piece}
use Rattle.fish_rule.proofs.laws.Learning.{extends_self}
use Rattle.fish_rule.specs.declared.view.Key.{Key}
use Rattle.fish_rule.specs.declared.view.View.{View}
use Rattle.fish_scan.proofs.Answering.{asked_later, planned_later, scans_extends}
use Rattle.fish_scan.specs.Matching.{Finds}
use Rattle.fish_scan.specs.within.Reach.{first_in}
use Rattle.fish_scan.specs.Scans.{IsAnswer, IsExplained, IsPlan, IsRefused, IsUnplanned, OnlyScans}
use Rattle.fish_scan.specs.within.Scans.{IsCold, IsPlannedScan}
use Rattle.fish_scan.specs.declared.ask.Ask.{Ask}
use Rattle.fish_scan.specs.declared.ask.How.{How}
use Rattle.fish_scan.specs.declared.ask.How.TheVariants as how
use Rattle.fish_scan.specs.declared.reach.Reach.{Reach}
use Rattle.fish_scan.specs.declared.refusal.ScanRefusal.{ScanRefusal}
use Rattle.fish_scan.specs.declared.refusal.ScanRefusal.TheVariants as refusal
use Rattle.fish_scan.specs.declared.scanning.PlannedScan.{PlannedScan}
use Rattle.fish_value.specs.declared.row.Row.{Row}

-- a plan fills its range
pub plan_fills : (v u : View) (rows : List Listed) (text : List ℕ) (way : How) (from settled to : ℕ) (plan : List Piece) → from ≤ to
    → IsPlan v u rows text way from settled to plan → Fill plan from to
plan_fills v u rows text how.Full from settled to plan some h =
    subst (λ (z : List Piece). Fill z from to) (sym h) (full_is_plan from to [] some).fill
plan_fills v u rows text how.Auto from settled to plan some h = h.cover.fill
plan_fills v u rows text how.Index from settled to plan some h = h.0.cover.fill

pub planned_fills : (v u : View) (known : Known) (ask : Ask) (p : PlannedScan) → IsPlannedScan v u known ask p
    → Fill p.plan p.query.reach.from p.query.reach.to
planned_fills v u known ask p h =
    let first = h.reach.range.first_is in
    plan_fills v u _ _ ask.how p.query.reach.from p.query.reach.settled p.query.reach.to p.plan (omega arith) h.plan

-- where it doesn't begin below the table's first number, all of it is in the table
pub all_in : (k : Key) (asked : ℕ) (reach : Reach) → reach.from ≡ min asked reach.to → k.number ≤ reach.from
    → first_in k reach ≡ reach.from
all_in k asked reach first base = omega arith

-- ---- answers

-- how the range would be read is so later
unfoldable pub explained_later : (v u t : View) (known : Known) (ask : Ask) (p : PlannedScan) → OnlyScans u t
    → IsPlannedScan v u known ask p
    → IsExplained v t known ask p.query.reach.from p.query.reach.to p.query.reach.opens p.plan
explained_later v u t known ask p after h = record {
  planned = planned_later v u t known ask p after h;
  fill = planned_fills v u known ask p h;
}

-- where it doesn't begin below the log's first number, the rows that were found in it are those of an answer
pub answer_found : (v u t : View) (known : Known) (ask : Ask) (p : PlannedScan) (rows : List Row) → OnlyScans u t
    → IsPlannedScan v u known ask p → u.about.number ≤ p.query.reach.from
    → Finds t (definition_of p.query.def) ask.value p.query.reach.from p.query.reach.to p.query.reach.opens rows
    → IsAnswer v t known ask (record {
      from = p.query.reach.from;
      to = p.query.reach.to;
      opens = p.query.reach.opens;
      rows = rows;
      plan = p.plan;
    })
unfolding asked_later planned_later explained_later
answer_found v u t known ask p rows after h base found = record {
  explained = explained_later v u t known ask p after h;
  base = subst (λ (z : Key). z.number ≤ p.query.reach.from) (sym after.learns.about) base;
  def = definition_of p.query.def;
  means = h.means;
  found = found;
}

-- ---- refusals

-- why there is no plan is why there is no answer
pub unplanned_refused : (v u : View) (known : Known) (ask : Ask) (r : ScanRefusal) → IsUnplanned v u known ask r
    → IsRefused v u known ask r
unplanned_refused v u known ask (refusal.UnknownName version) h = h
unplanned_refused v u known ask (refusal.EmptyRange a b) h = h
unplanned_refused v u known ask (refusal.NotCovered a b) h = h
unplanned_refused v u known ask (refusal.ColdRange base) h = absurd h
unplanned_refused v u known ask refusal.DiskFault h = absurd h
unplanned_refused v u known ask (refusal.Damaged number) h = absurd h
unplanned_refused v u known ask refusal.OutOfMemory h = tt

-- where the range begins below the table, a scan of the table alone is refused
pub cold_refused : (v t : View) (known : Known) (ask : Ask) (base : ℕ) (p : PlannedScan) (r : ScanRefusal) → base ≡ t.about.number
    → IsPlannedScan v t known ask p → IsCold base p.query.reach.from r → IsRefused v t known ask r
cold_refused v t known ask base p (refusal.ColdRange found) is h cold = (
  cold.0 ∙ is,
  (
    p.query.reach.from,
    p.query.reach.to,
    p.query.reach.opens,
    p.plan,
    (let same = cold.0 in let less = cold.1 in omega arith),
    planned_later v t t known ask p (scans_extends t t (extends_self t)) h,
  ),
)
cold_refused v t known ask base p refusal.OutOfMemory is h cold = tt
cold_refused v t known ask base p (refusal.UnknownName version) is h cold = absurd cold
cold_refused v t known ask base p (refusal.EmptyRange a b) is h cold = absurd cold
cold_refused v t known ask base p (refusal.NotCovered a b) is h cold = absurd cold
cold_refused v t known ask base p refusal.DiskFault is h cold = absurd cold
cold_refused v t known ask base p (refusal.Damaged number) is h cold = absurd cold
