-- What was read on both sides of the base is an answer.
use Rattle.std.proofs.Common.{◌≡◌, ℕ, ◌≤◌, List, [], ◌++◌, min, sym, ap, ◌∙◌, subst, arith}
use Rattle.std.specs.Prelude.{Option}
use Rattle.fish_cold.specs.within.Caching.{IsColdUndamaged}
use Rattle.fish_cold.specs.Carries.{CarriesTable}
use Rattle.fish_cold.specs.declared.cold.Cold.{Cold}
use Rattle.fish_cold.specs.declared.refusal.ColdRefusal.{ColdRefusal}
use Rattle.fish_cold.specs.declared.refusal.ColdRefusal.TheVariants as cold
use Rattle.fish_epoch.specs.declared.definitions.Known.{Known}
use Rattle.fish_lang.specs.Definition.{definition_of}
use Rattle.fish_plan.specs.declared.pieces.Piece.{Piece}
use Rattle.fish_rule.proofs.laws.Learning.{learns_both}
use Rattle.fish_rule.specs.Logs.{Learns}
use Rattle.fish_rule.specs.declared.view.Key.{Key}
use Rattle.fish_rule.specs.declared.view.View.{View}
use Rattle.fish_scan.proofs.Answering.{asked_later, planned_later}
use Rattle.fish_scan.proofs.Loading.{records_later}
use Rattle.fish_scan.proofs.OlderRows.{older_selection}
use Rattle.fish_scan.proofs.Working.{all_allowed_later}
use Rattle.fish_scan.specs.Across.{IsAnswerWith, IsRefusedWith, IsUndamagedScan}
use Rattle.fish_scan.specs.within.Across.{HasReadAcross}
use Rattle.fish_scan.specs.Below.{AreOlderAllowed}
use Rattle.fish_scan.specs.within.Colder.{IsDamageIn}
use Rattle.fish_scan.specs.Cutting.{pieces_above, pieces_below}
use Rattle.fish_scan.specs.within.Cutting.{last_below}
use Rattle.fish_scan.specs.Matching.{Finds}
use Rattle.fish_scan.specs.within.Older.{FindsOlder}
use Rattle.fish_scan.specs.Parses.{HasParsed}
use Rattle.fish_scan.specs.within.Reach.{first_in}
use Rattle.fish_scan.specs.Refusals.{scan_refusal_of}
use Rattle.fish_scan.specs.Scans.{IsUnplanned, OnlyScans}
use Rattle.fish_scan.specs.within.Scans.{IsPlannedScan}
use Rattle.fish_scan.specs.Work.{AreAllowed}
use Rattle.fish_scan.specs.declared.ask.Ask.{Ask}
use Rattle.fish_scan.specs.declared.refusal.ScanRefusal.{ScanRefusal}
use Rattle.fish_scan.specs.declared.refusal.ScanRefusal.TheVariants as refusal
use Rattle.fish_scan.specs.declared.scanning.PlannedScan.{PlannedScan}
use Rattle.fish_value.specs.declared.row.Row.{Row}
use Rattle.fish_value.specs.declared.value.Value.{Value}

-- records that were parsed are those of a later view
pub parsed_later : (v u : View) (opens : List ℕ) (pieces : List Piece) (from to old new : ℕ) → Learns v u
    → HasParsed v opens pieces from to old new → HasParsed u opens pieces from to old new
parsed_later v u opens pieces from to old new learns h = record {
  records = h.records;
  are = record {
    are = records_later v u from to h.records learns h.are.are;
    inside = h.are.inside;
    closed = h.are.closed;
    all = λ n inside closed x more w rule seat at stored.
        h.are.all n inside closed x (learns_both v u x learns more) w rule seat at stored;
  };
  counted = h.counted;
}

-- ---- answers

pub answered_with : {content : Option (List ℕ)} {k : Key} {cold : Cold} (h : CarriesTable content k cold) (v m u : View)
    (known : Known) (ask : Ask) (p : PlannedScan) (rows : List Row) (parsed parses loaded loads : ℕ) → m.about ≡ k → OnlyScans m u
    → m.clock.loads ≡ v.clock.loads → IsPlannedScan v m known ask p → HasReadAcross h m u p.query p.plan [] rows parsed parses loaded loads
    → IsAnswerWith h v u known ask (record {
      from = p.query.reach.from;
      to = p.query.reach.to;
      opens = p.query.reach.opens;
      rows = rows;
      plan = p.plan;
    }) parsed parses loaded loads
unfolding asked_later planned_later
answered_with {k = k} h v m u known ask p rows parsed parses loaded loads about after still ready read =
    let reach = p.query.reach in
    let def = definition_of p.query.def in
    let upper = read.above.0 in
    let lower = read.below.rows.0 in
    let added : rows ≡ upper ++ lower = read.below.rows.1 ∙ ap (λ (z : List Row). z ++ lower) read.above.1 in
    let most = read.work_above.0 in
    let rises = read.work_above.2 in
    let one = rises.own in
    let two = read.below.own in
    let three = rises.counted in
    let four = read.below.few in
    record {
      planned = planned_later v m u known ask p after ready;
      def = def;
      means = ready.means;
      opens = λ n among. subst (λ (z : Key). z.number ≤ n) about (ready.reach.opened n among);
      upper = upper;
      lower = lower;
      rows = added;
      above = subst (λ (z : Value). Finds u def z (first_in k reach) reach.to reach.opens upper) ready.value read.above.2;
      below = older_selection h.end.entries def ask.value reach.from (min reach.to k.number) lower
          (subst (λ (z : Value). FindsOlder h.end.entries def z reach.from (last_below k reach) lower) ready.value read.below.rows.2);
      parsed_are = record { between = read.parses_between; above = read.parsed_above; below = read.below.parses_are };
      work = record {
        most = most;
        allowed = subst (λ (z : Value × List Row). AreAllowed u z.0 reach.opens z.1 (pieces_above k.number p.plan) most)
            (λ i. (ready.value i, sym read.below.rows.1 i))
            (all_allowed_later read.between u p.query.value reach.opens read.rows lower (pieces_above k.number p.plan) most read.learns
            read.work_above.1);
        walked = read.below.walked;
        older = read.below.most;
        allowed_older = subst (λ (z : Value). AreOlderAllowed h.prior u z rows (pieces_below k.number p.plan) read.below.walked
            read.below.most) ready.value read.below.allowed;
        own = omega arith;
        counted = omega arith;
      };
    }

-- ---- refusals

-- why there is no plan
pub unplanned_with : (v u : View) (known : Known) (ask : Ask) (r : ScanRefusal) → IsUnplanned v u known ask r
    → IsRefusedWith v u known ask r
unplanned_with v u known ask (refusal.UnknownName version) h = h
unplanned_with v u known ask (refusal.EmptyRange a b) h = h
unplanned_with v u known ask (refusal.NotCovered a b) h = h
unplanned_with v u known ask (refusal.ColdRange base) h = h
unplanned_with v u known ask refusal.DiskFault h = absurd h
unplanned_with v u known ask (refusal.Damaged number) h = absurd h
unplanned_with v u known ask refusal.OutOfMemory h = tt

-- is no fault and no damage
pub unplanned_sound : (v u : View) (known : Known) (ask : Ask) (r : ScanRefusal) → IsUnplanned v u known ask r → IsUndamagedScan r
unplanned_sound v u known ask (refusal.UnknownName version) h = tt
unplanned_sound v u known ask (refusal.EmptyRange a b) h = tt
unplanned_sound v u known ask (refusal.NotCovered a b) h = tt
unplanned_sound v u known ask (refusal.ColdRange base) h = tt
unplanned_sound v u known ask refusal.DiskFault h = tt
unplanned_sound v u known ask (refusal.Damaged number) h = h
unplanned_sound v u known ask refusal.OutOfMemory h = tt

pub unplanned_fault : (v u : View) (known : Known) (ask : Ask) (r : ScanRefusal) → IsUnplanned v u known ask r
    → r ≡ refusal.DiskFault → ⊥
unplanned_fault v u known ask r h is = subst (IsUnplanned v u known ask) is h

-- a fault or damage came after the range was planned
pub broken_with : (v m u : View) (known : Known) (ask : Ask) (p : PlannedScan) (base : ℕ) (e : ColdRefusal) → OnlyScans m u
    → IsPlannedScan v m known ask p → base ≡ u.about.number → IsDamageIn p.query.reach.from base e
    → IsRefusedWith v u known ask (scan_refusal_of e)
broken_with v m u known ask p base cold.DiskFault after ready is h = record {
  from = p.query.reach.from;
  to = p.query.reach.to;
  opens = p.query.reach.opens;
  plan = p.plan;
  planned = planned_later v m u known ask p after ready;
  least = omega arith;
}
broken_with v m u known ask p base (cold.Damaged n) after ready is h = (
  (let most = h.1 in omega arith),
  record {
    from = p.query.reach.from;
    to = p.query.reach.to;
    opens = p.query.reach.opens;
    plan = p.plan;
    planned = planned_later v m u known ask p after ready;
    least = h.0;
  },
)
broken_with v m u known ask p base cold.OutOfMemory after ready is h = tt

pub sound_of : (e : ColdRefusal) → IsColdUndamaged e → IsUndamagedScan (scan_refusal_of e)
sound_of cold.DiskFault h = tt
sound_of (cold.Damaged n) h = h
sound_of cold.OutOfMemory h = tt
