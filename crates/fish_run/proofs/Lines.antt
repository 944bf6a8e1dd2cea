-- Where a full log ends: at a mark, before which all is stored, and at the line at which the mark begins.
use Rattle.std.proofs.Common.{◌≡◌, ℕ, suc, ◌+◌, ◌-◌, ◌<◌, ◌≤◌, List, length, refl, sym, ap, ◌∙◌, ◌⊎◌, subst, inl, inr, ⊎_elim}
use Rattle.std.proofs.Common.{Some, arith}
use Rattle.std.proofs.Math.Decide.{dec_lt}
use Rattle.fish_flush.specs.Reading.{IsLineAt}
use Rattle.fish_lanes.proofs.Surely.{closed_length}
use Rattle.fish_lanes.specs.Blocks.{IsMarkItem}
use Rattle.fish_lanes.specs.Ending.{EndsAlone}
use Rattle.fish_lanes.specs.Gains.{IsMarkAt}
use Rattle.fish_report.specs.declared.item.Item.TheVariants as item
use Rattle.fish_rule.proofs.laws.ClosedLogs.{always_closed, entry_at}
use Rattle.fish_rule.proofs.laws.Learning.{learns_self}
use Rattle.fish_rule.proofs.laws.Lists.{all_among}
use Rattle.fish_rule.proofs.laws.Moments.{entry_word, get_here, there_is}
use Rattle.fish_rule.proofs.laws.Regions.{starts_rise}
use Rattle.fish_rule.specs.ClosedLog.{IsClosed}
use Rattle.fish_rule.specs.Facts.{IsFound}
use Rattle.fish_rule.specs.Logs.{IsEntry, KnowsMark, Learns}
use Rattle.fish_rule.specs.Parts.{RestsAt}
use Rattle.fish_rule.specs.Regions.{code}
use Rattle.fish_rule.specs.Table.{IsOfMoment}
use Rattle.fish_rule.specs.Views.{Among}
use Rattle.fish_rule.specs.World.{World, high, low}
use Rattle.fish_rule.specs.declared.close.Remains.{Remains}
use Rattle.fish_rule.specs.declared.view.Found.{Found}
use Rattle.fish_rule.specs.declared.view.Key.{Key}
use Rattle.fish_rule.specs.declared.view.Kind.TheVariants.{Mark}
use Rattle.fish_rule.specs.declared.view.Shut.{Shut}
use Rattle.fish_rule.specs.declared.view.View.{View}
use Rattle.fish_run.specs.Blocks.{IsFullOf, Round}
use Rattle.fish_run.specs.within.Blocks.{AreMarked}

-- ---- the end stays

-- where some claim had shut the pass, the log ends at a mark
shut_mark : (v : View) (from : ℕ) (c : Shut) → IsOfMoment v → EndsAlone v from → v.shut ≡ Some c → KnowsMark v from
shut_mark v from c s h is = by h.ends
  where
    w : World
    w = s.moment

    rests : RestsAt w.count w.line (Some (record { number = high h.tail.0; line = low h.tail.0 }))
    rests = subst (RestsAt w.count w.line) h.tail.1 (s.rule.tails s.seat v s.at h.alone.control h.alone.all)

    by : (from ≡ h.count) ⊎ ((from < h.count) × KnowsMark v from) → KnowsMark v from
    by (inr m) = m.1
    by (inl same) =
        let mark = h.marks c is v (learns_self v) w s.rule s.seat s.at s.rule in
        let n : ℕ = mark.0 in
        let above = mark.1.above in
        let below = mark.1.below in
        let here : high h.tail.0 ≡ w.count = rests.0 in
        let count : high h.tail.0 ≡ h.count = h.tail.2 in
        let floor = s.rule.floors s.seat v s.at in
        let settled = h.settled in
        absurd ((s.rule.settling.below n above (omega arith)).unmarked mark.1.kind)

-- so nothing is stored in the table any more
pub end_stays : (v u : View) (from to : ℕ) (c : Shut) → IsOfMoment v → IsOfMoment u → Learns v u → EndsAlone v from → EndsAlone u to
    → v.shut ≡ Some c → to ≤ from
end_stays v u from to c stood stands learns h k is = pick (dec_lt from to)
  where
    pick : Dec (from < to) → to ≤ from
    pick (no not_less) = omega arith
    pick (yes less) =
        let mark = shut_mark v from c stood h is u learns stands.moment stands.rule stands.seat stands.at in
        let floor = stands.rule.floors stands.seat u stands.at in
        let settled = k.settled in
        let above = h.above in
        let about = ap (λ (z : Key). z.number) learns.about in
        absurd ((stands.rule.settling.below from (omega arith) (omega arith)).unmarked mark)

-- ---- the line at which it ends

module _ (v : View) (remains : Remains) (closed : IsClosed v remains) where
  -- no entry of the closed log is a mark
  unmarked : (n : ℕ) → v.about.number ≤ n → n < v.about.number + length remains.log → high (closed.moment.dir n) ≡ code Mark → ⊥
  unmarked n above inside mark =
      let i : ℕ = n - v.about.number in
      let is : v.about.number + i ≡ n = omega arith in
      let t = there_is remains.log i (omega arith) in
      let e : IsEntry closed.moment (v.about.number + i) t.0 =
      entry_at closed.rule remains.log closed.log i t.0 (get_here remains.log i t.0 t.1) in
      (entry_word closed.moment n t.0 (subst (λ (z : ℕ). IsEntry closed.moment z t.0) is e)).unmarked mark

  -- so each is before all claims that found it full
  pub fulls_past : (rounds : List Round) → AreMarked v rounds → (line lines e : ℕ) → IsFullOf rounds line lines e → remains.lines ≤ line
  fulls_past rounds h line lines e f =
      let full = f.2 in
      let named = all_among (IsMarkItem v) (item.IngestFull full.file line lines e full.stored full.refused) full.lane.items
      (h f.0 f.1 full.at full.lane full.lane_is) full.among full.file line lines e full.stored full.refused refl in
      let found = always_closed v v (IsMarkAt line lines) remains (learns_self v) closed named.0 closed.rule in
      pick found.0 found.1 (dec_lt found.0 (v.about.number + length remains.log))
    where
      pick : (n : ℕ) → IsFound v.about closed.moment.count closed.moment.dir closed.rule.start
          (record { number = n; kind = Mark; line = line; lines = lines })
          → Dec (n < v.about.number + length remains.log) → remains.lines ≤ line
      pick n found (yes inside) = absurd (unmarked n found.above inside found.kind)
      pick n found (no not_inside) =
          let below = found.below in
          let up = starts_rise v.about closed.moment.count closed.moment.line closed.rule.start closed.rule.space.regions
          (v.about.number + length remains.log) n (omega arith) (omega arith) (omega arith) in
          let here = closed.lines in
          let there = found.line in
          omega arith

  -- a line that the pass knows to be that of the log's end is what is left
  pub line_is : (to line : ℕ) → EndsAlone v to → IsLineAt v to line → line ≡ remains.lines
  line_is to line h at =
      let end : closed.rule.start to ≡ remains.lines =
      ap closed.rule.start (sym (closed_length v to remains h closed)) ∙ sym closed.lines in
      ⊎_elim
      (λ (first : (to ≡ v.about.number) × (line ≡ v.about.line)).
      first.1 ∙ sym closed.rule.space.regions.first ∙ ap closed.rule.start (sym first.0) ∙ end)
      (λ (f : (f : Found) × Among f v.learned.found × (suc f.number ≡ to) × (f.line + f.lines ≡ line)).
      let found = all_among (IsFound v.about closed.moment.count closed.moment.dir closed.rule.start) f.0 v.learned.found
      closed.facts.found f.1 in
      sym f.3 ∙ sym found.lines ∙ ap closed.rule.start f.2 ∙ end) at
