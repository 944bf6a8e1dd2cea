-- A table that is full and has no entry is near the limits of a log.
use Rattle.std.proofs.Common.{◌≡◌, ◌≢◌, ℕ, suc, ◌+◌, ◌-◌, ◌/◌, ◌<◌, ◌≤◌, List, refl, sym, ap, ◌∙◌, subst, inl, inr}
use Rattle.std.proofs.Common.{Some, arith}
use Rattle.std.proofs.Math.Decide.{dec_lt}
use Rattle.fish_lanes.specs.Blocks.{IsMarkItem, NameMarks}
use Rattle.fish_lanes.specs.Ending.{EndsAlone}
use Rattle.fish_lanes.specs.Gains.{IsMarkAt}
use Rattle.fish_lanes.specs.Outcome.{IsFullIn}
use Rattle.fish_lanes.specs.declared.lane.Lane.{Lane}
use Rattle.fish_layout.specs.Cleared.{choose}
use Rattle.fish_report.specs.declared.item.Item.TheVariants as item
use Rattle.fish_rule.proofs.laws.Learning.{learns_self}
use Rattle.fish_rule.proofs.laws.Lists.{all_among}
use Rattle.fish_rule.specs.ChainFacts.{Always}
use Rattle.fish_rule.specs.Parts.{RestsAt}
use Rattle.fish_rule.specs.Passes.{view}
use Rattle.fish_rule.specs.Regions.{code, kind_of, kind_within}
use Rattle.fish_rule.specs.Start.{table_lines}
use Rattle.fish_rule.specs.Table.{IsOfMoment}
use Rattle.fish_rule.specs.World.{World, high, last_line, low}
use Rattle.fish_rule.specs.declared.view.Key.{Key}
use Rattle.fish_rule.specs.declared.view.Kind.TheVariants.{Mark, Stored, Void}
use Rattle.fish_rule.specs.declared.view.View.{View}
use Rattle.fish_run.specs.within.Runs.{CanGoOn}
use Rattle.fish_run.specs.Tables.{IsNearLimits}
use Rattle.fish_store.proofs.Beginning.{carried_shape}
use Rattle.fish_store.specs.declared.store.Store.{Store}
use Rattle.fish_walk.specs.Settling.{EndsAt}

-- ---- a mark

-- a region that is a mark ends past the end
past_of : (end a b : ℕ) → code (kind_of end a b) ≡ 3 → end < b
unfolding kind_of
past_of end a b is = pick (dec_lt end b) is
  where
    other : (d : Dec (a / 32768 < (b - 1) / 32768)) → code (choose d Void Stored) ≡ 3 → ⊥
    other (yes less) e = absurd (let bad : 2 ≡ 3 = e in omega arith)
    other (no not_less) e = absurd (let bad : 1 ≡ 3 = e in omega arith)

    pick : (d : Dec (end < b)) → code (choose d Mark (kind_within a b)) ≡ 3 → end < b
    pick (yes less) e = less
    pick (no not_less) e = absurd (other (dec_lt (a / 32768) ((b - 1) / 32768)) e)

-- a directory word with a kind isn't 0
set_of : (x : ℕ) → high x ≡ 3 → x ≢ 0
unfolding high
set_of x is zero_ = (let bad : 0 ≡ 3 = sym (ap (λ (z : ℕ). z / 68719476736) zero_) ∙ is in absurd (omega arith))

-- where a table without an entry has a mark, it has fewer lines than a record may take
full_empty : (v : View) (to line lines : ℕ) → IsOfMoment v → EndsAlone v to → v.about.number ≡ to → Always v (IsMarkAt line lines)
    → v.about.end < v.about.line + 18625
full_empty v to line lines s h is mark = by h.ends
  where
    w : World
    w = s.moment

    rests : RestsAt w.count w.line (Some (record { number = high h.tail.0; line = low h.tail.0 }))
    rests = subst (RestsAt w.count w.line) h.tail.1 (s.rule.tails s.seat v s.at h.alone.control h.alone.all)

    by : EndsAt v to h.count → v.about.end < v.about.line + 18625
    by (inl same) =
        let found = mark v (learns_self v) s.moment s.rule s.seat s.at s.rule in
        let above = found.1.above in
        let below = found.1.below in
        let here : high h.tail.0 ≡ s.moment.count = rests.0 in
        let count : high h.tail.0 ≡ h.count = h.tail.2 in
        absurd (omega (above, below, here, count, same, is, arith))
    by (inr m) =
        let word : high (s.moment.dir to) ≡ 3 = m.1 v (learns_self v) s.moment s.rule s.seat s.at in
        let here : high h.tail.0 ≡ s.moment.count = rests.0 in
        let count : high h.tail.0 ≡ h.count = h.tail.2 in
        let less : to < s.moment.count = (let below = m.0 in omega (below, here, count, arith)) in
        let above : v.about.number ≤ to = omega (is, arith) in
        let f = s.rule.space.finished to above less (set_of (s.moment.dir to) word) in
        let past = past_of v.about.end (s.rule.start to) (s.rule.start (suc to)) (sym f.kind ∙ word) in
        let first : s.rule.start to ≡ v.about.line = ap s.rule.start (sym is) ∙ s.rule.space.regions.first in
        let small = s.rule.space.regions.small to above less in
        omega (past, first, small, arith)

-- ---- the limits

-- so it begins with so many numbers, or ends at the last line
near_of : (pages number line : ℕ) → 1 ≤ pages → line ≤ last_line → line + table_lines pages number line < line + 18625
    → IsNearLimits number (line + table_lines pages number line)
near_of pages number line some within less = pick (dec_lt 268416000 number)
  where
    pick : Dec (268416000 < number) → IsNearLimits number (line + table_lines pages number line)
    pick (yes many) = inl many
    pick (no few) = inr (omega arith)

module _ {D : Type 0} (images : D → List ℕ → Type 0) (disk : D) (m : Store) (to : ℕ) (go : CanGoOn images disk m to)
    (lanes : List Lane) (marks : NameMarks (view m.pass) lanes) where
  -- so an item tells that a table without an entry is full only near the limits of a log
  pub near_limits : m.log.key.number ≡ to → (line lines end : ℕ) → IsFullIn lanes line lines end → IsNearLimits to end
  near_limits same line lines end f =
      let v : View = view m.pass in
      let named = all_among (IsMarkItem v) (item.IngestFull f.file line lines end f.stored f.refused) f.lane.items
      (marks f.at f.lane f.lane_is) f.among f.file line lines end f.stored f.refused refl in
      let about : v.about ≡ m.log.key = go.between.can.of.about in
      let number : v.about.number ≡ to = ap (λ (k : Key). k.number) about ∙ same in
      let short = full_empty v to line lines go.between.can.of.stands go.between.end number named.0 in
      let fits = go.between.can.of.stands.rule.key_fits in
      let within = fits.some_lines in
      let low_end = fits.low_end in
      let is : v.about.end ≡ v.about.line + table_lines m.log.shape.pages v.about.number v.about.line
      = subst (λ (k : Key). k.end ≡ k.line + table_lines m.log.shape.pages k.number k.line) (sym about) go.table.end in
      let may = go.between.commit.may in
      let shape = carried_shape (images disk) m.file.flusher v m.log.shape m.registrar.catalog may.0 may.1 may.2 in
      let near = near_of m.log.shape.pages v.about.number v.about.line shape.some_pages (omega (within, low_end, arith))
      (omega (short, is, arith)) in
      subst (λ (z : ℕ × ℕ). IsNearLimits z.0 z.1) (λ i. (number i, (sym is ∙ sym named.1) i)) near
