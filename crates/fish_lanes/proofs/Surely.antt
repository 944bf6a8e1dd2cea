-- From what a pass knows to what the whole shows of the lanes' records.
use Rattle.std.proofs.Common.{◌≡◌, ℕ, ◌+◌, ◌-◌, ◌<◌, ◌≤◌, suc, List, [], ◌∷◌, length, refl, ap, subst, inr, ◌⊎◌, ⊎_elim, arith}
use Rattle.std.proofs.Common.{Some, slice_get}
use Rattle.std.proofs.Math.Decide.{dec_lt}
use Rattle.fish_catalog.specs.declared.entry.Entry.{Entry}
use Rattle.fish_catalog.specs.declared.entry.Entry.TheVariants as entry
use Rattle.fish_lanes.proofs.Exact.{StandAt, rows_exact}
use Rattle.fish_lanes.proofs.RowLists.{ascends_lower}
use Rattle.fish_lanes.specs.Ending.{EndsAlone}
use Rattle.fish_lanes.specs.within.Gains.{AreRowsKnown}
use Rattle.fish_lanes.specs.Records.{HasNumber, LaneRow, rows_of_lane}
use Rattle.fish_lanes.specs.within.Records.{Ascends, entry_of}
use Rattle.fish_rule.proofs.laws.ClosedLogs.{always_closed, entry_at, settled_within}
use Rattle.fish_rule.proofs.laws.Moments.{before_mark, claimed, entry_word, get_here, stored_by, there_is}
use Rattle.fish_rule.proofs.laws.Learning.{learns_self}
use Rattle.fish_rule.proofs.laws.Regions.{published}
use Rattle.fish_rule.specs.ChainFacts.{Always}
use Rattle.fish_rule.specs.Logs.{IsEntry, KnowsAs, KnowsMark}
use Rattle.fish_rule.specs.ClosedLog.{IsClosed}
use Rattle.fish_rule.specs.declared.close.Remains.{Remains}
use Rattle.fish_rule.specs.Parts.{IsEntryWord, RestsAt}
use Rattle.fish_rule.specs.Regions.{code}
use Rattle.fish_rule.specs.Table.{IsOfMoment}
use Rattle.fish_rule.specs.Views.{Among, Has}
use Rattle.fish_rule.specs.World.{World, high, low}
use Rattle.fish_rule.specs.declared.view.Key.{Key}
use Rattle.fish_rule.specs.declared.view.Kind.TheVariants.{Mark, Stored}
use Rattle.fish_rule.specs.declared.view.Own.{Own}
use Rattle.fish_rule.specs.declared.view.View.{View}
use Rattle.fish_value.specs.declared.field.Form.{Form}
use Rattle.fish_whole.proofs.Entries.{entry_there, settled_there, sure_entry, sure_settled}
use Rattle.fish_whole.proofs.Wholes.{may_hold}
use Rattle.fish_whole.specs.Whole.{MayEnd, MayHold, Whole, WillHold}

-- ---- the end of a table

-- the log of a table ends where its pass knows that it does
pub closed_length : (v : View) (to : ℕ) (remains : Remains) → EndsAlone v to → IsClosed v remains
    → v.about.number + length remains.log ≡ to
closed_length v to remains h c =
    let floor = c.rule.floors c.seat c.last c.at in
    let a = h.settled in
    let b = c.later.settled in
    let above = h.above in
    let up = settled_within c.rule remains.log c.log in
    let t = h.tail in
    let rests : RestsAt c.moment.count c.moment.line (Some (record { number = high t.0; line = low t.0 })) =
    subst (RestsAt c.moment.count c.moment.line) t.1 c.rests in
    let count : high t.0 ≡ c.moment.count = rests.0 in
    let same : high t.0 ≡ h.count = t.2 in
    let few = c.log.within in
    ⊎_elim (λ (e : to ≡ h.count). omega arith)
    (λ (m : (to < h.count) × KnowsMark v to).
    let mark : high (c.moment.dir to) ≡ code Mark =
    always_closed v v (λ k w. high (w.dir to) ≡ code Mark) remains (learns_self v) c m.1 in
    pick mark (dec_lt to (v.about.number + length remains.log))) h.ends
  where
    pick : high (c.moment.dir to) ≡ code Mark → Dec (to < v.about.number + length remains.log)
        → v.about.number + length remains.log ≡ to
    pick mark (no not_less) =
        let floor = c.rule.floors c.seat c.last c.at in
        let a = h.settled in
        let b = c.later.settled in
        let up = settled_within c.rule remains.log c.log in
        omega arith
    pick mark (yes inside) =
        let above = h.above in
        let i : ℕ = to - v.about.number in
        let is : v.about.number + i ≡ to = omega arith in
        let t = there_is remains.log i (omega arith) in
        let e : IsEntry c.moment (v.about.number + i) t.0 = entry_at c.rule remains.log c.log i t.0 (get_here remains.log i t.0 t.1) in
        absurd ((entry_word c.moment to t.0 (subst (λ (z : ℕ). IsEntry c.moment z t.0) is e)).unmarked mark)

-- ---- a pass that knows the end

-- it has counted up to there
end_counted : (u : View) (to : ℕ) (end : EndsAlone u to) → to ≤ end.count
end_counted u to end = ⊎_elim (λ (e : to ≡ end.count). omega arith)
    (λ (m : (to < end.count) × KnowsMark u to). let a = m.0 in omega arith) end.ends

-- its own records lie before it
pub own_before : (v : View) (to : ℕ) (o : Own) → IsOfMoment v → EndsAlone v to → Among o v.own → o.number < to
own_before v to o s h m =
    let w : World = s.moment in
    let r = s.rule in
    let by = ((r.own s.seat v s.at).sound o m).1 in
    let below = by.below in
    let t = h.tail in
    let rests : RestsAt w.count w.line (Some (record { number = high t.0; line = low t.0 })) =
    subst (RestsAt w.count w.line) t.1 (r.tails s.seat v s.at h.alone.control h.alone.all) in
    let count : high t.0 ≡ w.count = rests.0 in
    let same : high t.0 ≡ h.count = t.2 in
    let above = h.above in
    ⊎_elim (λ (e : to ≡ h.count). omega arith)
    (λ (m : (to < h.count) × KnowsMark v to).
    before_mark r to o.number (omega arith) (m.1 v (learns_self v) w r s.seat s.at)
    (record {
      published = published (w.dir o.number) Stored by.stored;
      unmarked = λ bad. let st = by.stored in omega arith;
    })) h.ends

-- what is known to be an entry lies before it
pub entry_before : (v : View) (to n : ℕ) → IsOfMoment v → EndsAlone v to → Always v (λ k w. IsEntryWord (w.dir n)) → n < to
entry_before v to n s h known =
    let w : World = s.moment in
    let r = s.rule in
    let word = known v (learns_self v) w r s.seat s.at in
    let below = claimed r n word.published in
    let t = h.tail in
    let rests : RestsAt w.count w.line (Some (record { number = high t.0; line = low t.0 })) =
    subst (RestsAt w.count w.line) t.1 (r.tails s.seat v s.at h.alone.control h.alone.all) in
    let count : high t.0 ≡ w.count = rests.0 in
    let same : high t.0 ≡ h.count = t.2 in
    let above = h.above in
    ⊎_elim (λ (e : to ≡ h.count). omega arith)
    (λ (m : (to < h.count) × KnowsMark v to).
    before_mark r to n (omega arith) (m.1 v (learns_self v) w r s.seat s.at) word) h.ends

-- and so does an entry that is told
pub told_before : (v : View) (to n : ℕ) (e : Entry) → IsOfMoment v → EndsAlone v to → KnowsAs v n e → n < to
told_before v to n e s h tells = entry_before v to n s h (λ u learns w r seat at. entry_word w n e (tells u learns w r seat at))

-- the table begins no later than what it settled before
pub end_above : (v : View) (from : ℕ) → EndsAlone v from → v.about.number ≤ v.learned.settled
end_above v from h = (let a = h.above in let b = h.settled in omega arith)

-- ---- the records of lanes

-- a record of the whole in the table before its end is among the control pass's own
stored_own : (past : Whole) (u : View) (to : ℕ) (w : Whole) → MayEnd past u w → (end : EndsAlone u to) → (n lane : ℕ) (form : Form)
    (payload : List ℕ) → u.about.number ≤ n → n < to → slice_get w.log n ≡ Some (entry.Stored lane form payload)
    → (1 ≤ lane) × Among (record { lane = lane; number = n }) u.own
stored_own past u to w m end n lane form payload above below is =
    let c = m.closed in
    let h = may_hold past u w m in
    let base = m.base in
    let same : m.last.about.number ≡ u.about.number = ap (λ (z : Key). z.number) m.later.learns.about in
    let inside = settled_there past u w h to end.settled in
    let e : IsEntry c.moment n (entry.Stored lane form payload) =
    entry_there past u w h n (entry.Stored lane form payload) (omega arith) (omega arith) is in
    let proper = e.1.spells.proper in
    let lane_is = e.1.lane_is in
    let some_ : 1 ≤ lane = (let a = proper.some_lane in omega arith) in
    let few : lane ≤ 16 = (let a = proper.lane in omega arith) in
    let by = stored_by c.rule n lane form payload (omega arith) e in
    let o : Own = record { lane = lane; number = n } in
    let has : Has m.last.lane m.last.out lane = (some_, few, inr (m.control, λ x. elim (subst (Among lane) m.all x) [ ])) in
    let own : Among o m.last.own = c.owns.complete o has by in
    let counted = end.counted in
    let ends = end_counted u to end in (
      some_,
      ⊎_elim (λ (x : Among o u.own). x) (λ (late : u.learned.count ≤ n). absurd (omega arith)) (m.later.gained o own),
    )

-- a record between the end before a block and the end after it is of a lane of which the control pass has a record there
pub will_own : (past : Whole) (u : View) (from to many : ℕ) → EndsAlone u to → u.about.number ≤ from
    → ((o : Own) → Among o u.own → (o.number < from) ⊎ (o.lane ≤ many))
    → WillHold past u (λ w. (n lane : ℕ) (form : Form) (payload : List ℕ) → from ≤ n → n < to
    → slice_get w.log n ≡ Some (entry.Stored lane form payload) → (1 ≤ lane) × (lane ≤ many))
will_own past u from to many end based all w m n lane form payload above below is =
    let own = stored_own past u to w m end n lane form payload (omega arith) below is in (
      own.0,
      ⊎_elim (λ (less : n < from). absurd (omega arith)) (λ (h : lane ≤ many). h) (all (record { lane = lane; number = n }) own.1),
    )

-- rows that are told stand in the whole
rows_stand : (past : Whole) (v : View) (lane from to : ℕ) (rows : List LaneRow) (w : Whole) → MayHold past v w → AreRowsKnown v lane rows
    → (within : from ≤ to) (inside : to ≤ length w.log) (low_ : ℕ) → length past.log ≤ low_ → Ascends low_ rows to
    → StandAt w.log from to lane within inside rows
rows_stand past v lane from to [] w m told within inside low_ base up = tt
rows_stand past v lane from to (r ∷ rows) w m told within inside low_ base up =
    let above = up.0 in (
      sure_entry past v r.number (entry_of lane r) (omega arith) told.0 w m,
      rows_stand past v lane from to rows w m told.1 within inside (suc r.number) (omega arith) up.1,
    )

-- numbers that ascend below one end below another where each of them does
ascends_before : (v : View) (lane from high_ to : ℕ) (rows : List LaneRow) → IsOfMoment v → EndsAlone v to → from ≤ to
    → AreRowsKnown v lane rows → Ascends from rows high_ → Ascends from rows to
ascends_before v lane from high_ to [] s h le told up = le
ascends_before v lane from high_ to (r ∷ rows) s h le told up =
    let less = told_before v to r.number (entry_of lane r) s h told.0 in
    (up.0, ascends_before v lane (suc r.number) high_ to rows s h less told.1 up.1)

-- from the end before a block up to the end after it they are the rows that the lane's pass gained, where the control
-- pass has no others of the lane
pub will_rows : (past : Whole) (u : View) (lane from to low_ high_ : ℕ) (rows : List LaneRow) → IsOfMoment u → EndsAlone u to
    → u.about.number ≤ from → from ≤ to → from ≤ low_ → AreRowsKnown u lane rows → Ascends low_ rows high_
    → ((o : Own) → Among o u.own → o.lane ≡ lane → (o.number < from) ⊎ HasNumber o.number rows)
    → WillHold past u (λ w. rows_of_lane w.log from to lane ≡ rows)
will_rows past u lane from to low_ high_ rows s end based within from_ told up all w m =
    let h = may_hold past u w m in
    let base = m.base in
    let same : m.last.about.number ≡ u.about.number = ap (λ (z : Key). z.number) m.later.learns.about in
    let inside : to ≤ length w.log = sure_settled past u to end.settled w h in
    let up' : Ascends from rows to = ascends_before u lane from high_ to rows s end within told
    (ascends_lower from low_ high_ rows from_ up) in
    rows_exact w.log from to lane within inside rows up'
    (rows_stand past u lane from to rows w h told within inside from (omega arith) up')
    (λ n form payload above below is.
    let own = stored_own past u to w m end n lane form payload (omega arith) below is in
    ⊎_elim (λ (less : n < from). absurd (omega arith)) (λ (k : HasNumber n rows). k)
    (all (record { lane = lane; number = n }) own.1 refl))
