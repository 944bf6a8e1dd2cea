-- A block from its start to its end, put together.
use Rattle.std.proofs.Common.{◌≡◌, ℕ, ◌+◌, ◌<◌, ◌≤◌, suc, List, [], ◌∷◌, ◌++◌, length, sym, ap, ◌∙◌, subst}
use Rattle.std.proofs.Common.{inl, inr, ◌⊎◌, ⊎_elim, arith, Some, slice_get}
use Rattle.std.proofs.Math.Decide.{ℕ_discrete}
use Rattle.std.proofs.lemmas.Option.{slice_get_within}
use Rattle.fish_lanes.proofs.Lanes.{done_back, none_out}
use Rattle.fish_lanes.proofs.Gaining.{marks_same}
use Rattle.fish_lanes.proofs.Lists.{at_places, some_once}
use Rattle.fish_lanes.proofs.Moments.{Closes, counted_from, ends_behind, few_behind, get_there, learns_same}
use Rattle.fish_lanes.proofs.Ends.{closes_end, end_knows}
use Rattle.fish_lanes.proofs.RowLists.{has_above, owned_number, told_later}
use Rattle.fish_lanes.proofs.Surely.{end_above, entry_before, own_before, will_own, will_rows}
use Rattle.fish_lanes.specs.Blocks.{AreEnded, AreKept, IsBlockSpan, IsEndedLane, IsMarkItem, NameMarks, StoresByLanes, SaysBlock}
use Rattle.fish_lanes.specs.within.Blocks.{AreJoined, IsOwnOfLane, IsSeated, IsShutOfLane, SaysFirstLane, SaysOthers}
use Rattle.fish_lanes.specs.Outcome.{AreVacant}
use Rattle.fish_lanes.specs.within.Course.{AllBack, AllRan, HasFoundEnd}
use Rattle.fish_lanes.specs.Ending.{EndsAlone}
use Rattle.fish_lanes.specs.Gains.{IsMarkAt, IsShutSaid}
use Rattle.fish_lanes.specs.within.Gains.{AreRowsKnown}
use Rattle.fish_lanes.specs.Records.{HasNumber, LaneRow, rows_of_lane}
use Rattle.fish_lanes.specs.within.Records.{Ascends, owned}
use Rattle.fish_lanes.specs.Running.{IsEnded}
use Rattle.fish_lanes.specs.within.Running.{HasDone, IsFullItem}
use Rattle.fish_lanes.specs.Spans.{IsAnswerItem, Span}
use Rattle.fish_lanes.specs.within.Spans.{IsWithinSpan}
use Rattle.fish_lanes.specs.Telling.{SaysLane}
use Rattle.fish_lanes.specs.declared.block.BlockEnd.{BlockEnd}
use Rattle.fish_lanes.specs.declared.lane.Lane.{Lane}
use Rattle.fish_lanes.specs.declared.lane.LanePass.{LanePass}
use Rattle.fish_report.specs.declared.item.Item.{Item}
use Rattle.fish_lanes.specs.declared.work.LaneFault.{LaneFault}
use Rattle.fish_lanes.specs.declared.work.Work.{Work}
use Rattle.fish_rule.proofs.laws.Lists.{among_either}
use Rattle.fish_rule.proofs.laws.Learning.{learns_both}
use Rattle.fish_rule.specs.Logs.{Learns}
use Rattle.fish_rule.specs.Passes.{view}
use Rattle.fish_rule.specs.LoadSteps.{IsAlone}
use Rattle.fish_rule.specs.Parts.{IsEntryWord}
use Rattle.fish_rule.specs.Table.{IsOfMoment}
use Rattle.fish_rule.proofs.laws.ChainFacts.{always_later}
use Rattle.fish_rule.specs.Views.{AllOf, Among}
use Rattle.fish_rule.specs.ChainFacts.{Always}
use Rattle.fish_rule.specs.declared.view.Shut.{Shut}
use Rattle.fish_registry.proofs.Changing.{learns_changes}
use Rattle.fish_registry.specs.Knowing.{Knows}
use Rattle.fish_registry.specs.declared.registrar.Registrar.{Registrar}
use Rattle.fish_rule.specs.declared.table.Log.{Log}
use Rattle.fish_rule.specs.declared.view.Key.{Key}
use Rattle.fish_rule.specs.declared.view.Learned.{Learned}
use Rattle.fish_rule.specs.declared.view.Own.{Own}
use Rattle.fish_rule.specs.declared.view.View.{View}
use Rattle.fish_whole.proofs.Entries.{sure_settled, up_to_will}
use Rattle.fish_whole.proofs.Wholes.{may_hold, up_to_later}
use Rattle.fish_whole.specs.Whole.{Later, Whole, WillHold}
use Rattle.fish_whole.specs.within.Whole.{MustHoldUpTo}

module _ {Past : Whole → Type 0} {log : Log} {v w : View} {r q : Registrar} {first first' : Lane} {before done : List Lane}
    (run : AllRan Past log v w r q first first' before done) where
  -- there are as many lanes as before
  sizes : length done ≡ length before
  sizes = run.done_size ∙ run.given_size

  -- the statements of the lane at a position
  pub done_at : (i : ℕ) (y z : Lane) → slice_get run.given i ≡ Some y → slice_get done i ≡ Some z → HasDone Past log y z
  done_at i y z at_y at_z = run.others_did i y z at_y at_z

  -- the lane at a position, at each of the times
  pub record Way (i : ℕ) (z : Lane) : Type 0 where
    pub old : Lane
    pub old_at : slice_get before i ≡ Some old
    pub mid : Lane
    pub mid_at : slice_get run.given i ≡ Some mid
    pub seat : IsSeated log v i old mid
    pub run_of : HasDone Past log mid z
    pub same : seat.seat ≡ run_of.before

  pub way : (i : ℕ) (z : Lane) → slice_get done i ≡ Some z → Way i z
  way i z at =
      let less = slice_get_within done i z at in
      let size = run.done_size in
      let same_size = sizes in
      let o = get_there before i (omega arith) in
      let y = get_there run.given i (omega arith) in
      let s = run.seated i o.0 y.0 o.1 y.1 in
      let d = done_at i y.0 z y.1 at in
      record {
        old = o.0;
        old_at = o.1;
        mid = y.0;
        mid_at = y.1;
        seat = s;
        run_of = d;
        same = some_once s.seat d.before (sym (ap (λ (x : Lane). x.seat) {y = record o.0 { seat = Some s.seat }} s.is) ∙ d.before_is);
      }

  -- what the lane's pass knew and had at its start
  pub way_learned : (i : ℕ) (z : Lane) (p : Way i z) → (view p.run_of.before.pass).learned ≡ v.learned
  way_learned i z p = ap (λ (s : LanePass). (view s.pass).learned) (sym p.same) ∙ p.seat.learned

  way_lane : (i : ℕ) (z : Lane) (p : Way i z) → (view p.run_of.before.pass).lane ≡ i + 2
  way_lane i z p = ap (λ (s : LanePass). (view s.pass).lane) (sym p.same) ∙ p.seat.lane

  way_own : (i : ℕ) (z : Lane) (p : Way i z) (o : Own) → Among o (view p.run_of.before.pass).own
      → Among o v.own × (o.lane ≡ i + 2)
  way_own i z p o n = p.seat.own o (subst (λ (s : LanePass). Among o (view s.pass).own) (sym p.same) n)

  pub way_shut : (i : ℕ) (z : Lane) (p : Way i z) → (view p.run_of.before.pass).shut ≡ v.shut
  way_shut i z p = ap (λ (s : LanePass). (view s.pass).shut) (sym p.same) ∙ p.seat.shut

  pub way_about : (i : ℕ) (z : Lane) (p : Way i z) → (view p.run_of.before.pass).about ≡ v.about
  way_about i z p = ap (λ (s : LanePass). (view s.pass).about) (sym p.same) ∙ p.seat.about

  -- what shut a lane is known for good, where it was at the start
  way_marks : (i : ℕ) (z : Lane) (p : Way i z) → IsShutSaid v → IsShutSaid (view p.run_of.after.pass)
  way_marks i z p t = p.run_of.run.gains.marks (marks_same v (view p.run_of.before.pass)
      (learns_same v (view p.run_of.before.pass) (way_about i z p) (way_learned i z p)) (way_shut i z p) t)

  control_marks : IsShutSaid v → IsShutSaid w
  control_marks t = run.first_did.controlled.run.gains.marks
      (marks_same v run.control (learns_same v run.control run.gives.about run.gives.learned) run.gives.shut t)

  -- the passes may come back
  pub may_join : AreJoined log w done
  may_join =
      let g = run.first_did.controlled.run.gains in
      record {
        control = g.on.lane ∙ run.gives.control;
        idle = g.idle;
        outside = g.outside;
        out_of = λ l n. let b = run.gives.out_of l (subst (Among l) g.on.out n) in let q = b.1 in
            let same = sizes in (b.0, omega arith);
        all_out = λ l above below. subst (Among l) (sym g.on.out)
            (run.gives.all_out l above (let same = sizes in omega arith));
        back = λ i z at. let p = way i z at in done_back log v i p.old p.mid z p.seat p.run_of;
      }

  -- a lane that gets its pass keeps its number and statements
  same_number : (i : ℕ) (z : Lane) (p : Way i z) → p.mid.number ≡ p.old.number
  same_number i z p = ap (λ (q : Lane). q.number) p.seat.is

  same_works : (i : ℕ) (z : Lane) (p : Way i z) → p.mid.works ≡ p.old.works
  same_works i z p = ap (λ (q : Lane). q.works) p.seat.is

  module _ {u : View} {after : List Lane} (returned : AllBack w u done after) where
    -- the lane at a position before it gave its pass back
    pub ran_at : (i : ℕ) (y : Lane) → slice_get after i ≡ Some y → (z : Lane) × (slice_get done i ≡ Some z)
    ran_at i y at =
        let less = slice_get_within after i y at in
        let size = returned.size in
        get_there done i (omega arith)

    -- the lanes keep their numbers and statements
    pub kept_at : AreKept before after
    kept_at i x y at_x at_y =
        let z = ran_at i y at_y in
        let p = way i z.0 z.1 in
        let w' = returned.taken i z.0 y z.1 at_y in
        let old : p.old ≡ x = some_once p.old x (sym p.old_at ∙ at_x) in
        record {
          number = w'.number ∙ p.run_of.number ∙ same_number i z.0 p ∙ ap (λ (q : Lane). q.number) old;
          works = ap (λ (q : Lane). q.works) (sym old) ∙ sym (same_works i z.0 p) ∙ p.run_of.works
              ∙ ap (λ (q : List Work × List Work). q.0 ++ q.1) (λ j. (sym w'.works j, sym w'.left j));
        }

    -- the lanes have no passes any more
    pub vacant_at : AreVacant after
    vacant_at i y at_y =
        let z = ran_at i y at_y in
        (returned.taken i z.0 y z.1 at_y).seat

    -- the statements have items, but for those after a fault, and the others' items answer them
    pub all_ended : AreEnded (first' ∷ after)
    all_ended = at_places IsEndedLane first' after
        (record {
          ended = run.first_did.controlled.run.ended;
          answers = λ later. absurd (omega arith);
        })
        (λ i y at_y.
        let z = ran_at i y at_y in
        let p = way i z.0 z.1 in
        let w' = returned.taken i z.0 y z.1 at_y in
        record {
          ended = subst (λ (q : List Work × List Item × LaneFault). IsEnded q.0 q.1 q.2)
              (λ j. (sym w'.works j, sym w'.items j, sym w'.fault j)) p.run_of.run.ended;
          answers = λ later. subst (AllOf IsAnswerItem) (sym w'.items) p.run_of.answers;
        })

  module _ {u t : View} {kept : Registrar} {after : List Lane} {last : BlockEnd} (returned : AllBack w u done after)
      (ended : HasFoundEnd u t q kept last) (start : (from : ℕ) × EndsAlone v from) (stands : IsOfMoment t) where
    -- the definitions are known at the end
    pub knows : Knows t kept
    knows = end_knows ended.bound t kept ended.settles ended.knows

    -- the last steps store nothing
    pub closes : Closes u t
    closes = closes_end u ended.bound t ended.changes ended.settles

    alone : IsAlone u
    alone = record { control = returned.takes.control; all = none_out w u done returned.takes; idle = returned.takes.idle }

    start_learns : Learns v w
    start_learns = learns_both v run.control w (learns_same v run.control run.gives.about run.gives.learned)
        run.first_did.controlled.run.gains.on.learns

    pub end_learns : Learns w t
    end_learns = learns_both w u t returned.takes.learns closes.learns

    pub all_learns : Learns v t
    all_learns = learns_both v w t start_learns end_learns

    -- the control pass knows the end
    pub has_end : EndsAlone t last.to
    has_end = record {
      alone = record {
        control = closes.lane ∙ alone.control;
        all = closes.out ∙ alone.all;
        idle = closes.idle ∙ alone.idle;
      };
      outside = closes.epoch ∙ returned.takes.outside;
      above = above_end;
      settled = ended.settled;
      count = ended.count;
      counted = (let e = ended.tail.3 in omega arith);
      tail = ended.tail;
      ends = ended.ends;
      marks = λ s e. shut_told s (returned.takes.shut s (sym closes.shut ∙ e));
    }
      where
        known : IsShutSaid v
        known = start.1.marks

        above_end : t.about.number ≤ last.to
        above_end =
            let same : t.about.number ≡ v.about.number = ap (λ (z : Key). z.number) all_learns.about in
            let begins = end_above v start.0 start.1 in
            let first = start_learns.settled in
            let back = returned.takes.learns.settled in
            let bound = (learns_changes u ended.bound ended.changes).settled in
            let up = ended.rises in
            omega arith

        shut_told : (s : Shut) → (w.shut ≡ Some s) ⊎ IsShutOfLane done (length done) s → Always t (IsMarkAt s.line s.lines)
        shut_told s (inl same) = always_later w t (IsMarkAt s.line s.lines) end_learns (control_marks known s same)
        shut_told s (inr q) =
            let p = way q.position q.lane q.lane_is in
            let same : q.seat ≡ p.run_of.after = some_once q.seat p.run_of.after (sym q.seat_is ∙ p.run_of.after_is) in
            let learns : Learns (view q.seat.pass) t = learns_both (view q.seat.pass) u t
            (returned.takes.learned q.position q.lane q.seat q.below q.lane_is q.seat_is) closes.learns in
            always_later (view q.seat.pass) t (IsMarkAt s.line s.lines) learns
            (subst (λ (z : LanePass). IsShutSaid (view z.pass)) (sym same) (way_marks q.position q.lane p known) s q.shut_is)

    -- the refused items name marks
    marks_items : (s : View) (items : List Item) → Learns s t → IsShutSaid s → AllOf (IsFullItem s) items
        → AllOf (IsMarkItem t) items
    marks_items s [] learns told h = tt
    marks_items s (x ∷ items) learns told h = (
      λ file line lines end stored refused is.
          let by = h.0 file line lines end stored refused is in (
            always_later s t (IsMarkAt line lines) learns (told (record { line = line; lines = lines; end = end }) by.shut),
            by.end_is ∙ ap (λ (k : Key). k.end) (sym learns.about),
          ),
      marks_items s items learns told h.1,
    )

    first_marks : AllOf (IsMarkItem t) first'.items
    first_marks = marks_items w first'.items end_learns (control_marks start.1.marks) run.first_did.controlled.run.full

    others_marks : NameMarks t after
    others_marks i y at =
        let z = ran_at returned i y at in
        let less = slice_get_within done i z.0 z.1 in
        let p = way i z.0 z.1 in
        let w' = returned.taken i z.0 y z.1 at in
        let s = p.run_of.after in
        let back : Learns (view s.pass) t = learns_both (view s.pass) u t
        (returned.takes.learned i z.0 s (omega arith) z.1 p.run_of.after_is) closes.learns in
        subst (AllOf (IsMarkItem t)) (sym w'.items)
        (marks_items (view s.pass) z.0.items back (way_marks i z.0 p start.1.marks) p.run_of.run.full)

    pub all_marks : NameMarks t (first' ∷ after)
    all_marks = at_places (λ i x. AllOf (IsMarkItem t) x.items) first' after first_marks others_marks

    -- a record of its own is one of before, one of the first lane's rows, or one of another lane's
    own_cases : (o : Own) → Among o t.own
        → (Among o v.own) ⊎ ((HasNumber o.number run.first_did.controlled.run.rows × (o.lane ≡ 1)) ⊎ IsOwnOfLane done (length done) o)
    own_cases o n =
        let g = run.first_did.controlled.run.gains in
        ⊎_elim (λ (k : Among o w.own).
        ⊎_elim (λ (k : Among o run.control.own). inl (run.gives.own o k))
        (λ (k : Among o (owned run.control.lane run.first_did.controlled.run.rows)).
        let q = owned_number run.control.lane o run.first_did.controlled.run.rows k in inr (inl (q.0, q.1 ∙ run.gives.control)))
        (among_either o run.control.own (owned run.control.lane run.first_did.controlled.run.rows) (subst (Among o) g.own k)))
        (λ (k : IsOwnOfLane done (length done) o). inr (inr k)) (returned.takes.own o (subst (Among o) closes.own n))

    -- of another lane it is one of before, or one of the lane's rows
    lane_cases : (i : ℕ) (z : Lane) (p : Way i z) (seat : LanePass) (o : Own) → z.seat ≡ Some seat
        → Among o (view seat.pass).own → (Among o v.own × (o.lane ≡ i + 2)) ⊎ (HasNumber o.number p.run_of.run.rows × (o.lane ≡ i + 2))
    lane_cases i z p seat o is n =
        let same : seat ≡ p.run_of.after = some_once seat p.run_of.after (sym is ∙ p.run_of.after_is) in
        let g = p.run_of.run.gains in
        let lane = way_lane i z p in
        ⊎_elim (λ (k : Among o (view p.run_of.before.pass).own). inl (way_own i z p o k))
        (λ (k : Among o (owned (view p.run_of.before.pass).lane p.run_of.run.rows)).
        let q = owned_number (view p.run_of.before.pass).lane o p.run_of.run.rows k in inr (q.0, q.1 ∙ lane))
        (among_either o (view p.run_of.before.pass).own (owned (view p.run_of.before.pass).lane p.run_of.run.rows)
        (subst (Among o) g.own (subst (λ (s : LanePass). Among o (view s.pass).own) same n)))

    -- what came to its own records since is new
    pub is_later : Later v t
    is_later = record {
      learns = all_learns;
      gained = λ o n. ⊎_elim (λ (k : Among o v.own). inl k)
          (λ (k : (HasNumber o.number run.first_did.controlled.run.rows × (o.lane ≡ 1)) ⊎ IsOwnOfLane done (length done) o).
          ⊎_elim (λ (q : HasNumber o.number run.first_did.controlled.run.rows × (o.lane ≡ 1)).
          let did = run.first_did.controlled.run in
          let up = has_above o.number run.control.learned.count w.learned.count did.rows did.gains.ascends q.0 in
          let same : run.control.learned.count ≡ v.learned.count = ap (λ (z : Learned). z.count) run.gives.learned in
          inr (omega arith)) (λ (q : IsOwnOfLane done (length done) o). of_lane o q) k) (own_cases o n);
    }
      where
        of_lane : (o : Own) → IsOwnOfLane done (length done) o → Among o v.own ⊎ (v.learned.count ≤ o.number)
        of_lane o q =
            let p = way q.position q.lane q.lane_is in
            ⊎_elim (λ (k : Among o v.own × (o.lane ≡ q.position + 2)). inl k.0)
            (λ (k : HasNumber o.number p.run_of.run.rows × (o.lane ≡ q.position + 2)).
            let up = has_above o.number _ _ p.run_of.run.rows p.run_of.run.gains.ascends k.0 in
            let same : (view p.run_of.before.pass).learned.count ≡ v.learned.count =
            ap (λ (z : Learned). z.count) (way_learned q.position q.lane p) in
            inr (omega arith)) (lane_cases q.position q.lane p q.seat o q.seat_is q.among)

    -- what a lane's items tell of its rows they tell of the rows that the whole has of it
    says_rows : (past : Whole) (k : Span) (s : View) (number : ℕ) (rows : List LaneRow) (works : List Work) (items : List Item)
        → Learns s t → v.about.number ≤ k.from → k.to ≡ last.to → k.from ≤ k.to → k.from ≤ v.learned.count
        → Ascends v.learned.count rows s.learned.count → AreRowsKnown s number rows
        → ((o : Own) → Among o t.own → o.lane ≡ number → (o.number < k.from) ⊎ HasNumber o.number rows)
        → MustHoldUpTo past s k.to (λ y. SaysLane y k rows works items)
        → WillHold past t (λ y. SaysLane y k (rows_of_lane y.log k.from k.to number) works items)
    says_rows past k s number rows works items learns based is within counted up told all sure y m =
        let same : t.about.number ≡ v.about.number = ap (λ (z : Key). z.number) all_learns.about in
        let settled = ended.settled in
        let exact : rows_of_lane y.log k.from k.to number ≡ rows =
        will_rows past t number k.from k.to v.learned.count s.learned.count rows stands (subst (EndsAlone t) (sym is) has_end)
        (omega arith) within counted (told_later s t number rows learns told) up all y m in
        subst (λ (z : List LaneRow). SaysLane y k z works items) (sym exact)
        (up_to_will past t k.to (λ z. SaysLane z k rows works items) (omega arith)
        (up_to_later past s t k.to (λ z. SaysLane z k rows works items) learns sure) y m)

    module _ (past : Whole) (behind : Past past) (k : Span) (span : IsBlockSpan v t last.to k) (many : k.lanes ≡ length before + 1)
        (stood : IsOfMoment v) where
      version_given : run.control.learned.version ≡ v.learned.version
      version_given = ap (λ (z : Learned). z.version) run.gives.learned

      pub within : k.from ≤ k.to
      within =
          let a = span.begins.settled in
          let b = all_learns.settled in
          let e = span.ends in
          let less : k.from ≤ last.to = ends_behind t last.to k.from stands has_end (omega arith) in
          omega arith

      counted : k.from ≤ v.learned.count
      counted = counted_from v k.from span.begins

      -- a lane whose pass began with what the control pass knew, and came back, did its statements within the block
      lane_within : (s e : View) → s.about ≡ v.about → s.learned ≡ v.learned → Learns e t → (k.lanes ≡ 1 → IsAlone s) → IsWithinSpan s e k
      lane_within s e about same back alone =
          let count : s.learned.count ≡ v.learned.count = ap (λ (z : Learned). z.count) same in
          let settled_is : s.learned.settled ≡ v.learned.settled = ap (λ (z : Learned). z.settled) same in
          let version : s.learned.version ≡ v.learned.version = ap (λ (z : Learned). z.version) same in
          let few = few_behind t last.to stands has_end in
          let first = span.first in
          let last_ = span.last in
          let ends_at = span.ends in
          let known = counted in
          let settled_v = span.begins.settled in
          let version_e = back.version in
          let count_e = back.count in
          let settled_e = back.settled in
          let stored : e.learned.settled ≤ last.to = ends_behind t last.to e.learned.settled stands has_end settled_e in
          record {
            first = omega arith;
            last = omega arith;
            above = subst (λ (z : Key). z.number ≤ k.from) (sym about) span.begins.above;
            settled = omega arith;
            counted = omega arith;
            near = omega arith;
            alone = alone;
            stored = omega arith;
            entries = λ n word. (let less = entry_before t last.to n stands has_end
                (always_later e t (λ k w. IsEntryWord (w.dir n)) back word) in omega arith);
          }

      -- the control pass is alone where there is no other lane
      control_alone : k.lanes ≡ 1 → IsAlone run.control
      control_alone one = subst IsAlone (sym (run.gives.none (omega arith))) span.begins.alone

      says_first : WillHold past t (SaysFirstLane k first')
      says_first =
          let run_first = run.first_did.controlled.run in
          let g = run_first.gains in
          let same : run.control.learned.count ≡ v.learned.count = ap (λ (z : Learned). z.count) run.gives.learned in
          says_rows past k w 1 run_first.rows first'.works first'.items end_learns span.begins.above span.ends within counted
          (subst (λ (z : ℕ). Ascends z run_first.rows w.learned.count) same g.ascends)
          (subst (λ (z : ℕ). AreRowsKnown w z run_first.rows) run.gives.control g.told)
          (λ o n lane. ⊎_elim (λ (h : Among o v.own). inl (own_before v k.from o stood span.begins h))
          (λ (h : (HasNumber o.number run_first.rows × (o.lane ≡ 1)) ⊎ IsOwnOfLane done (length done) o).
          ⊎_elim (λ (i : HasNumber o.number run_first.rows × (o.lane ≡ 1)). inr i.0)
          (λ (i : IsOwnOfLane done (length done) o). absurd (
          let p = way i.position i.lane i.lane_is in
          ⊎_elim (λ (j : Among o v.own × (o.lane ≡ i.position + 2)). let e = j.1 in omega arith)
          (λ (j : HasNumber o.number p.run_of.run.rows × (o.lane ≡ i.position + 2)). let e = j.1 in omega arith)
          (lane_cases i.position i.lane p i.seat o i.seat_is i.among))) h) (own_cases o n))
          (run_first.tells past behind k (lane_within run.control w run.gives.about run.gives.learned end_learns control_alone)
          (span.full ∙ sym run.gives.shut))

      -- what another lane has among the records of its number
      others_all : (i : ℕ) (z : Lane) (at : slice_get done i ≡ Some z) (p : Way i z) (o : Own)
          → Among o t.own → o.lane ≡ i + 2 → (o.number < k.from) ⊎ HasNumber o.number p.run_of.run.rows
      others_all i z at p o n lane =
          ⊎_elim (λ (h : Among o v.own). inl (own_before v k.from o stood span.begins h))
          (λ (h : (HasNumber o.number run.first_did.controlled.run.rows × (o.lane ≡ 1)) ⊎ IsOwnOfLane done (length done) o).
          ⊎_elim (λ (q : HasNumber o.number run.first_did.controlled.run.rows × (o.lane ≡ 1)). let e = q.1 in absurd (omega arith))
          (λ (q : IsOwnOfLane done (length done) o). here q (ℕ_discrete q.position i)) h) (own_cases o n)
        where
          here : (q : IsOwnOfLane done (length done) o) → Dec (q.position ≡ i)
              → (o.number < k.from) ⊎ HasNumber o.number p.run_of.run.rows
          here q (yes same) =
              let lane_same : q.lane ≡ z = some_once q.lane z (sym q.lane_is ∙ ap (slice_get done) same ∙ at) in
              ⊎_elim (λ (h : Among o v.own × (o.lane ≡ i + 2)). inl (own_before v k.from o stood span.begins h.0))
              (λ (h : HasNumber o.number p.run_of.run.rows × (o.lane ≡ i + 2)). inr h.0)
              (lane_cases i z p q.seat o (ap (λ (x : Lane). x.seat) (sym lane_same) ∙ q.seat_is) q.among)
          here q (no ne) =
              let r = way q.position q.lane q.lane_is in
              absurd (⊎_elim (λ (h : Among o v.own × (o.lane ≡ q.position + 2)). let e = h.1 in ne (omega arith))
              (λ (h : HasNumber o.number r.run_of.run.rows × (o.lane ≡ q.position + 2)). let e = h.1 in ne (omega arith))
              (lane_cases q.position q.lane r q.seat o q.seat_is q.among))

      says_others : length before < 16 → WillHold past t (SaysOthers k after)
      says_others few x m i y at =
          let size = sizes in
          let z = ran_at returned i y at in
          let less = slice_get_within done i z.0 z.1 in
          let p = way i z.0 z.1 in
          let s = p.run_of.after in
          let g = p.run_of.run.gains in
          let w' = returned.taken i z.0 y z.1 at in
          let lane = way_lane i z.0 p in
          let same : (view p.run_of.before.pass).learned.count ≡ v.learned.count =
          ap (λ (x : Learned). x.count) (way_learned i z.0 p) in
          let back : Learns (view s.pass) t = learns_both (view s.pass) u t
          (returned.takes.learned i z.0 s (omega arith) z.1 p.run_of.after_is) closes.learns in
          subst (λ (q : List Work × List Item). SaysLane x k (rows_of_lane x.log k.from k.to (i + 2)) q.0 q.1)
          (λ j. (sym w'.works j, sym w'.items j))
          (says_rows past k (view s.pass) (i + 2) p.run_of.run.rows z.0.works z.0.items back span.begins.above span.ends
          within counted (subst (λ (x : ℕ). Ascends x p.run_of.run.rows (view s.pass).learned.count) same g.ascends)
          (subst (λ (x : ℕ). AreRowsKnown (view s.pass) x p.run_of.run.rows) lane g.told)
          (others_all i z.0 z.1 p)
          (p.run_of.run.tells past behind k
          (lane_within (view p.run_of.before.pass) (view s.pass) (way_about i z.0 p) (way_learned i z.0 p) back
          (λ one. absurd (omega arith)))
          (span.full ∙ sym (way_shut i z.0 p))) x m)

      -- a record of the control pass's own at or past the block's start is of one of its lanes
      own_of_lanes : (o : Own) → Among o t.own → (o.number < k.from) ⊎ (o.lane ≤ length before + 1)
      own_of_lanes o n =
          ⊎_elim (λ (h : Among o v.own). inl (own_before v k.from o stood span.begins h))
          (λ (h : (HasNumber o.number run.first_did.controlled.run.rows × (o.lane ≡ 1)) ⊎ IsOwnOfLane done (length done) o).
          ⊎_elim (λ (q : HasNumber o.number run.first_did.controlled.run.rows × (o.lane ≡ 1)). let e = q.1 in inr (omega arith))
          (λ (q : IsOwnOfLane done (length done) o). of_lane q) h) (own_cases o n)
        where
          of_lane : IsOwnOfLane done (length done) o → (o.number < k.from) ⊎ (o.lane ≤ length before + 1)
          of_lane q =
              let p = way q.position q.lane q.lane_is in
              ⊎_elim (λ (h : Among o v.own × (o.lane ≡ q.position + 2)). inl (own_before v k.from o stood span.begins h.0))
              (λ (h : HasNumber o.number p.run_of.run.rows × (o.lane ≡ q.position + 2)).
              let e = h.1 in let less = q.below in let size = sizes in inr (omega arith))
              (lane_cases q.position q.lane p q.seat o q.seat_is q.among)

      -- all that the block tells of the whole
      pub says_all : length before < 16 → WillHold past t (λ y. SaysBlock y k (first' ∷ after))
      says_all few x m =
          let size = sizes in
          let back = returned.size in
          let ends = span.ends in
          let many : length before + 1 ≡ length (first' ∷ after) = omega arith in
          let same : t.about.number ≡ v.about.number = ap (λ (z : Key). z.number) all_learns.about in
          let above = span.begins.above in
          record {
            each = at_places (λ i y. SaysLane x k (rows_of_lane x.log k.from k.to (i + 1)) y.works y.items) first' after
                (says_first x m)
                (λ i y at. subst (λ (n : ℕ). SaysLane x k (rows_of_lane x.log k.from k.to n) y.works y.items)
                (let same : i + 2 ≡ suc i + 1 = omega arith in same) (says_others few x m i y at));
            own = subst (StoresByLanes k x.log) many
                (subst (λ (to : ℕ). StoresByLanes (record k { to = to }) x.log (length before + 1)) (sym ends)
                (will_own past t k.from last.to (length before + 1) has_end (omega arith) own_of_lanes x m));
            within = subst (λ (to : ℕ). to ≤ length x.log) (sym ends)
                (sure_settled past t last.to ended.settled x (may_hold past t x m));
          }
