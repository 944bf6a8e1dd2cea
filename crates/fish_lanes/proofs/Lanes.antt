-- The lanes of a block, one after the other.
use Rattle.std.proofs.Common.{◌≡◌, ℕ, ◌+◌, ◌<◌, ◌≤◌, List, [], ◌∷◌, ◌++◌, length, refl, sym, ap, ◌∙◌, subst, inl, inr}
use Rattle.std.proofs.Common.{◌⊎◌, ⊎_elim, arith, All, Option, Some, None, slice_get}
use Rattle.std.proofs.Math.Decide.{ℕ_discrete, dec_lt}
use Rattle.fish_ingest.specs.Ingestion.{CanStart}
use Rattle.fish_lanes.proofs.Keeping.{keeps_self}
use Rattle.fish_lanes.proofs.Lists.{empty_list, some_once}
use Rattle.fish_lanes.specs.within.Blocks.{AreJoined, CanGive, CanTake, HasGiven, HasSeat, HasTakenAll, HasTakenSeat, IsBack}
use Rattle.fish_lanes.specs.Blocks.{IsNewLane}
use Rattle.fish_lanes.specs.within.Blocks.{IsOwnOfLane, IsSeated, IsShutOfLane}
use Rattle.fish_lanes.specs.Running.{IsShared}
use Rattle.fish_lanes.specs.within.Running.{CanBegin, HasDone, IsLaneReady}
use Rattle.fish_lanes.specs.declared.lane.Lane.{Lane}
use Rattle.fish_lanes.specs.declared.lane.LanePass.{LanePass}
use Rattle.fish_rule.proofs.laws.Clocks.{later_both, later_noted, later_self, later_ticked}
use Rattle.fish_rule.proofs.laws.Lists.{among_either}
use Rattle.fish_rule.proofs.laws.Learning.{learns_both, learns_self}
use Rattle.fish_rule.proofs.laws.Lists.{of_lane_sound, off_lane_sound, without_complete, without_sound}
use Rattle.fish_rule.specs.Clocks.{IsLater}
use Rattle.fish_rule.specs.Logs.{Learns}
use Rattle.fish_rule.specs.Passes.{view}
use Rattle.fish_rule.specs.SeatSteps.{CanSplitPass, first_shut, split_left, split_right, without}
use Rattle.fish_rule.specs.SpaceSteps.{ticked}
use Rattle.fish_rule.specs.Views.{Among}
use Rattle.fish_rule.specs.declared.table.Log.{Log}
use Rattle.fish_rule.specs.declared.view.Noted.TheVariants.{Tail}
use Rattle.fish_rule.specs.declared.view.Shut.{Shut}
use Rattle.fish_rule.specs.declared.view.View.{View}
use Rattle.fish_whole.specs.Whole.{Whole}

-- ---- passes are given

pub given_none : (v : View) (lanes : List Lane) → CanGive v lanes → HasGiven v v 0
given_none v lanes h = record {
  control = h.control;
  idle = h.idle;
  outside = h.outside;
  about = refl;
  learned = refl;
  clock = later_self v.clock;
  shut = refl;
  registry = keeps_self v;
  own = λ o m. m;
  out_of = λ l m. elim (subst (Among l) h.all m) [ ];
  all_out = λ l above below. absurd (omega arith);
  none = λ zero_is. refl;
}

pub can_split : (v m : View) (i : ℕ) → HasGiven v m i → i + 2 ≤ 16 → CanSplitPass m (i + 2)
can_split v m i h few = record {
  control = h.control;
  above = omega arith;
  below = few;
  here = λ bad. let b = (h.out_of (i + 2) bad).1 in omega arith;
  idle = h.idle;
}

pub given_more : (v m u : View) (i l : ℕ) → l ≡ i + 2 → HasGiven v m i → u ≡ split_left l m → HasGiven v u (i + 1)
given_more v m u i l at h e = subst (λ (z : View). HasGiven v z (i + 1)) (sym e) (record {
  control = h.control;
  idle = h.idle;
  outside = h.outside;
  about = h.about;
  learned = h.learned;
  clock = later_both v.clock m.clock (ticked m.clock) h.clock (later_ticked m.clock);
  shut = h.shut;
  registry = record { rows = h.registry.rows; control_words = h.registry.control_words; round = h.registry.round };
  own = λ o n. h.own o (off_lane_sound l o m.own n).0;
  out_of = λ x n. ⊎_elim (λ (s : l ≡ x). (omega arith, omega arith))
      (λ (s : Among x m.out). let b = h.out_of x s in let p = b.0 in let q = b.1 in (p, omega arith)) n;
  all_out = λ x above below. pick x above below (ℕ_discrete l x);
  none = λ zero_is. absurd (omega arith);
})
  where
    pick : (x : ℕ) → 2 ≤ x → x < i + 1 + 2 → Dec (l ≡ x) → Among x (l ∷ m.out)
    pick x above below (yes s) = inl s
    pick x above below (no ne) = inr (h.all_out x above (omega arith))

pub seated_by : (log : Log) (v m : View) (i l : ℕ) (x y : Lane) → l ≡ i + 2 → HasGiven v m i → HasSeat log (split_right l m) x y
    → IsSeated log v i x y
seated_by log v m i l x y at h s = record {
  seat = s.seat;
  is = s.is;
  can = record {
    of = s.of;
    start = subst CanStart (sym s.view_is) (record { live = omega arith; outside = refl });
  };
  lane = ap (λ (z : View). z.lane) s.view_is ∙ at;
  about = ap (λ (z : View). z.about) s.view_is ∙ h.about;
  learned = ap (λ (z : View). z.learned) s.view_is ∙ h.learned;
  shut = ap (λ (z : View). z.shut) s.view_is ∙ h.shut;
  own = λ o n.
      let mine = of_lane_sound l o m.own (subst (λ (z : View). Among o z.own) s.view_is n) in
      (h.own o mine.0, mine.1 ∙ at);
}

-- ---- the statements

-- a lane that got a pass may begin
pub seated_ready : (log : Log) (v : View) (i : ℕ) (x y : Lane) → IsNewLane (i + 2) x → All IsShared x.works
    → IsSeated log v i x y → IsLaneReady log y
seated_ready log v i x y new shared s = record {
  seat = s.seat;
  seat_is = ap (λ (z : Lane). z.seat) s.is;
  can = s.can;
  shared = subst (λ (z : Lane). All IsShared z.works) (sym s.is) shared;
  nothing_left = ap (λ (z : Lane). z.left) s.is ∙ new.nothing_left;
}

-- the pass of a lane that is ready
pub ready_seat : (log : Log) (x : Lane) (seat : LanePass) → IsLaneReady log x → x.seat ≡ Some seat → CanBegin log seat.pass
ready_seat log x seat h is =
    subst (λ (z : LanePass). CanBegin log z.pass) (some_once h.seat seat (sym h.seat_is ∙ is)) h.can

-- after its statements it may come back
pub done_back : {Past : Whole → Type 0} (log : Log) (v : View) (i : ℕ) (x y z : Lane) → IsSeated log v i x y → HasDone Past log y z
    → IsBack log i z
done_back log v i x y z s d =
    let same : s.seat ≡ d.before = some_once s.seat d.before (sym (ap (λ (w : Lane). w.seat) s.is) ∙ d.before_is) in
    record {
      seat = d.after;
      seat_is = d.after_is;
      of = d.can.of;
      lane = d.run.gains.on.lane ∙ ap (λ (w : LanePass). (view w.pass).lane) (sym same) ∙ s.lane;
      idle = d.run.gains.idle;
      outside = d.run.gains.outside;
    }

-- ---- passes come back

pub taken_none : (log : Log) (m : View) (lanes : List Lane) → AreJoined log m lanes → HasTakenAll m m lanes 0
taken_none log m lanes h = record {
  control = h.control;
  idle = h.idle;
  outside = h.outside;
  learns = learns_self m;
  registry = keeps_self m;
  learned = λ i x s below. absurd (omega arith);
  own = λ o n. inl n;
  shut = λ s n. inl n;
  keeps = λ s e. e;
  shuts = λ i x seat s below. absurd (omega arith);
  clock = later_self m.clock;
  out_of = λ l n. let b = h.out_of l n in let p = b.0 in (omega arith, b.1);
  all_out = λ l above below. h.all_out l (omega arith) below;
  none = λ zero_is. refl;
}

pub can_take : (log : Log) (m u : View) (lanes : List Lane) (i : ℕ) (x : Lane) → AreJoined log m lanes → HasTakenAll m u lanes i
    → i < length lanes → slice_get lanes i ≡ Some x → CanTake log u x
can_take log m u lanes i x h t less at =
    let b = h.back i x at in
    let lane = b.lane in
    record {
      seat = b.seat;
      seat_is = b.seat_is;
      of = b.of;
      can = record {
        control = t.control;
        above = omega arith;
        out = subst (λ (z : ℕ). Among z u.out) (sym b.lane) (t.all_out (i + 2) (omega arith) (omega arith));
        idle = b.idle;
        outside = b.outside;
      };
    }

pub taken_more : (log : Log) (m u t : View) (lanes : List Lane) (i : ℕ) (x : Lane) → AreJoined log m lanes
    → (h : HasTakenAll m u lanes i) → (at : slice_get lanes i ≡ Some x) → ((seat : LanePass) → x.seat ≡ Some seat → HasTakenSeat u t seat)
    → HasTakenAll m t lanes (i + 1)
taken_more log m u t lanes i x joined h at by =
    let b = joined.back i x at in
    let s = by b.seat b.seat_is in
    let lane = b.lane in
    let e = s.view_is in
    let out : t.out ≡ without (view b.seat.pass).lane u.out = ap (λ (z : View). z.out) e in
    let own : t.own ≡ u.own ++ (view b.seat.pass).own = ap (λ (z : View). z.own) e in
    record {
      control = ap (λ (z : View). z.lane) e ∙ h.control;
      idle = ap (λ (z : View). z.flight) e ∙ h.idle;
      outside = ap (λ (z : View). z.epoch) e ∙ h.outside;
      learns = learns_both m u t h.learns s.learns;
      registry = record {
        rows = ap (λ (z : View). z.rows) e ∙ h.registry.rows;
        control_words = ap (λ (z : View). z.control_words) e ∙ h.registry.control_words;
        round = ap (λ (z : View). z.round) e ∙ h.registry.round;
      };
      learned = λ j y seat below at_y seat_y. pick j y seat below at_y seat_y (dec_lt j i);
      own = λ o n. ⊎_elim
          (λ (n : Among o u.own). ⊎_elim (λ (k : Among o m.own). inl k)
          (λ (k : IsOwnOfLane lanes i o). let less = k.below in inr (record {
            position = k.position;
            lane = k.lane;
            seat = k.seat;
            below = omega arith;
            lane_is = k.lane_is;
            seat_is = k.seat_is;
            among = k.among;
          })) (h.own o n))
          (λ (n : Among o (view b.seat.pass).own). inr (record {
            position = i;
            lane = x;
            seat = b.seat;
            below = omega arith;
            lane_is = at;
            seat_is = b.seat_is;
            among = n;
          })) (among_either o u.own (view b.seat.pass).own (subst (Among o) own n));
      shut = λ z n. shut_cases z u.shut (view b.seat.pass).shut (λ same. h.shut z same)
          (λ same. record {
            position = i;
            lane = x;
            seat = b.seat;
            below = omega arith;
            lane_is = at;
            seat_is = b.seat_is;
            shut_is = same;
          }) (sym (ap (λ (y : View). y.shut) e) ∙ n);
      keeps = λ z n. ap (λ (y : View). y.shut) e ∙ first_kept u.shut (view b.seat.pass).shut z (h.keeps z n);
      shuts = λ j y seat z below at_y seat_y n. subst IsClaim (sym (ap (λ (y : View). y.shut) e))
          (shut_here j y seat z below at_y seat_y n (dec_lt j i));
      clock = later_both m.clock u.clock t.clock h.clock
          (subst (IsLater u.clock) (sym (ap (λ (z : View). z.clock) e))
          (later_both u.clock (ticked u.clock) _ (later_ticked u.clock) (later_noted (ticked u.clock) Tail s.found)));
      out_of = λ l n.
          let w = without_sound (view b.seat.pass).lane l u.out (subst (Among l) out n) in
          let k = h.out_of l w.0 in
          let p = k.0 in
          let ne = w.1 in
          (omega arith, k.1);
      all_out = λ l above below. subst (Among l) (sym out)
          (without_complete (view b.seat.pass).lane l u.out (h.all_out l (omega arith) below) (λ same. omega arith));
      none = λ zero_is. absurd (omega arith);
    }
  where
    IsClaim : Option Shut → Type 0
    IsClaim a = (s : Shut) × (a ≡ Some s)

    first_kept : (a c : Option Shut) (z : Shut) → a ≡ Some z → first_shut a c ≡ Some z
    first_kept None c z same = absurd cc
    first_kept (Some y) c z same = same

    first_some : (a c : Option Shut) → IsClaim a ⊎ IsClaim c → IsClaim (first_shut a c)
    first_some None c (inl k) = absurd (let bad = k.1 in cc)
    first_some None c (inr k) = k
    first_some (Some y) c k = (y, refl)

    shut_here : (j : ℕ) (y : Lane) (seat : LanePass) (z : Shut) → j < i + 1 → slice_get lanes j ≡ Some y → y.seat ≡ Some seat
        → (view seat.pass).shut ≡ Some z → Dec (j < i) → IsClaim (first_shut u.shut (view (joined.back i x at).seat.pass).shut)
    shut_here j y seat z below at_y seat_y n (yes less) =
        first_some u.shut (view (joined.back i x at).seat.pass).shut (inl (h.shuts j y seat z less at_y seat_y n))
    shut_here j y seat z below at_y seat_y n (no not_less) =
        let b = joined.back i x at in
        let same : j ≡ i = omega arith in
        let here : y ≡ x = some_once y x (sym at_y ∙ ap (slice_get lanes) same ∙ at) in
        let seat_is : seat ≡ b.seat = some_once seat b.seat (sym seat_y ∙ ap (λ (w : Lane). w.seat) here ∙ b.seat_is) in
        first_some u.shut (view b.seat.pass).shut (inr (z, ap (λ (w : LanePass). (view w.pass).shut) (sym seat_is) ∙ n))

    shut_cases : (z : Shut) (a c : Option Shut) → (a ≡ Some z → (m.shut ≡ Some z) ⊎ IsShutOfLane lanes i z)
        → (c ≡ Some z → IsShutOfLane lanes (i + 1) z) → first_shut a c ≡ Some z
        → (m.shut ≡ Some z) ⊎ IsShutOfLane lanes (i + 1) z
    shut_cases z None c mine other e = inr (other e)
    shut_cases z (Some y) c mine other e = ⊎_elim (λ (k : m.shut ≡ Some z). inl k)
        (λ (k : IsShutOfLane lanes i z). let less = k.below in inr (record {
          position = k.position;
          lane = k.lane;
          seat = k.seat;
          below = omega arith;
          lane_is = k.lane_is;
          seat_is = k.seat_is;
          shut_is = k.shut_is;
        })) (mine e)

    pick : (j : ℕ) (y : Lane) (seat : LanePass) → j < i + 1 → slice_get lanes j ≡ Some y → y.seat ≡ Some seat → Dec (j < i)
        → Learns (view seat.pass) t
    pick j y seat below at_y seat_y (yes less) =
        let b = joined.back i x at in
        let s = by b.seat b.seat_is in
        learns_both (view seat.pass) u t (h.learned j y seat less at_y seat_y) s.learns
    pick j y seat below at_y seat_y (no not_less) =
        let same : j ≡ i = omega arith in
        let here : y ≡ x = some_once y x (sym at_y ∙ ap (slice_get lanes) same ∙ at) in
        (by seat (ap (λ (z : Lane). z.seat) (sym here) ∙ seat_y)).learned

-- all came back, so no lane is out
pub none_out : (m u : View) (lanes : List Lane) → HasTakenAll m u lanes (length lanes) → u.out ≡ []
none_out m u lanes h = empty_list u.out (λ l n. let b = h.out_of l n in let p = b.0 in let q = b.1 in omega arith)
