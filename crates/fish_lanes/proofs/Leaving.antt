-- What the items of all lanes say of plans and of a full log, at the end of their block.
use Rattle.std.proofs.Common.{◌≡◌, ◌≢◌, ◌⊎◌, ℕ, [], zero, suc, List, ◌∷◌, length, refl, sym, ap, ◌∙◌, subst, inl, inr, ⊎_elim}
use Rattle.std.proofs.Common.{arith, Some, slice_get}
use Rattle.std.proofs.lemmas.Option.{slice_get_within}
use Rattle.fish_lanes.proofs.Claims.{claim_by, names_one}
use Rattle.fish_lanes.proofs.Course as course
use Rattle.fish_lanes.proofs.Covering.{bounds_before, bounds_in, bounds_read, read_later}
use Rattle.fish_lanes.proofs.Ends.{given_registry}
use Rattle.fish_lanes.proofs.Full.{found_full}
use Rattle.fish_lanes.proofs.Kept.{stops_same}
use Rattle.fish_lanes.proofs.Lists.{at_places, some_once}
use Rattle.fish_lanes.proofs.Moments.{Closes, get_there, learns_same}
use Rattle.fish_lanes.proofs.Plans.{plans_later}
use Rattle.fish_lanes.proofs.Registrations.{registry_later}
use Rattle.fish_lanes.specs.Blocks.{EachLane}
use Rattle.fish_lanes.specs.within.Blocks.{IsShutOfLane}
use Rattle.fish_lanes.specs.within.Course.{AllBack, AllRan, HasFoundEnd}
use Rattle.fish_lanes.specs.Ending.{EndsAlone}
use Rattle.fish_lanes.specs.Full.{AreFullLast}
use Rattle.fish_lanes.specs.within.Full.{StopsFull}
use Rattle.fish_lanes.specs.Gains.{WasShut}
use Rattle.fish_lanes.specs.Outcome.{HandsBack, IsCutShort, IsFullIn, LanesSayPlans, SayFullLast, SaysShutBy}
use Rattle.fish_lanes.specs.Plans.{PlansHold, KnowsListed}
use Rattle.fish_lanes.specs.Registering.{KnowsRegistry, Registry, registry_of}
use Rattle.fish_lanes.specs.Sizes.{NamesOneClaim, SaysClaim, claim_of}
use Rattle.fish_lanes.specs.declared.block.BlockEnd.{BlockEnd}
use Rattle.fish_lanes.specs.declared.lane.Lane.{Lane}
use Rattle.fish_lanes.specs.declared.lane.LanePass.{LanePass}
use Rattle.fish_lanes.specs.declared.work.LaneFault.TheVariants as cause
use Rattle.fish_lanes.specs.declared.work.Work.{Work}
use Rattle.fish_registry.specs.Knowing.{Knows}
use Rattle.fish_registry.specs.declared.registrar.Registrar.{Registrar}
use Rattle.fish_report.specs.declared.item.Item.{Item}
use Rattle.fish_report.specs.declared.item.Item.TheVariants as item
use Rattle.fish_rule.proofs.laws.Learning.{learns_both}
use Rattle.fish_rule.proofs.laws.Lists.{among_right}
use Rattle.fish_rule.specs.Logs.{Learns}
use Rattle.fish_rule.specs.Passes.{view}
use Rattle.fish_rule.specs.Table.{IsOfMoment}
use Rattle.fish_rule.specs.Views.{Among}
use Rattle.fish_rule.specs.declared.table.Log.{Log}
use Rattle.fish_rule.specs.declared.view.Learned.{Learned}
use Rattle.fish_rule.specs.declared.view.Shut.{Shut}
use Rattle.fish_rule.specs.declared.view.View.{View}
use Rattle.fish_whole.specs.Whole.{Whole}

module _ {Past : Whole → Type 0} {log : Log} {v w u t : View} {r q kept : Registrar} {first first' : Lane}
    {before done after : List Lane} {last : BlockEnd} (run : AllRan Past log v w r q first first' before done)
    (returned : AllBack w u done after) (ended : HasFoundEnd u t q kept last)
    (start : (from : ℕ) × EndsAlone v from) (stands : IsOfMoment t) where
  -- what is known of the block's course
  knows : Knows t kept
  knows = course.knows run returned ended start stands

  closes : Closes u t
  closes = course.closes run returned ended start stands

  end_learns : Learns w t
  end_learns = course.end_learns run returned ended start stands

  -- what the items say of plans, by the rows that the registrar keeps
  first_plans : (from : ℕ) → EndsAlone v from
      → PlansHold (KnowsListed t) (registry_of v r) kept.catalog from first'.works first'.items
  first_plans from end =
      let low = end.settled in
      let same : run.control.learned.settled ≡ v.learned.settled = ap (λ (z : Learned). z.settled) run.gives.learned in
      let said = run.first_did.controlled.plans kept.catalog from
      (bounds_before w t kept.catalog end_learns (bounds_in t kept stands knows)) (omega arith) in
      subst (λ (z : Registry). PlansHold (KnowsListed t) z kept.catalog from first'.works first'.items)
      (given_registry v run.control r run.gives.learned)
      (plans_later w t (registry_of run.control r) kept.catalog from first'.works first'.items end_learns said)

  others_plans : Knows v r → KnowsRegistry v (registry_of v r) → (from : ℕ) → EndsAlone v from
      → LanesSayPlans (KnowsListed t) (registry_of v r) kept.catalog from after
  others_plans before_ registry from end i y at =
      let z = course.ran_at run returned i y at in
      let less = slice_get_within done i z.0 z.1 in
      let p = course.way run i z.0 z.1 in
      let w' = returned.taken i z.0 y z.1 at in
      let e = p.run_of.after in
      let back : Learns (view e.pass) t = learns_both (view e.pass) u t
      (returned.takes.learned i z.0 e (omega arith) z.1 p.run_of.after_is) closes.learns in
      let start = p.run_of.before in
      let learned_is = course.way_learned run i z.0 p in
      let about_is = course.way_about run i z.0 p in
      let learns : Learns v (view start.pass) = learns_same v (view start.pass) about_is learned_is in
      let low = end.settled in
      let same : (view start.pass).learned.settled ≡ v.learned.settled = ap (λ (x : Learned). x.settled) learned_is in
      let said = p.run_of.plans (registry_of v r) (read_later v (view start.pass) r.catalog learns (bounds_read v r before_))
      (registry_later v (view start.pass) (registry_of v r) learns registry) kept.catalog from
      (bounds_before (view e.pass) t kept.catalog back (bounds_in t kept stands knows)) (omega arith) in
      subst (λ (q : List Work × List Item). PlansHold (KnowsListed t) (registry_of v r) kept.catalog from q.0 q.1)
      (λ j. (sym w'.works j, sym w'.items j))
      (plans_later (view e.pass) t (registry_of v r) kept.catalog from z.0.works z.0.items back said)

  pub all_plans : Knows v r → KnowsRegistry v (registry_of v r) → (from : ℕ) → EndsAlone v from
      → LanesSayPlans (KnowsListed t) (registry_of v r) kept.catalog from (first' ∷ after)
  all_plans before_ registry from end =
      at_places (λ i x. PlansHold (KnowsListed t) (registry_of v r) kept.catalog from x.works x.items) first' after (first_plans from end)
      (others_plans before_ registry from end)

  -- what shuts the pass did so before, or an item tells of it
  shut_by : EachLane (λ i x. x.fault ≡ cause.None) (first' ∷ after) → (c : Shut) → t.shut ≡ Some c
      → (v.shut ≡ Some c) ⊎ IsFullIn (first' ∷ after) c.line c.lines c.end
  shut_by nones c e =
      ⊎_elim (λ (k : w.shut ≡ Some c).
      ⊎_elim (λ (same : run.control.shut ≡ Some c). inl (sym run.gives.shut ∙ same))
      (λ (k : SaysClaim c first'.items). inr (record {
        at = 0;
        lane = first';
        lane_is = refl;
        file = k.0;
        stored = k.1;
        refused = k.2;
        among = k.3;
      }))
      (run.first_did.controlled.run.shuts (nones 0 first' refl) c k)) (λ (q : IsShutOfLane done (length done) c). lane_shut q)
      (returned.takes.shut c (sym closes.shut ∙ e))
    where
      lane_shut : IsShutOfLane done (length done) c → (v.shut ≡ Some c) ⊎ IsFullIn (first' ∷ after) c.line c.lines c.end
      lane_shut q =
          let p = course.way run q.position q.lane q.lane_is in
          let same : q.seat ≡ p.run_of.after = some_once q.seat p.run_of.after (sym q.seat_is ∙ p.run_of.after_is) in
          let less = q.below in
          let size = returned.size in
          let y = get_there after q.position (omega arith) in
          let w' = returned.taken q.position q.lane y.0 q.lane_is y.1 in
          ⊎_elim (λ (k : (view p.run_of.before.pass).shut ≡ Some c). inl (sym (course.way_shut run q.position q.lane p) ∙ k))
          (λ (k : SaysClaim c q.lane.items). inr (record {
            at = suc q.position;
            lane = y.0;
            lane_is = y.1;
            file = k.0;
            stored = k.1;
            refused = k.2;
            among = subst (Among (item.IngestFull k.0 c.line c.lines c.end k.1 k.2)) (sym w'.items) k.3;
          }))
          (p.run_of.run.shuts (sym w'.fault ∙ nones (suc q.position) y.0 y.1) c
          (subst (λ (z : LanePass). (view z.pass).shut ≡ Some c) same q.shut_is))

  -- where an item tells of a claim, the pass is shut
  full_shuts : (c : Shut) (at : ℕ) (x : Lane) → slice_get (first' ∷ after) at ≡ Some x → SaysClaim c x.items → WasShut t
  full_shuts c zero x at told =
      let here = claim_by w c first'.items run.first_did.controlled.run.full
      (subst (λ (z : Lane). SaysClaim c z.items) (sym (some_once first' x at)) told) in
      (c, closes.shut ∙ returned.takes.keeps c here)
  full_shuts c (suc i) y at told =
      let z = course.ran_at run returned i y at in
      let p = course.way run i z.0 z.1 in
      let w' = returned.taken i z.0 y z.1 at in
      let s = p.run_of.after in
      let here = claim_by (view s.pass) c z.0.items p.run_of.run.full (subst (SaysClaim c) w'.items told) in
      let less = slice_get_within done i z.0 z.1 in
      let shut = returned.takes.shuts i z.0 s c less z.1 p.run_of.after_is here in
      (shut.0, closes.shut ∙ shut.1)

  -- all that is told of what shuts the pass
  pub all_shuts : SaysShutBy v t (first' ∷ after)
  all_shuts = record {
    by = shut_by;
    keeps = λ c e. closes.shut ∙ returned.takes.keeps c (run.first_did.controlled.run.gains.shut c (run.gives.shut ∙ e));
    shuts = λ line lines end f. full_shuts (claim_of line lines end) f.at f.lane f.lane_is (f.file, f.stored, f.refused, f.among);
    one = at_places (λ i x. NamesOneClaim v.shut x.items) first' after
        (names_one v.shut w first'.items run.first_did.controlled.run.full
        (λ c e. run.first_did.controlled.run.gains.shut c (run.gives.shut ∙ e)))
        (λ i y at.
        let z = course.ran_at run returned i y at in
        let p = course.way run i z.0 z.1 in
        let w' = returned.taken i z.0 y z.1 at in
        subst (NamesOneClaim v.shut) (sym w'.items)
        (names_one v.shut (view p.run_of.after.pass) z.0.items p.run_of.run.full
        (λ c e. p.run_of.run.gains.shut c (course.way_shut run i z.0 p ∙ e))));
  }

  -- ---- statements that are handed back

  -- a lane that stopped so stops, where its items tell the same and what shut its pass
  cut_short : (s e : View) (at : ℕ) (x : Lane) → slice_get (first' ∷ after) at ≡ Some x → s.shut ≡ v.shut → StopsFull s e x
      → x.left ≢ [] → IsCutShort v t x
  cut_short s e at x there same stops some =
      let cut = stops.cut some in
      let told = found_full e x.items ((stops.last cut.unshut).found cut.fault) cut.shut in
      record {
        fault = cut.fault;
        last = told;
        unshut = sym same ∙ cut.unshut;
        shut = all_shuts.shuts told.line told.lines told.end (record {
          at = at;
          lane = x;
          lane_is = there;
          file = told.file;
          stored = told.stored;
          refused = told.refused;
          among = subst (Among (item.IngestFull told.file told.line told.lines told.end told.stored told.refused)) (sym told.is)
              (among_right _ told.front _ (inl refl));
        });
      }

  -- how the lane at a position stopped
  stops_at : (i : ℕ) (y : Lane) → slice_get after i ≡ Some y
      → (s : View) × (e : View) × (s.shut ≡ v.shut) × StopsFull s e y
  stops_at i y at =
      let z = course.ran_at run returned i y at in
      let p = course.way run i z.0 z.1 in
      let w' = returned.taken i z.0 y z.1 at in
      let s = view p.run_of.before.pass in
      let e = view p.run_of.after.pass in (
        s,
        e,
        course.way_shut run i z.0 p,
        stops_same s e z.0 y w'.left w'.items w'.fault p.run_of.stops,
      )

  -- each that hands statements back does so since it found the log full
  pub all_left : HandsBack v t (first' ∷ after)
  all_left zero x at some = cut_short run.control w zero x at run.gives.shut
      (subst (StopsFull run.control w) (some_once first' x at) run.first_did.stops) some
  all_left (suc i) y at some = (let s = stops_at i y at in cut_short s.0 s.1 (suc i) y at s.2 s.3 some)

  -- and none but its last item tells so
  pub all_last : SayFullLast v (first' ∷ after)
  all_last unshut = at_places (λ i x. AreFullLast x.items) first' after
      (run.first_did.stops.last (run.gives.shut ∙ unshut)).full
      (λ i y at. let s = stops_at i y at in (s.3.last (s.2 ∙ unshut)).full)
