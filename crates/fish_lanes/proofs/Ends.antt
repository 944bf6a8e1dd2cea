-- From the last statements of a block to its end: passes come back, a boundary is found, and the end of the log is.
use Rattle.std.proofs.Common.{◌≡◌, ℕ, ◌+◌, ◌≤◌, List, length, refl, sym, ap, ◌∙◌, subst, arith}
use Rattle.std.proofs.Common.{append-nil, Option, Some, None, map}
use Rattle.fish_catalog.specs.Listing.{listed_of}
use Rattle.fish_ingest.specs.Ingestion.{CanStart}
use Rattle.fish_lanes.proofs.Controls.{are_so_wide, each_last, each_later, each_more, so_more, so_wide}
use Rattle.fish_lanes.proofs.Moments.{Closes, learns_same}
use Rattle.fish_lanes.proofs.Keeping.{keeps_settles}
use Rattle.fish_lanes.proofs.Lanes.{none_out}
use Rattle.fish_lanes.proofs.Pending.{found_within}
use Rattle.fish_lanes.proofs.Registrations.{after_more, knows_kept, registry_later, registry_same}
use Rattle.fish_lanes.specs.Blocks.{HasRegistered, IsBlockSpan}
use Rattle.fish_lanes.specs.within.Blocks.{HasGiven, HasTakenAll}
use Rattle.fish_lanes.specs.within.Controlled.{HasControlled}
use Rattle.fish_lanes.specs.within.Controlling.{IsBoundaryFound}
use Rattle.fish_lanes.specs.within.Course.{HasFoundEnd, HasRunLanes}
use Rattle.fish_lanes.specs.Pending.{AreFound}
use Rattle.fish_lanes.specs.Registering.{ItemsFit, ItemFits, KnowsEach, KnowsRegistry, Registry, after, after_all, registry_of, waiting_id}
use Rattle.fish_lanes.specs.Spans.{Span}
use Rattle.fish_lanes.specs.declared.block.BlockEnd.{BlockEnd}
use Rattle.fish_lanes.specs.declared.block.Boundary.{Boundary}
use Rattle.fish_lanes.specs.declared.lane.Lane.{Lane}
use Rattle.fish_lanes.specs.declared.work.LaneFault.TheVariants as cause
use Rattle.fish_registry.proofs.Changing.{learns_changes}
use Rattle.fish_registry.specs.Changing.{Changes}
use Rattle.fish_registry.specs.Knowing.{Knows}
use Rattle.fish_registry.specs.declared.registrar.Registrar.{Registrar}
use Rattle.fish_report.specs.declared.item.Item.TheVariants as item
use Rattle.fish_rule.proofs.laws.Clocks.{later_both}
use Rattle.fish_rule.proofs.laws.Learning.{learns_both}
use Rattle.fish_rule.specs.Logs.{Learns}
use Rattle.fish_rule.specs.LoadSteps.{IsAlone}
use Rattle.fish_rule.specs.Registry.{KnowsDefinitions}
use Rattle.fish_rule.specs.Table.{IsOfMoment}
use Rattle.fish_rule.specs.declared.table.Log.{Log}
use Rattle.fish_rule.specs.declared.view.Key.{Key}
use Rattle.fish_rule.specs.declared.view.Learned.{Learned}
use Rattle.fish_rule.specs.declared.view.View.{View}
use Rattle.fish_whole.specs.Whole.{Whole}
use Rattle.fish_walk.specs.Settling.{OnlySettles}

-- ---- passes are given

-- the definitions are known as before
pub given_registry : (v m : View) (r : Registrar) → m.learned ≡ v.learned → registry_of m r ≡ registry_of v r
given_registry v m r same i = record { rows = r.catalog; waiting = waiting_id r.waiting; version = (same i).version }

pub given_known : (v m : View) (r : Registrar) → m.about ≡ v.about → m.learned ≡ v.learned → KnowsRegistry v (registry_of v r)
    → KnowsRegistry m (registry_of m r)
given_known v m r about same h = subst (λ (z : Key × Learned). KnowsOf z.0 z.1) (λ i. (sym about i, sym same i)) h
  where
    KnowsOf : Key → Learned → Type 0
    KnowsOf k l = KnowsDefinitions k l l.version
        (map listed_of r.catalog)

pub given_knows : (v m : View) (r : Registrar) (many : ℕ) → HasGiven v m many → v.lane ≡ 1 → Knows v r → Knows m r
given_knows v m r many h control k =
    knows_kept v m r (h.control ∙ sym control) (learns_same v m h.about h.learned) h.registry k

-- ---- and come back

-- the control pass is alone
pub taken_alone : (w u : View) (lanes : List Lane) → HasTakenAll w u lanes (length lanes) → IsAlone u
taken_alone w u lanes h = record { control = h.control; all = none_out w u lanes h; idle = h.idle }

pub taken_start : (w u : View) (lanes : List Lane) (many : ℕ) → HasTakenAll w u lanes many → CanStart u
taken_start w u lanes many h = record { live = (let e = h.control in omega arith); outside = h.outside }

pub taken_knows : (w u : View) (q : Registrar) (lanes : List Lane) (many : ℕ) → HasTakenAll w u lanes many → Knows w q → Knows u q
taken_knows w u q lanes many h k = knows_kept w u q (h.control ∙ sym k.control) h.learns h.registry k

-- ---- a boundary, and the end

-- the control pass is as it was but for what it knows
pub closes_end : (u p t : View) → Changes u p → OnlySettles p t → Closes u t
closes_end u p t changes settles = record {
  learns = learns_both u p t (learns_changes u p changes) settles.learns;
  lane = ap (λ (z : View). z.lane) settles.frame ∙ ap (λ (z : View). z.lane) changes.frame;
  out = ap (λ (z : View). z.out) settles.frame ∙ ap (λ (z : View). z.out) changes.frame;
  idle = ap (λ (z : View). z.flight) settles.frame ∙ ap (λ (z : View). z.flight) changes.frame;
  epoch = ap (λ (z : View). z.epoch) settles.frame ∙ ap (λ (z : View). z.epoch) changes.frame;
  shut = ap (λ (z : View). z.shut) settles.frame ∙ ap (λ (z : View). z.shut) changes.frame;
  own = ap (λ (z : View). z.own) settles.frame ∙ ap (λ (z : View). z.own) changes.frame;
}

pub end_knows : (p t : View) (s : Registrar) → OnlySettles p t → Knows p s → Knows t s
end_knows p t s settles k = knows_kept p t s (ap (λ (z : View). z.lane) settles.frame) settles.learns (keeps_settles p t settles) k

pub end_start : (p t : View) → OnlySettles p t → CanStart p → CanStart t
end_start p t settles can = record {
  live = subst (λ (n : ℕ). 1 ≤ n) (sym (ap (λ (z : View). z.lane) settles.frame)) can.live;
  outside = ap (λ (z : View). z.epoch) settles.frame ∙ can.outside;
}

-- ---- the definitions

module _ {Past : Whole → Type 0} {log : Log} {v u t : View} {r q s : Registrar} {first first' : Lane} {others others' : List Lane}
    {end : BlockEnd} (lanes : HasRunLanes Past log v u r q first first' others others') (ended : HasFoundEnd u t q s end)
    (su : IsOfMoment u) (ku : Knows u q) (st : IsOfMoment t)
    (near : (k : Span) → IsBlockSpan v t end.to k → (k.from ≤ v.learned.count) × (t.learned.count ≤ k.to + 16)) where
  controlled : HasControlled Past lanes.run.control lanes.ran r q first'.works first'.items first'.fault
  controlled = lanes.run.first_did.controlled

  -- the pass that did the first lane's statements knew what the block began with, and what it knew then it knows at the end
  same_start : registry_of lanes.run.control r ≡ registry_of v r
  same_start = given_registry v lanes.run.control r lanes.run.gives.learned

  same_count : lanes.run.control.learned.count ≡ v.learned.count
  same_count = ap (λ (z : Learned). z.count) lanes.run.gives.learned

  same_taken : registry_of u q ≡ registry_of lanes.ran q
  same_taken = registry_same lanes.ran u q q lanes.run.stands su lanes.back.takes.learns lanes.run.knows ku q.catalog refl refl refl

  same_end : registry_of t s ≡ registry_of ended.bound s
  same_end = registry_same ended.bound t s s ended.stands st ended.settles.learns ended.knows
      (end_knows ended.bound t s ended.settles ended.knows) s.catalog refl refl refl

  learns_ran : Learns lanes.ran t
  learns_ran = learns_both lanes.ran u t lanes.back.takes.learns
      (learns_both u ended.bound t (learns_changes u ended.bound ended.changes) ended.settles.learns)

  so_items : (k : Span) → IsBlockSpan v t end.to k → ItemsFit k.from (k.to + 16) (registry_of v r) first'.items
  so_items k span =
      let n = near k span in
      let low = n.0 in
      let high = n.1 in
      let more = learns_ran.count in
      let same = same_count in
      are_so_wide lanes.run.control.learned.count lanes.ran.learned.count k.from (k.to + 16) (registry_of v r) first'.items
      (omega arith) (omega arith)
      (subst (λ (z : Registry). ItemsFit lanes.run.control.learned.count lanes.ran.learned.count z first'.items) same_start controlled.so)

  -- after the items
  behind_items : first'.fault ≡ cause.None → registry_of u q ≡ after_all (registry_of v r) first'.items
  behind_items none = same_taken ∙ controlled.is none ∙ ap (λ (z : Registry). after_all z first'.items) same_start

  known_items : KnowsEach lanes.ran (registry_of v r) first'.items
  known_items = subst (λ (z : Registry). KnowsEach lanes.ran z first'.items) same_start controlled.each

  known_end : KnowsEach t (registry_of v r) first'.items
  known_end = each_later lanes.ran t (registry_of v r) first'.items learns_ran known_items

  -- the looks of the first lane were made in the block
  found_end : AreFound v.clock t.clock (registry_of v r) first'.items
  found_end = found_within v.clock lanes.run.control.clock lanes.ran.clock t.clock (registry_of v r) first'.items
      lanes.run.gives.clock
      (subst (λ (z : Registry). AreFound lanes.run.control.clock lanes.ran.clock z first'.items) same_start controlled.found)
      (later_both lanes.ran.clock u.clock t.clock lanes.back.takes.clock
      (later_both u.clock ended.bound.clock t.clock ended.changes.clock ended.settles.clock))

  -- the definitions are those that the items tell, and the boundary that was found, if one was
  told_with : (bound : Option Boundary) → IsBoundaryFound u q ended.bound s bound
      → HasRegistered v t r s first' (record { to = end.to; bound = bound })
  told_with None found = record {
    found = found_end;
    known = known_end;
    so = so_items;
    whole = λ none k span. subst (ItemsFit k.from (k.to + 16) (registry_of v r)) (sym (append-nil first'.items)) (so_items k span);
    is = λ none. same_end ∙ found ∙ behind_items none ∙ ap (after_all (registry_of v r)) (sym (append-nil first'.items));
    each = λ none. subst (KnowsEach t (registry_of v r)) (sym (append-nil first'.items)) known_end;
    settled = ended.unset;
  }
  told_with (Some b) found = record {
    found = found_end;
    known = known_end;
    so = so_items;
    whole = λ none k span.
        let n = near k span in
        let low = n.0 in
        let high = n.1 in
        let same = same_count in
        let gained = controlled.run.gains.on.learns.count in
        let more = lanes.back.takes.learns.count in
        let more_bound = ended.settles.learns.count in
        so_more k.from (k.to + 16) (registry_of v r) first'.items (item.Bound b.id b.from) (so_items k span)
        (so_wide u.learned.count ended.bound.learned.count k.from (k.to + 16) (after_all (registry_of v r) first'.items)
        (item.Bound b.id b.from) (omega arith) (omega arith)
        (subst (λ (z : Registry). ItemFits u.learned.count ended.bound.learned.count z (item.Bound b.id b.from)) (behind_items none)
        found.so));
    is = λ none. same_end ∙ found.is ∙ ap (λ (z : Registry). after z (item.Bound b.id b.from)) (behind_items none)
        ∙ sym (after_more (registry_of v r) first'.items (item.Bound b.id b.from));
    each = λ none.
        let known_u : KnowsRegistry u (registry_of u q) =
        subst (KnowsRegistry u) (sym (behind_items none))
        (each_last (KnowsRegistry u) (registry_of v r) first'.items
        (each_later lanes.ran u (registry_of v r) first'.items lanes.back.takes.learns known_items)) in
        each_more (KnowsRegistry t) (registry_of v r) first'.items (item.Bound b.id b.from)
        known_end
        (subst (λ (z : Registry). KnowsRegistry t (after z (item.Bound b.id b.from))) (behind_items none)
        (registry_later ended.bound t (after (registry_of u q) (item.Bound b.id b.from)) ended.settles.learns
        (found.knows known_u)));
    settled = ended.unset;
  }

  pub registered_end : HasRegistered v t r s first' end
  registered_end = told_with end.bound ended.found
