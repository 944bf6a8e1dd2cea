-- One pass more came back.
use Rattle.std.proofs.Common.{◌≡◌, ℕ, ◌+◌, ◌<◌, List, Some, slice_get, set, length, refl, sym, ap, ◌∙◌, subst, arith}
use Rattle.std.proofs.Math.Decide.{ℕ_discrete}
use Rattle.std.proofs.lemmas.Option.{slice_get_within}
use Rattle.fish_lanes.proofs.Lanes.{can_take, taken_more, taken_none}
use Rattle.fish_lanes.proofs.Lists.{get_set_else, get_set_here, read_at, some_once}
use Rattle.fish_lanes.specs.within.Blocks.{CanTake, HasTakenLane, HasTakenAll, WasTaken}
use Rattle.fish_lanes.specs.declared.lane.Lane.{Lane}
use Rattle.fish_rule.specs.Passes.{view}
use Rattle.fish_lanes.proofs.seats.take_all.Goals as goal

pub loop-i-init : goal.loop-i-init
loop-i-init c = record {
  of = c.requires.pass;
  taken = taken_none c.args.log.now (view c.args.control.now) c.args.lanes.now c.requires.can;
  were = λ j x y below. absurd (omega arith);
  rest = λ j above. refl;
}

pub take_back-requires-clause-can : goal.take_back-requires-clause-can
take_back-requires-clause-can c =
    let inv = c.loop-i.invariant in
    let i = c.loop-i.i in
    let test = c.loop-i-test.true in
    let size = c.loop-i.auto.lanes in
    let r = c.index-lanes-i.result in
    let at : slice_get c.loop-i.lanes i ≡ Some r = read_at c.loop-i.lanes i r (omega arith) c.index-lanes-i.is in
    let at_fn : slice_get c.args.lanes.now i ≡ Some r = sym (inv.rest i (omega arith)) ∙ at in
    subst (λ (z : Lane). CanTake c.args.log.now (view c.loop-i.control) z) c.index-lanes-i.is
    (can_take c.args.log.now (view c.args.control.now) (view c.loop-i.control) c.args.lanes.now i r c.requires.can inv.taken
    (omega arith) at_fn)

-- the lanes with one more
were_more : (fn lanes : List Lane) (i : ℕ) (r y : Lane) → i < length lanes → slice_get fn i ≡ Some r
    → ((j : ℕ) (x z : Lane) → j < i → slice_get fn j ≡ Some x → slice_get lanes j ≡ Some z → WasTaken x z)
    → WasTaken r y
    → (j : ℕ) (x z : Lane) → j < i + 1 → slice_get fn j ≡ Some x → slice_get (set lanes i y) j ≡ Some z → WasTaken x z
were_more fn lanes i r y less at were here j x z below at_x at_z = pick (ℕ_discrete j i)
  where
    pick : Dec (j ≡ i) → WasTaken x z
    pick (yes same) =
        let first : x ≡ r = some_once x r (sym at_x ∙ ap (slice_get fn) same ∙ at) in
        let second : z ≡ y = some_once z y (sym at_z ∙ ap (slice_get (set lanes i y)) same ∙ get_set_here lanes i y less) in
        subst (λ (p : Lane × Lane). WasTaken p.0 p.1) (λ k. (sym first k, sym second k)) here
    pick (no ne) = were j x z (omega arith) at_x (sym (get_set_else lanes i j y ne) ∙ at_z)

pub loop-i-preserved : goal.loop-i-preserved
loop-i-preserved c =
    let inv = c.loop-i.invariant in
    let i = c.loop-i.i in
    let test = c.loop-i-test.true in
    let size = c.loop-i.auto.lanes in
    let r = c.index-lanes-i.result in
    let w = view c.args.control.now in
    let u = view c.loop-i.control in
    let t = view c.take_back.new.control in
    let at : slice_get c.loop-i.lanes i ≡ Some r = read_at c.loop-i.lanes i r (omega arith) c.index-lanes-i.is in
    let at_fn : slice_get c.args.lanes.now i ≡ Some r = sym (inv.rest i (omega arith)) ∙ at in
    let taken : HasTakenLane u t r = subst (λ (z : Lane). HasTakenLane u t z) (sym c.index-lanes-i.is) c.take_back.ensures.taken in
    let was : WasTaken r c.take_back.new.lane =
    subst (λ (z : Lane). WasTaken z c.take_back.new.lane) (sym c.index-lanes-i.is) c.take_back.ensures.lane in
    record {
      of = c.take_back.ensures.pass;
      taken = taken_more c.args.log.now w u t c.args.lanes.now i r c.requires.can inv.taken at_fn taken;
      were = were_more c.args.lanes.now c.loop-i.lanes i r c.take_back.new.lane (omega arith) at_fn inv.were was;
      rest = λ j above. get_set_else c.loop-i.lanes i j c.take_back.new.lane (λ e. omega arith) ∙ inv.rest j (omega arith);
    }

pub returns-clause-taken : goal.returns-clause-taken
returns-clause-taken c =
    let test = c.loop-i-test.false in
    let size = c.loop-i.auto.lanes in
    let end = c.loop-i.auto.i-end in
    let same : c.loop-i.i ≡ length c.args.lanes.now = omega arith in
    subst (HasTakenAll (view c.args.control.now) (view c.loop-i.control) c.args.lanes.now) same c.loop-i.invariant.taken

pub returns-clause-lanes : goal.returns-clause-lanes
returns-clause-lanes c i x y at_x at_y =
    let test = c.loop-i-test.false in
    let size = c.loop-i.auto.lanes in
    let less = slice_get_within c.args.lanes.now i x at_x in
    c.loop-i.invariant.were i x y (omega arith) at_x at_y
