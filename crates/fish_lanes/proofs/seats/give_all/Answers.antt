-- One lane more has its pass.
use Rattle.std.proofs.Common.{◌≡◌, ℕ, ◌+◌, ◌<◌, List, Some, slice_get, set, length, refl, sym, ap, ◌∙◌, subst, arith}
use Rattle.std.proofs.Math.Decide.{ℕ_discrete}
use Rattle.std.proofs.lemmas.Option.{slice_get_within}
use Rattle.fish_lanes.proofs.Lanes.{can_split, given_more, given_none, seated_by}
use Rattle.fish_lanes.proofs.Lists.{get_set_else, get_set_here, read_at, some_once}
use Rattle.fish_lanes.specs.within.Blocks.{HasGiven, HasSeat, IsSeated}
use Rattle.fish_lanes.specs.declared.lane.Lane.{Lane}
use Rattle.fish_rule.specs.Passes.{view}
use Rattle.fish_rule.specs.SeatSteps.{CanSplitPass, split_left, split_right}
use Rattle.fish_rule.specs.declared.table.Log.{Log}
use Rattle.fish_rule.specs.declared.view.View.{View}
use Rattle.fish_lanes.proofs.seats.give_all.Goals as goal

pub loop-i-init : goal.loop-i-init
loop-i-init c = record {
  of = c.requires.pass;
  given = given_none (view c.args.control.now) c.args.lanes.now c.requires.can;
  seated = λ j x y below. absurd (omega arith);
  rest = λ j above. refl;
}

pub give-requires-clause-can : goal.give-requires-clause-can
give-requires-clause-can c =
    let inv = c.loop-i.invariant in
    let i = c.loop-i.i in
    let test = c.loop-i-test.true in
    let size = c.loop-i.auto.lanes in
    let r = c.index-lanes-i.result in
    let at : slice_get c.loop-i.lanes i ≡ Some r = read_at c.loop-i.lanes i r (omega arith) c.index-lanes-i.is in
    let new = c.requires.can.new i r (sym (inv.rest i (omega arith)) ∙ at) in
    let few = c.requires.can.few in
    subst (λ (z : ℕ). CanSplitPass (view c.loop-i.control) z)
    (sym new.number_is ∙ ap (λ (z : Lane). z.number) c.index-lanes-i.is)
    (can_split (view c.args.control.now) (view c.loop-i.control) i inv.given (omega arith))

-- the lanes with one more
seated_more : (log : Log) (v m u : View) (fn lanes : List Lane) (i : ℕ) (r y : Lane) → i < length lanes → slice_get fn i ≡ Some r
    → ((j : ℕ) (x z : Lane) → j < i → slice_get fn j ≡ Some x → slice_get lanes j ≡ Some z → IsSeated log v j x z)
    → IsSeated log v i r y
    → (j : ℕ) (x z : Lane) → j < i + 1 → slice_get fn j ≡ Some x → slice_get (set lanes i y) j ≡ Some z → IsSeated log v j x z
seated_more log v m u fn lanes i r y less at seated here j x z below at_x at_z = pick (ℕ_discrete j i)
  where
    pick : Dec (j ≡ i) → IsSeated log v j x z
    pick (yes same) =
        let first : x ≡ r = some_once x r (sym at_x ∙ ap (slice_get fn) same ∙ at) in
        let second : z ≡ y = some_once z y (sym at_z ∙ ap (slice_get (set lanes i y)) same ∙ get_set_here lanes i y less) in
        subst (λ (p : ℕ × Lane × Lane). IsSeated log v p.0 p.1 p.2) (λ k. (sym same k, sym first k, sym second k)) here
    pick (no ne) = seated j x z (omega arith) at_x (sym (get_set_else lanes i j y ne) ∙ at_z)

pub loop-i-preserved : goal.loop-i-preserved
loop-i-preserved c =
    let inv = c.loop-i.invariant in
    let i = c.loop-i.i in
    let test = c.loop-i-test.true in
    let size = c.loop-i.auto.lanes in
    let r = c.index-lanes-i.result in
    let v = view c.args.control.now in
    let m = view c.loop-i.control in
    let at : slice_get c.loop-i.lanes i ≡ Some r = read_at c.loop-i.lanes i r (omega arith) c.index-lanes-i.is in
    let at_fn : slice_get c.args.lanes.now i ≡ Some r = sym (inv.rest i (omega arith)) ∙ at in
    let new = c.requires.can.new i r at_fn in
    let seat : HasSeat c.args.log.now (split_right r.number m) r c.give.new.lane =
    subst (λ (z : Lane). HasSeat c.args.log.now (split_right z.number m) z c.give.new.lane) (sym c.index-lanes-i.is)
    c.give.ensures.seat in
    let left : view c.give.new.control ≡ split_left r.number m =
    subst (λ (z : Lane). view c.give.new.control ≡ split_left z.number m) (sym c.index-lanes-i.is) c.give.ensures.left in
    record {
      of = c.give.ensures.pass;
      given = given_more v m (view c.give.new.control) i r.number new.number_is inv.given left;
      seated = seated_more c.args.log.now v m (view c.give.new.control) c.args.lanes.now c.loop-i.lanes i r c.give.new.lane
          (omega arith) at_fn inv.seated (seated_by c.args.log.now v m i r.number r c.give.new.lane new.number_is inv.given seat);
      rest = λ j above. get_set_else c.loop-i.lanes i j c.give.new.lane (λ e. omega arith) ∙ inv.rest j (omega arith);
    }

pub returns-clause-given : goal.returns-clause-given
returns-clause-given c =
    let test = c.loop-i-test.false in
    let size = c.loop-i.auto.lanes in
    let end = c.loop-i.auto.i-end in
    let same : c.loop-i.i ≡ length c.args.lanes.now = omega arith in
    subst (HasGiven (view c.args.control.now) (view c.loop-i.control)) same c.loop-i.invariant.given

pub returns-clause-seated : goal.returns-clause-seated
returns-clause-seated c i x y at_x at_y =
    let test = c.loop-i-test.false in
    let size = c.loop-i.auto.lanes in
    let less = slice_get_within c.args.lanes.now i x at_x in
    c.loop-i.invariant.seated i x y (omega arith) at_x at_y
