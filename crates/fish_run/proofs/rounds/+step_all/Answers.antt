-- The first lane, and the others.
use Rattle.std.proofs.Common.{◌≡◌, ◌++◌, ◌<◌, List, None, drop, get_or, length, set, subst, sym, take, arith}
use Rattle.std.proofs.lemmas.Result.{on_ok_weaker}
use Rattle.fish_lanes.specs.declared.lane.Lane.{Lane}
use Rattle.fish_run.proofs.Stepping.{stepped_more}
use Rattle.fish_lanes.specs.Controlling.{bound_items}
use Rattle.fish_run.specs.within.Going.{HasStepped, StepsLane}
use Rattle.fish_run.specs.declared.saying.Said.{Said}
use Rattle.fish_run.proofs.rounds.+step_all.Goals as goal

pub returns : goal.returns
returns n c =
    let a = c.args in
    let said : List Said = a.said.now in
    let lanes : List Lane = a.lanes.now in
    let front_s = c.split_at_mut-first_said.ensures.front in
    let front = c.split_at_mut-first.ensures.front in
    let s : Said = c.index-first_said-0.result in
    let x : Lane = c.index-first-0.result in
    let t : Said = c.step.new.said in
    let y : Lane = c.step.new.lane in
    let said' : List Said = c.step_all.new.said in
    let lanes' : List Lane = c.step_all.new.lanes in
    let at_s : s ≡ get_or (take 1 said) 0 s = subst (λ (z : List Said). s ≡ get_or z 0 s) front_s c.index-first_said-0.is in
    let at_x : x ≡ get_or (take 1 lanes) 0 x = subst (λ (z : List Lane). x ≡ get_or z 0 x) front c.index-first-0.is in
    let one : StepsLane a.full a.fresh (bound_items a.bound) s t x y =
    subst (λ (z : Said). StepsLane a.full a.fresh (bound_items a.bound) z t x y) (sym c.index-first_said-0.is)
    (subst (λ (z : Lane). StepsLane a.full a.fresh (bound_items a.bound) (get_or c.split_at_mut-first_said.result.0.now 0 s) t z y)
    (sym c.index-first-0.is) c.in_ok-step.ensures) in
    let some : 0 < length lanes = (let test = c.if-lanes-eq0.false in omega arith) in
    on_ok_weaker c.step_all.result
    (λ h.
    subst (λ (z : List Said). HasStepped a.full a.fresh a.bound said (set z 0 t ++ said') lanes
    (set c.split_at_mut-first.result.0.now 0 y ++ lanes')) (sym front_s)
    (subst (λ (z : List Lane). HasStepped a.full a.fresh a.bound said (set (take 1 said) 0 t ++ said') lanes (set z 0 y ++ lanes'))
    (sym front)
    (stepped_more a.full a.fresh a.bound said lanes s t x y said' lanes' some c.requires at_s at_x one
    (subst (λ (z : List Said). HasStepped a.full a.fresh None z said' (drop 1 lanes) lanes') c.split_at_mut-first_said.ensures.back
    (subst (λ (z : List Lane). HasStepped a.full a.fresh None c.split_at_mut-first_said.result.1.now said' z lanes')
    c.split_at_mut-first.ensures.back h)))))
    c.step_all.ensures
