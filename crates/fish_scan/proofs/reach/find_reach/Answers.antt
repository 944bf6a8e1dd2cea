-- What is settled, and the looks after it, tell how far the scan looks.
use Rattle.std.proofs.Common.{◌≡◌, ℕ, ◌+◌, length, refl, sym, ap, ◌∙◌, subst, arith, min, max}
use Rattle.fish_rule.specs.Passes.{view}
use Rattle.fish_scan.proofs.Ends.{exact_found}
use Rattle.fish_scan.proofs.Looking.{reach_found, settles_looks}
use Rattle.fish_scan.specs.Reach.{end_of}
use Rattle.fish_scan.specs.within.Reach.{IsCutAt}
use Rattle.fish_walk.proofs.Looking.{looked_both}
use Rattle.fish_rule.specs.declared.view.Key.{Key}
use Rattle.fish_scan.proofs.reach.find_reach.Goals as goal

-- the pass may look at the number where the settled ones stop
pub cut_end-end-requires-clause-above : goal.cut_end-end-requires-clause-above
cut_end-end-requires-clause-above c =
    let base = c.base.ensures.0 in
    let about = ap (λ (z : Key). z.number) (c.settle-settled.ensures.settles.learns.about ∙ c.requires.pass.about) in
    let one = c.max-stop.ensures in
    omega arith

-- and after it
pub look_on-requires-clause-above : goal.look_on-requires-clause-above
look_on-requires-clause-above c some =
    let base = c.base.ensures.0 in
    let cut = ap (λ (z : Key). z.number) c.cut_end-end.ensures.only.extends.learns.about in
    let about = ap (λ (z : Key). z.number) (c.settle-settled.ensures.settles.learns.about ∙ c.requires.pass.about) in
    let one = c.max-stop.ensures in
    let two = c.max.ensures in
    let least = c.min-first.ensures in
    omega arith

pub returns-in_err-look_on-clause-settles : goal.returns-in_err-look_on-clause-settles
returns-in_err-look_on-clause-settles c = settles_looks _ _ _ c.settle-settled.ensures.settles
    (looked_both _ _ _ c.cut_end-end.ensures.only c.look_on.ensures.only)

pub returns-clause-settles : goal.returns-clause-settles
returns-clause-settles c = settles_looks _ _ _ c.settle-settled.ensures.settles
    (looked_both _ _ _ c.cut_end-end.ensures.only c.look_on.ensures.only)

-- what was found on the way is how far the scan looks
pub returns-clause-reach : goal.returns-clause-reach
returns-clause-reach c =
    let a = view c.args.pass.now in
    let b = view c.settle-settled.new.pass in
    let m = view c.cut_end-end.new.pass in
    let d = view c.look_on.new.pass in
    let settle = c.settle-settled.ensures in
    let found = c.settle-settled.result in
    let looks = c.in_ok-look_on.ensures in
    let base : c.base.result.number ≡ a.about.number = c.base.ensures.0 ∙ sym (ap (λ (z : Key). z.number) c.requires.pass.about) in
    let stop : c.max-stop.result ≡ max c.base.result.number found.settled = c.max-stop.ensures in
    let limit : c.min.result ≡ end_of c.args.to found.count = c.min.ensures ∙ ap (λ (z : ℕ). min z found.count) c.unwrap_or.ensures in
    let cut = subst (λ (z : ℕ). IsCutAt m c.max-stop.result c.args.from z c.cut_end-end.result) limit c.cut_end-end.ensures.cut in
    let first : c.min-first.result ≡ min (max c.max-stop.result c.args.from) c.cut_end-end.result =
    c.min-first.ensures ∙ ap (λ (z : ℕ). min z c.cut_end-end.result) c.max.ensures in
    let last : c.min-first.result + c.len.result ≡ c.min-first.result + length c.look_on.new.looks.items =
    omega (arith, c.len.ensures, c.look_on.new.looks.ok.0) in
    reach_found a b m d c.args.from c.args.to found.settled found.count c.cut_end-end.result c.base.result.number
    c.min-first.result _ settle.settles settle.rises settle.settled settle.stops settle.count settle.tail c.cut_end-end.ensures.only
    (subst (λ (z : ℕ). IsCutAt m z c.args.from (end_of c.args.to found.count) c.cut_end-end.result) stop cut) base
    (first ∙ ap (λ (z : ℕ). min (max z c.args.from) c.cut_end-end.result) stop) c.look_on.ensures.only looks.looks refl refl
    last c.min-2.ensures
    (exact_found a b m d c.args.from c.args.to found.settled found.count c.base.result.number c.max-stop.result
    c.cut_end-end.result c.min-first.result (c.min-first.result + c.len.result) c.look_on.new.looks.items c.look_on.new.opens
    settle.settles c.cut_end-end.ensures.only c.look_on.ensures.only
    settle.pass.stands c.look_on.ensures.pass.stands settle.tail settle.rests settle.ends
    (base ∙ sym (ap (λ (z : Key). z.number) settle.settles.learns.about)) stop cut c.cut_end-end.ensures.alone first
    looks.looks looks.closed last)
