-- Each turn adds one.
use Rattle.std.proofs.Common.{◌≡◌, ◌∙◌, ◌++◌, ◌∷◌, [], ℕ, List, ap, arith, replicate}
use Rattle.std.proofs.lemmas.List.{replicate_more}
use Rattle.fish_rule.proofs.seats.no_heads.Goals as goal

pub loop-init : goal.loop-init
loop-init c = c.new-heads.ensures

pub loop-preserved : goal.loop-preserved
loop-preserved c = c.in_ok-push.ensures.ok ∙ ap (λ (z : List ℕ). z ++ 0 ∷ []) c.loop.invariant
    ∙ replicate_more c.loop.counter 0

pub returns : goal.returns
returns c =
    let upto = c.loop.auto.counter-end in
    let all = c.loop-test.false in
    let e : c.loop.counter ≡ c.args.count = omega arith in
    c.loop.invariant ∙ ap (λ (n : ℕ). replicate n 0) e
