-- The walk that the pass kept is kept again.
use Rattle.std.proofs.Common.{ℕ, List, Option, refl, sym, subst, inl, inr, arith}
use Rattle.fish_rule.specs.Passes.{view}
use Rattle.fish_rule.specs.declared.view.View.{View}
use Rattle.fish_scan.proofs.Loading.{loaded_none, loaded_one, rises_none, rises_within}
use Rattle.fish_scan.specs.within.Indices.{IsValued}
use Rattle.fish_scan.specs.within.Work.{IsComparison}
use Rattle.fish_scan.proofs.indexed.read_node.Goals as goal

pub returns-in_err-payload-clause-pass : goal.returns-in_err-payload-clause-pass
returns-in_err-payload-clause-pass g c = c.keep_walk.ensures.pass c.args.log.now c.payload_with-payload.ensures.pass

pub returns-in_err-push-clause-pass : goal.returns-in_err-push-clause-pass
returns-in_err-push-clause-pass g c = c.keep_walk.ensures.pass c.args.log.now c.payload_with-payload.ensures.pass

pub returns-in_ok-push-clause-pass : goal.returns-in_ok-push-clause-pass
returns-in_ok-push-clause-pass g c = c.keep_walk.ensures.pass c.args.log.now c.payload_with-payload.ensures.pass

pub returns-in_ok-push-clause-row : goal.returns-in_ok-push-clause-row
returns-in_ok-push-clause-row g c _ = inl (
  c.in-Some.payload,
  record {
    valued = subst (λ (z : View × Option (List ℕ)). IsValued z.0 c.args.query.now.value c.args.node.now z.1)
        (λ i. (sym c.keep_walk.ensures.view i, c.in-Some.is i)) c.in_ok-payload.ensures.payload;
    added = c.in_ok-push.ensures.ok;
  },
)

pub returns-in_default-clause-pass : goal.returns-in_default-clause-pass
returns-in_default-clause-pass g c = c.keep_walk.ensures.pass c.args.log.now c.payload_with-payload.ensures.pass

pub returns-in_default-clause-row : goal.returns-in_default-clause-row
returns-in_default-clause-row g c _ = inr (
  refl,
  subst (λ (z : View × Option (List ℕ)). IsValued z.0 c.args.query.now.value c.args.node.now z.1)
      (λ i. (sym c.keep_walk.ensures.view i, c.in_default.is i)) c.in_ok-payload.ensures.payload,
)

-- an entry of another definition takes no load
pub returns-then-node-id-clause-loads : goal.returns-then-node-id-clause-loads
returns-then-node-id-clause-loads g c = loaded_none (view c.args.pass.now) (view c.args.pass.now) _ _ _ 36
    (rises_within _ _ _ _ 0 36 (omega arith) (rises_none (view c.args.pass.now) _))

pub returns-in_ok-push-clause-loads : goal.returns-in_ok-push-clause-loads
returns-in_ok-push-clause-loads g c =
    let took = subst (λ (z : View × Option (List ℕ)). IsComparison (view c.args.pass.now) z.0 c.args.node.now z.1
    c.args.loads.now c.payload_with-payload.new.loads) (λ i. (sym c.keep_walk.ensures.view i, c.in-Some.is i))
    c.in_ok-payload.ensures.loads in
    loaded_one (view c.args.pass.now) (view c.keep_walk.new.pass) _ _ _ took.0 _ _ 36 c.in_ok-push.ensures.ok took.1 took.2

pub returns-in_default-clause-loads : goal.returns-in_default-clause-loads
returns-in_default-clause-loads g c = loaded_none (view c.args.pass.now) (view c.keep_walk.new.pass) _ _ _ 36
    (subst (λ (z : View × Option (List ℕ)). IsComparison (view c.args.pass.now) z.0 c.args.node.now z.1
    c.args.loads.now c.payload_with-payload.new.loads) (λ i. (sym c.keep_walk.ensures.view i, c.in_default.is i))
    c.in_ok-payload.ensures.loads)
