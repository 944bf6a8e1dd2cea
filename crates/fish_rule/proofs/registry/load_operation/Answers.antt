-- The operation's word lasts.
use Rattle.std.proofs.Common.{◌≡◌, ◌∙◌, ℕ, ◌+◌, ◌-◌, ◌<◌, ap, arith, inl, inr, subst, sym}
use Rattle.fish_rule.specs.RegistrySteps.{after_load_registry}
use Rattle.fish_rule.proofs.basics.Context.{Key, view}
use Rattle.fish_rule.specs.Registry.{op_at}
use Rattle.fish_rule.proofs.registry.load_operation.Goals as goal

pub load_registry-requires-clause-view : goal.load_registry-requires-clause-view
load_registry-requires-clause-view c =
    let some_ = c.requires.version.0 in
    inr (inl (
      c.args.version,
      subst (λ (z : Key). z.version < c.args.version) (sym c.requires.pass.about) c.requires.version.0,
      c.requires.version.1,
      omega arith,
    ))

pub returns-clause-view : goal.returns-clause-view
returns-clause-view c =
    let some_ = c.requires.version.0 in
    let e : 20 + (c.args.version - 1) ≡ op_at c.args.version = omega arith in
    c.load_registry.ensures.view ∙ ap (λ (z : ℕ). after_load_registry (view c.args.pass.now) z c.load_registry.result) e
