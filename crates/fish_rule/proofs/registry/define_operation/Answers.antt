-- The word is that of the next operation.
use Rattle.std.proofs.Common.{◌≡◌, ◌∙◌, ℕ, ◌+◌, suc, ap, arith, subst}
use Rattle.fish_rule.proofs.laws.Versions.{define_law}
use Rattle.fish_rule.specs.Passes.{view}
use Rattle.fish_rule.specs.Registry.{op_at}
use Rattle.fish_rule.specs.RegistrySteps.{CanDefineWord, after_define_word}
use Rattle.fish_rule.proofs.registry.define_operation.Goals as goal

pub overflow_add-version : goal.overflow_add-version
overflow_add-version c =
    let within = define_law c.args.log.now.key (view c.args.pass.now) (op_at (suc c.args.version)) c.args.operation
    c.requires.pass.about c.requires.pass.stands c.requires.view in
    omega arith

pub define_word-requires-clause-view : goal.define_word-requires-clause-view
define_word-requires-clause-view c =
    let e : op_at (suc c.args.version) ≡ 20 + c.args.version = omega arith in
    subst (λ (p : ℕ). CanDefineWord (view c.args.pass.now) p c.args.operation) e c.requires.view

pub returns-clause-view : goal.returns-clause-view
returns-clause-view c =
    let e : 20 + c.args.version ≡ op_at (suc c.args.version) = omega arith in
    c.define_word.ensures.view ∙ ap (λ (p : ℕ). after_define_word (view c.args.pass.now) p c.args.operation) e
