-- The walk stands where nothing of the table is left, which is the start's head.
use Rattle.std.proofs.Common.{◌≡◌, ◌≤◌, ap, ◌∙◌, subst, sym}
use Rattle.fish_chain.proofs.Descents.{rests_at}
use Rattle.fish_rule.specs.Parts.{IsOlderPlace, first_head}
use Rattle.fish_rule.specs.Passes.{view, walk_of}
use Rattle.fish_rule.specs.declared.table.Walk.{Walk}
use Rattle.fish_rule.specs.declared.view.Key.{Key}
use Rattle.fish_rule.specs.declared.view.View.{View}
use Rattle.fish_chain.specs.Walks.{IsPastPlace, IsWalking}
use Rattle.fish_rule.specs.Table.{IsOfMoment}
use Rattle.fish_chain.proofs.walk.walk_rest.Goals as goal

-- where a walk from the base on stands once it is past the table
rest_is : (k : Key) (v : View) (walk : Walk) → v.about ≡ k → IsOfMoment v → IsWalking v walk → IsPastPlace v walk.place
    → walk.from ≤ k.number → walk.place ≡ first_head k walk.bucket
rest_is k v walk about stands walking past from =
    (rests_at v walk walking stands past).first (subst (λ (z : Key). walk.from ≤ z.number) (sym about) from)
    ∙ ap (λ (z : Key). first_head z walk.bucket) about

pub returns-clause-rest : goal.returns-clause-rest
returns-clause-rest c =
    let walk = walk_of c.args.pass.now in
    ap (λ (z : Walk). z.place) c.kept_walk.ensures
    ∙ rest_is c.args.log.now.key (view c.args.pass.now) walk c.requires.pass.about c.requires.pass.stands
    c.requires.walking c.requires.past c.requires.from

pub returns-clause-older : goal.returns-clause-older
returns-clause-older c =
    let walk = walk_of c.args.pass.now in
    subst (IsOlderPlace c.args.log.now.key.line)
    (sym (ap (λ (z : Walk). z.place) c.kept_walk.ensures
    ∙ rest_is c.args.log.now.key (view c.args.pass.now) walk c.requires.pass.about c.requires.pass.stands
    c.requires.walking c.requires.past c.requires.from))
    (c.args.log.now.fits.older_heads walk.bucket)
