-- The head that was seen is where the walk begins.
use Rattle.std.proofs.Common.{◌≡◌, ℕ, ◌+◌, ◌*◌, ◌≤◌, sym, ap, ◌∙◌, subst, ⊎_elim, arith}
use Rattle.fish_chain.proofs.Descents.{begun_at, first_known}
use Rattle.fish_chain.specs.Walks.{HasBegunWalk, IsPastPlace}
use Rattle.fish_rule.proofs.laws.Descents.{head_here}
use Rattle.fish_rule.proofs.laws.Links.{node_law}
use Rattle.fish_rule.specs.ChainSteps.{HasNode, after_load_head}
use Rattle.fish_rule.specs.Parts.{first_head}
use Rattle.fish_rule.specs.Passes.{view, walk_of}
use Rattle.fish_rule.specs.declared.table.Walk.{Walk}
use Rattle.fish_rule.specs.declared.view.Key.{Key}
use Rattle.fish_rule.specs.declared.view.View.{View}
use Rattle.fish_chain.proofs.walk.walk_start.Goals as goal

-- a place that is none of the table's is at most the base's
past_bound : (k : Key) (v : View) (x : ℕ) → v.about ≡ k → IsPastPlace v x → x ≤ k.line * 4
past_bound k v x about past = subst (λ (z : Key). x ≤ z.line * 4) about past

pub overflow_add-walk : goal.overflow_add-walk
overflow_add-walk g c =
    let v = view c.args.pass.now in
    let u = view c.load_head-place.new.pass in
    let x : ℕ = c.load_head-place.result in
    let key = c.args.log.now.key in
    let low_end = c.args.log.now.fits.low_end in
    let here = head_here v c.from.result x in
    let some_ = c.args.log.now.fits.some_lines in
    let first = past_bound key v x c.requires.pass.about in
    ⊎_elim (λ (e : IsPastPlace v x). let least = first e in omega arith)
    (λ (m : HasNode (after_load_head v c.from.result x) c.from.result x).
    let node : HasNode u c.from.result x =
    subst (λ (z : View). HasNode z c.from.result x) (sym c.load_head-place.ensures.view) m in
    let law = node_law key u c.from.result x c.load_head-place.ensures.pass.about
    c.load_head-place.ensures.pass.stands node in
    let within = law.1 in omega arith)
    here

pub returns-clause-pass : goal.returns-clause-pass
returns-clause-pass g c = c.keep_walk.ensures.pass c.args.log.now c.load_head-place.ensures.pass

pub returns-clause-begun : goal.returns-clause-begun
returns-clause-begun g c =
    let v = view c.args.pass.now in
    let x : ℕ = c.load_head-place.result in
    let bucket = c.from.ensures in
    let same : view c.keep_walk.new.pass ≡ after_load_head v c.args.bucket x =
    c.keep_walk.ensures.view ∙ c.load_head-place.ensures.view ∙ ap (λ (z : ℕ). after_load_head v z x) bucket in
    let walk : walk_of c.keep_walk.new.pass ≡ record {
      bucket = c.args.bucket;
      from = c.args.from;
      to = c.args.to;
      given = x + 1;
      place = x;
    } =
    c.keep_walk.ensures.walk ∙ (λ i. record {
      bucket = c.from-2.ensures i;
      from = c.from-3.ensures i;
      to = c.from-4.ensures i;
      given = x + 1;
      place = x;
    }) in
    subst (λ (z : View × Walk). HasBegunWalk z.0 z.1 c.args.bucket c.args.from c.args.to) (λ i. (sym same i, sym walk i))
    (begun_at v c.args.bucket c.args.from c.args.to x c.requires.settled
    (first_known c.args.log.now.key v c.args.bucket x c.requires.pass.about
    (subst (λ (z : ℕ). x ≤ c.args.log.now.key.line * 4 → x ≡ first_head c.args.log.now.key z) bucket
    c.load_head-place.ensures.first)))
