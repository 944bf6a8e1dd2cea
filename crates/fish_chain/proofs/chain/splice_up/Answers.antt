-- Each turn aims at the first word that was seen above, and splices or sees a higher one.
use Rattle.std.proofs.Common.{◌≡◌, ℕ, ◌<◌, ap, subst, Some, None, Option}
use Rattle.fish_chain.proofs.Changes.{for_each}
use Rattle.fish_chain.proofs.Splicing.{IsSplicing, aimed_node, splice_aim, splice_begins, splice_can, splice_falls}
use Rattle.fish_chain.proofs.Splicing.{splice_hit, splice_miss, splice_over, splicing}
use Rattle.fish_chain.specs.within.Links.{CanLinkBelow, Tried}
use Rattle.fish_rule.proofs.laws.Links.{one_bucket}
use Rattle.fish_rule.specs.ChainSteps.{aimed_at}
use Rattle.fish_rule.specs.Passes.{view}
use Rattle.fish_rule.specs.Table.{IsOfMoment}
use Rattle.fish_rule.specs.declared.view.Flight.{Flight}
use Rattle.fish_rule.specs.declared.view.View.{View}
use Rattle.fish_chain.proofs.chain.splice_up.Goals as goal

-- what was tried for the record in flight and the bucket of the higher entry holds of any that can be shown to
-- be these
tried_each : (v u : View) (q place x : ℕ) (s : IsSplicing v q place x u) (o : Option ℕ) (w : View) → IsOfMoment v
    → Tried v s.flight s.bucket o w
    → (f : Flight) → (b : ℕ) → CanLinkBelow v f b q place → Tried v f b o w
tried_each v u q place x s o w stands tried f b under =
    let same : s.bucket ≡ b = one_bucket v s.bucket b q stands s.under.node under.node in
    for_each v s.flight (λ (z : Flight). Tried v z b o w) s.under.can.filled.flying
    (subst (λ (z : ℕ). Tried v s.flight z o w) same tried) f under.can.filled.flying

pub loop-previous-init : goal.loop-previous-init
loop-previous-init c =
    let f : Flight = c.requires.view.0 in
    let b : ℕ = c.requires.view.1.0 in
    let under = c.requires.view.1.1 in
    let load = c.load_previous-previous in
    record {
      of = load.ensures.pass;
      splicing = splice_begins (view c.args.pass.now) c.args.above c.args.place f b under
          (view load.new.pass) load.result (load.ensures.view b under.node) load.ensures.less;
    }

pub aim_entry-requires-clause-view : goal.aim_entry-requires-clause-view
aim_entry-requires-clause-view c =
    let s = c.loop-previous.invariant.splicing in (
      splicing (view c.args.pass.now)
          (view c.loop-previous.pass) c.args.above c.args.place c.loop-previous.previous s,
      splice_aim _ _ _ _ _ s,
      s.under.at,
    )

pub splice_entry-found-requires-clause-view : goal.splice_entry-found-requires-clause-view
splice_entry-found-requires-clause-view c =
    let s = c.loop-previous.invariant.splicing in
    let x : ℕ = c.loop-previous.previous in
    let f : Flight = splicing (view c.args.pass.now) (view c.loop-previous.pass) c.args.above c.args.place x s in
    let aimed = c.aim_entry.ensures.view f (ap (λ (z : View). z.flight) s.changed.known) in (
      aimed_at f x,
      (
        s.bucket,
        splice_can _ _ _ _ _ s
            (view c.aim_entry.new.pass) aimed c.loop-previous.invariant.of.stands c.loop-previous-test.true,
        s.under.at,
      ),
    )

pub returns-then-found-previous-clause-tried : goal.returns-then-found-previous-clause-tried
returns-then-found-previous-clause-tried c =
    let s = c.loop-previous.invariant.splicing in
    let x : ℕ = c.loop-previous.previous in
    let f : Flight = splicing (view c.args.pass.now) (view c.loop-previous.pass) c.args.above c.args.place x s in
    let t = view c.aim_entry.new.pass in
    let w = view c.splice_entry-found.new.pass in
    let aimed = c.aim_entry.ensures.view f (ap (λ (z : View). z.flight) s.changed.known) in
    let spliced = c.splice_entry-found.ensures.view (aimed_at f x) s.bucket (ap (λ (z : View). z.flight) aimed)
    (aimed_node _ _ _ _ _ s t aimed) in
    tried_each _ _ _ _ _ s None w c.requires.pass.stands
    (splice_hit _ _ _ _ _ s t aimed w c.splice_entry-found.result c.if-found-previous.true spliced)

pub loop-previous-smaller : goal.loop-previous-smaller
loop-previous-smaller c =
    let s = c.loop-previous.invariant.splicing in
    let f : Flight = splicing (view c.args.pass.now)
    (view c.loop-previous.pass) c.args.above c.args.place c.loop-previous.previous s in
    let aimed = c.aim_entry.ensures.view f (ap (λ (z : View). z.flight) s.changed.known) in
    splice_falls _ _ _ _ _ s
    (view c.aim_entry.new.pass) aimed c.splice_entry-found.result c.splice_entry-found.ensures.rises
    c.if-found-previous.false c.loop-previous-test.true

pub loop-previous-preserved : goal.loop-previous-preserved
loop-previous-preserved c =
    let s = c.loop-previous.invariant.splicing in
    let x : ℕ = c.loop-previous.previous in
    let f : Flight = splicing (view c.args.pass.now) (view c.loop-previous.pass) c.args.above c.args.place x s in
    let t = view c.aim_entry.new.pass in
    let last = c.splice_entry-found in
    let aimed = c.aim_entry.ensures.view f (ap (λ (z : View). z.flight) s.changed.known) in
    let spliced = last.ensures.view (aimed_at f x) s.bucket (ap (λ (z : View). z.flight) aimed)
    (aimed_node _ _ _ _ _ s t aimed) in
    record {
      of = last.ensures.pass;
      splicing = splice_miss _ _ _ _ _ s t aimed
          (view last.new.pass) last.result c.if-found-previous.false last.ensures.less spliced;
    }

pub returns-clause-tried : goal.returns-clause-tried
returns-clause-tried c =
    let s = c.loop-previous.invariant.splicing in
    let u = view c.loop-previous.pass in
    tried_each _ _ _ _ _ s (Some c.loop-previous.previous) u c.requires.pass.stands
    (splice_over _ _ _ _ _ s c.loop-previous.invariant.of.stands c.loop-previous-test.false)

pub returns-clause-lower : goal.returns-clause-lower
returns-clause-lower c next is =
    let s = c.loop-previous.invariant.splicing in
    let less = s.less in
    let same : c.loop-previous.previous ≡ next = cc in
    subst (λ (z : ℕ). z < c.args.above) same less
