-- Each turn aims at the head that was seen, and swings it or sees a higher one.
use Rattle.std.proofs.Common.{ℕ, ap, Some}
use Rattle.fish_chain.proofs.Changes.{for_each}
use Rattle.fish_chain.proofs.Swinging.{swing_aim, swing_begins, swing_can, swing_falls, swing_hit, swing_miss}
use Rattle.fish_chain.proofs.Swinging.{swing_over, swinging}
use Rattle.fish_chain.specs.Links.{IsLinked}
use Rattle.fish_chain.specs.within.Links.{Tried}
use Rattle.fish_rule.specs.ChainSteps.{aimed_at}
use Rattle.fish_rule.specs.Passes.{view}
use Rattle.fish_rule.specs.declared.view.Flight.{Flight}
use Rattle.fish_rule.specs.declared.view.View.{View}
use Rattle.fish_chain.proofs.chain.swing_up.Goals as goal

pub loop-head-init : goal.loop-head-init
loop-head-init c =
    let f : Flight = c.requires.view.0 in
    record {
      of = c.load_head-head.ensures.pass;
      swinging = swing_begins (view c.args.pass.now)
          (view c.load_head-head.new.pass) c.args.bucket c.args.place c.load_head-head.result f
          c.requires.view.1 c.requires.view.2 c.load_head-head.ensures.view;
    }

pub aim_entry-requires-clause-view : goal.aim_entry-requires-clause-view
aim_entry-requires-clause-view c =
    let s = c.loop-head.invariant.swinging in (
      swinging (view c.args.pass.now) (view c.loop-head.pass) c.args.bucket c.args.place c.loop-head.head s,
      swing_aim _ _ _ _ _ s,
      s.at,
    )

pub swing_head-found-requires-clause-view : goal.swing_head-found-requires-clause-view
swing_head-found-requires-clause-view c =
    let s = c.loop-head.invariant.swinging in
    let h : ℕ = c.loop-head.head in
    let f : Flight = swinging (view c.args.pass.now) (view c.loop-head.pass) c.args.bucket c.args.place h s in
    let aimed = c.aim_entry.ensures.view f (ap (λ (z : View). z.flight) s.changed.known) in (
      aimed_at f h,
      swing_can _ _ _ _ _ s
          (view c.aim_entry.new.pass) aimed c.loop-head.invariant.of.stands c.loop-head-test.true,
      s.at,
    )

pub returns-then-found-head-clause-tried : goal.returns-then-found-head-clause-tried
returns-then-found-head-clause-tried c =
    let s = c.loop-head.invariant.swinging in
    let v = view c.args.pass.now in
    let h : ℕ = c.loop-head.head in
    let f : Flight = swinging v (view c.loop-head.pass) c.args.bucket c.args.place h s in
    let aimed = c.aim_entry.ensures.view f (ap (λ (z : View). z.flight) s.changed.known) in
    let swung = c.swing_head-found.ensures.view (aimed_at f h) (ap (λ (z : View). z.flight) aimed) in
    for_each v s.flight (λ (z : Flight). IsLinked v z c.args.bucket
    (view c.swing_head-found.new.pass)) s.can.filled.flying
    (swing_hit _ _ _ _ _ s (view c.aim_entry.new.pass) aimed
    (view c.swing_head-found.new.pass) c.swing_head-found.result c.if-found-head.true swung)

pub loop-head-smaller : goal.loop-head-smaller
loop-head-smaller c =
    let s = c.loop-head.invariant.swinging in
    let f : Flight = swinging (view c.args.pass.now)
    (view c.loop-head.pass) c.args.bucket c.args.place c.loop-head.head s in
    let aimed = c.aim_entry.ensures.view f (ap (λ (z : View). z.flight) s.changed.known) in
    swing_falls _ _ _ _ _ s
    (view c.aim_entry.new.pass) aimed c.swing_head-found.result c.swing_head-found.ensures.rises
    c.if-found-head.false c.loop-head-test.true

pub loop-head-preserved : goal.loop-head-preserved
loop-head-preserved c =
    let s = c.loop-head.invariant.swinging in
    let h : ℕ = c.loop-head.head in
    let f : Flight = swinging (view c.args.pass.now) (view c.loop-head.pass) c.args.bucket c.args.place h s in
    let aimed = c.aim_entry.ensures.view f (ap (λ (z : View). z.flight) s.changed.known) in
    let swung = c.swing_head-found.ensures.view (aimed_at f h) (ap (λ (z : View). z.flight) aimed) in
    record {
      of = c.swing_head-found.ensures.pass;
      swinging = swing_miss _ _ _ _ _ s (view c.aim_entry.new.pass) aimed
          (view c.swing_head-found.new.pass) c.swing_head-found.result c.if-found-head.false swung;
    }

pub returns-clause-tried : goal.returns-clause-tried
returns-clause-tried c =
    let s = c.loop-head.invariant.swinging in
    let v = view c.args.pass.now in
    let u = view c.loop-head.pass in
    for_each v s.flight (λ (z : Flight). Tried v z c.args.bucket (Some c.loop-head.head) u) s.can.filled.flying
    (swing_over _ _ _ _ _ s c.loop-head.invariant.of.stands c.loop-head-test.false)
