-- The registry stays, or what waits begins.
use Rattle.std.proofs.Common.{inl, inr, refl, ap, sym, ◌∙◌}
use Rattle.fish_lanes.proofs.Looking.{looks}
use Rattle.fish_lanes.proofs.Parts.{on_ok}
use Rattle.fish_lanes.proofs.Registrations.{does_bound, registry_same}
use Rattle.fish_lanes.specs.Registering.{waiting_id}
use Rattle.fish_registry.proofs.Changing.{learns_changes}
use Rattle.fish_rule.specs.Passes.{view}
use Rattle.fish_lanes.proofs.registering.find_boundary.Goals as goal

pub returns-in-Idle-clause-looks : goal.returns-in-Idle-clause-looks
returns-in-Idle-clause-looks c =
    looks c.args.log.now c.args.pass.now c.poll.new.pass c.args.registrar.now c.poll.new.self c.requires.can c.poll.ensures.pass
    c.poll.ensures.knows c.poll.ensures.changes c.poll.result c.poll.ensures.tells

pub returns-in-NotYet-clause-looks : goal.returns-in-NotYet-clause-looks
returns-in-NotYet-clause-looks c =
    looks c.args.log.now c.args.pass.now c.poll.new.pass c.args.registrar.now c.poll.new.self c.requires.can c.poll.ensures.pass
    c.poll.ensures.knows c.poll.ensures.changes c.poll.result c.poll.ensures.tells

pub returns-in-Bound-clause-looks : goal.returns-in-Bound-clause-looks
returns-in-Bound-clause-looks c =
    looks c.args.log.now c.args.pass.now c.poll.new.pass c.args.registrar.now c.poll.new.self c.requires.can c.poll.ensures.pass
    c.poll.ensures.knows c.poll.ensures.changes c.poll.result c.poll.ensures.tells

pub returns-in-NotYet-clause-polled : goal.returns-in-NotYet-clause-polled
returns-in-NotYet-clause-polled c =
    let v = view c.args.pass.now in
    let u = view c.poll.new.pass in
    let r = c.args.registrar.now in
    let s = c.poll.new.self in
    let tells = c.in-NotYet.ensures.tells in
    inl (
      refl,
      registry_same v u r s c.requires.can.of.stands c.poll.ensures.pass.stands (learns_changes v u c.poll.ensures.changes)
          c.requires.can.knows c.poll.ensures.knows r.catalog tells.3 refl (ap waiting_id tells.2 ∙ sym (ap waiting_id tells.1)),
    )

pub returns-in-Bound-clause-polled : goal.returns-in-Bound-clause-polled
returns-in-Bound-clause-polled c =
    let v = view c.args.pass.now in
    let u = view c.poll.new.pass in
    let r = c.args.registrar.now in
    let s = c.poll.new.self in
    let tells = c.in-Bound.ensures.tells in
    let does = does_bound v u r s c.requires.can.of.stands c.poll.ensures.pass.stands (learns_changes v u c.poll.ensures.changes)
    c.requires.can.knows c.poll.ensures.knows c.in-Bound.id c.in-Bound.from tells.0 tells.1 tells.2 c.poll.ensures.changes.count
    tells.4 in
    on_ok c.push.result _ _ (λ pushed. inr (c.in-Bound.id, c.in-Bound.from, pushed, does)) c.push.ensures.ok
