-- No lane is out, so what waits begins.
use Rattle.fish_lanes.proofs.Growing.{rows_polled}
use Rattle.fish_lanes.proofs.Registrations.{does_bound}
use Rattle.fish_registry.proofs.Changing.{learns_changes}
use Rattle.fish_registry.specs.declared.outcome.Poll.TheVariants as poll
use Rattle.fish_rule.specs.Passes.{view}
use Rattle.fish_lanes.proofs.registering.find_last.Goals as goal

pub returns-in-Bound-clause-found : goal.returns-in-Bound-clause-found
returns-in-Bound-clause-found c =
    let v = view c.args.pass.now in
    let u = view c.poll.new.pass in
    let tells = c.in-Bound.ensures.tells in
    does_bound v u c.args.registrar.now c.poll.new.self c.requires.can.of.stands c.poll.ensures.pass.stands
    (learns_changes v u c.poll.ensures.changes) c.requires.can.knows c.poll.ensures.knows c.in-Bound.id c.in-Bound.from tells.0
    tells.1 tells.2 c.poll.ensures.changes.count tells.4

pub returns-in-Bound-clause-grows : goal.returns-in-Bound-clause-grows
returns-in-Bound-clause-grows c =
    rows_polled (view c.args.pass.now) (view c.poll.new.pass) c.args.registrar.now c.poll.new.self
    (poll.Bound c.in-Bound.id c.in-Bound.from) c.poll.ensures.changes c.in-Bound.ensures.tells
