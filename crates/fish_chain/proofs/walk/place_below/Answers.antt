-- The walk goes on below, or nothing is left.
use Rattle.std.proofs.Common.{sym, ap, subst, arith}
use Rattle.fish_chain.proofs.Descents.{first_known, goes_down, stops_below}
use Rattle.fish_chain.specs.within.Walks.{LeadsTo}
use Rattle.fish_rule.proofs.laws.Descents.{extends_previous}
use Rattle.fish_rule.specs.Logs.{Extends}
use Rattle.fish_rule.specs.Passes.{view}
use Rattle.fish_rule.specs.declared.view.View.{View}
use Rattle.fish_chain.proofs.walk.place_below.Goals as goal

pub returns-then-from-walk-clause-below : goal.returns-then-from-walk-clause-below
returns-then-from-walk-clause-below g c =
    stops_below (view c.args.pass.now) c.args.walk.now c.args.number c.requires.label
    (let e = c.from.ensures in omega (arith, c.if-from-walk.true)) c.requires.some c.requires.pass.stands

pub returns-clause-extends : goal.returns-clause-extends
returns-clause-extends g c =
    let walk = c.args.walk.now in
    subst (Extends (view c.args.pass.now)) (sym (c.load_previous.ensures.view walk.bucket c.requires.node))
    (extends_previous (view c.args.pass.now) walk.bucket walk.place c.load_previous.result)

pub returns-clause-below : goal.returns-clause-below
returns-clause-below g c =
    let walk = c.args.walk.now in
    subst (λ (z : View). LeadsTo z walk c.load_previous.result)
    (sym (c.load_previous.ensures.view walk.bucket c.requires.node))
    (goes_down (view c.args.pass.now) walk c.load_previous.result c.requires.settled c.load_previous.ensures.less
    (first_known c.args.log.now.key (view c.args.pass.now) walk.bucket c.load_previous.result c.requires.pass.about
    (c.load_previous.ensures.first walk.bucket c.requires.node)))

pub returns-clause-counted : goal.returns-clause-counted
returns-clause-counted g c =
    let walk = c.args.walk.now in
    let seen = ap (λ (z : View). z.clock.loads) (c.load_previous.ensures.view walk.bucket c.requires.node) in
    let tick = c.tick.ensures in
    omega arith

pub returns-clause-few : goal.returns-clause-few
returns-clause-few g c =
    let walk = c.args.walk.now in
    let seen = ap (λ (z : View). z.clock.loads) (c.load_previous.ensures.view walk.bucket c.requires.node) in
    omega arith

pub returns-clause-stops : goal.returns-clause-stops
returns-clause-stops g c less = (let e = c.from.ensures in let within = c.if-from-walk.false in absurd (omega arith))
