-- One name more: it leads on, or it ends the path.
use Rattle.std.proofs.Common.{sym, subst, arith}
use Rattle.fish_json.specs.Reading.{at_path}
use Rattle.fish_json.specs.within.Tape.{FindsData}
use Rattle.fish_json.proofs.Found.{walk_none, walk_some, walk_over}
use Rattle.fish_json.proofs.row.walk.Goals as goal

pub returns-in_err-found : goal.returns-in_err-found
returns-in_err-found c = λ d h.
    let on = c.loop-name.invariant d h in
    let here = c.in_err-found.ensures on.0 on.1 in
    let none = walk_none c.args.steps.now c.loop-name.name-index c.name-item.result d on.0 (omega arith)
    c.name-item.is on.2 here in
    subst (λ r. FindsData r (at_path c.args.steps.now d)) (sym c.from_residual.ensures) none

pub loop-name-preserved : goal.loop-name-preserved
loop-name-preserved c = λ d h.
    let on = c.loop-name.invariant d h in
    let x = c.in_ok-found.ensures on.0 on.1 in
    let more = walk_some c.args.steps.now c.loop-name.name-index c.name-item.result d on.0 x.0 (omega arith)
    c.name-item.is on.2 x.1 in
    (x.0, x.2, more)

pub returns : goal.returns
returns c = λ d h.
    let on = c.loop-name.invariant d h in
    (on.0, walk_over c.args.steps.now c.loop-name.name-index d on.0 (omega arith) on.2, on.1)
