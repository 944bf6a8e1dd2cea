-- Round after round, until no lane goes on.
use Rattle.std.proofs.Common.{◌≡◌, true, false, refl, arith, rules}
use Rattle.fish_run.proofs.Going.{err_known}
use Rattle.fish_run.proofs.Giving.{nones}
use Rattle.fish_run.proofs.Rounding.{ready_none}
use Rattle.fish_run.specs.within.Turning.{StopsTurn}
use Rattle.fish_run.specs.declared.lasting.Stopped.{Stopped}
use Rattle.fish_run.proofs.rounds.run_turns.Goals as goal

pub loop-turned-init : goal.loop-turned-init
loop-turned-init g c = record {
  go = c.requires.go;
  lanes = c.requires.lanes;
  many = c.requires.many;
  same = refl;
  goes = λ d s from now given ready. (now, ready);
  disk = omega arith;
}

pub loop-turned-smaller : goal.loop-turned-smaller
loop-turned-smaller g c =
    let more : c.in_ok-turned.turned.more ≡ true = search (rules, c.if-not-more.false) in
    c.in_ok-turned.ensures.on.less more

pub loop-turned-preserved : goal.loop-turned-preserved
loop-turned-preserved g c =
    let disk = g.D.Disk in
    let on = c.in_ok-turned.ensures.on in
    let inv = c.loop-turned.invariant in
    let before = inv.disk in
    let now_rises = c.run_turn.ensures.rises in
    let same = on.same in
    let was = inv.same in
    record {
      go = on.go;
      lanes = on.lanes_are;
      many = on.many;
      same = omega arith;
      goes = λ d s from now given ready.
          let r = inv.goes d s from now given ready in (
            nones c.run_turn.new.lanes,
            ready_none disk d s from c.run_turn.new.disk c.in_ok-turned.turned.next
                c.run_turn.new.lanes c.run_turn.new.said given (on.goes d s from r.0 given r.1),
          );
      disk = omega arith;
    }

pub returns-then-not-more-clause-on : goal.returns-then-not-more-clause-on
returns-then-not-more-clause-on g c =
    let on = c.in_ok-turned.ensures.on in
    let inv = c.loop-turned.invariant in
    let last : c.in_ok-turned.turned.more ≡ false = search (rules, c.if-not-more.true) in
    let same = on.same in
    let was = inv.same in
    record {
      go = on.go;
      lanes_are = on.lanes_are;
      many = on.many;
      same = omega arith;
      idle = on.idle last;
      goes = λ d s from now given ready. let r = inv.goes d s from now given ready in on.goes d s from r.0 given r.1;
      ends = λ d s from now given ready. let r = inv.goes d s from now given ready in on.ends last d s from r.0 given r.1;
    }

pub returns-in_err-turned-clause-stopped : goal.returns-in_err-turned-clause-stopped
returns-in_err-turned-clause-stopped g c =
    let disk = g.D.Disk in
    let a = c.args in
    let why : Stopped = c.in_err-turned.field-0.0 in
    err_known c.from_residual.result
    (StopsTurn disk a.disk.now a.start a.lanes.now a.said.now c.run_turn.new.disk) why
    c.from_residual.ensures.1
    (λ d s from now given ready.
    let r = c.loop-turned.invariant.goes d s from now given ready in c.in_err-turned.ensures.stopped d s from r.0 given r.1)
