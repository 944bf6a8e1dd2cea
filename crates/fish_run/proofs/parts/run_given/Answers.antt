-- Lanes are given statements, and do them, until nothing is left to be given.
use Rattle.std.proofs.Common.{◌≡◌, ◌≢◌, true, length, List, Err, refl, sym, ap, ◌∙◌, subst, arith}
use Rattle.std.proofs.lemmas.Result.{on_err_weaker, on_ok_weaker}
use Rattle.fish_feed.specs.Queues.{both, works_of}
use Rattle.fish_lanes.specs.declared.lane.Lane.{Lane}
use Rattle.fish_lanes.specs.declared.work.Work.{Work}
use Rattle.fish_outside.proofs.CauseLemmas.{Rose_earlier}
use Rattle.fish_outside.specs.Causes.{Rose}
use Rattle.fish_run.proofs.Faults.{feed_failed, feed_no_disk, feed_no_output, feed_well}
use Rattle.fish_run.proofs.Going.{err_known}
use Rattle.fish_run.proofs.Giving.{nones, nones_at, nones_length}
use Rattle.fish_run.proofs.Rounding.{goes_first, nothing_length, ready_given, stops_unread}
use Rattle.fish_run.proofs.Works.{lanes_given, may_given, still_both, still_self, ungiven}
use Rattle.fish_run.specs.Faults.{IsRunUndamaged, feed_fault}
use Rattle.fish_run.specs.within.Parts.{StopsParts}
use Rattle.fish_run.specs.declared.fault.RunFault.TheVariants as fault
use Rattle.fish_run.specs.declared.lasting.Stopped.{Stopped}
use Rattle.fish_run.proofs.parts.run_given.Goals as goal

pub loop-turned-init : goal.loop-turned-init
loop-turned-init g c =
    let disk = g.D.Disk in
    let a = c.args in
    let lanes = a.lanes.now in
    record {
      go = c.requires.go;
      lanes = c.requires.begun.lanes_are;
      idle = c.requires.begun.idle;
      many = c.requires.begun.many;
      said = sym (ap length c.requires.begun.nothing ∙ nothing_length lanes);
      fit = c.requires.fit;
      given = nones lanes;
      goes = goes_first disk a.disk.now a.store a.from lanes c.requires.begun.lanes_are
          c.requires.begun.idle _ refl refl refl refl a.said.now c.requires.begun.nothing;
      queues = λ texts h. ungiven g.H.Feed.Source.left (g.H.Host.files a.host.now) texts (nones lanes) a.queues.now
          (nones_length lanes ∙ c.requires.begun.many) (nones_at lanes) h;
      told = still_self (g.H.Host.files a.host.now);
      later = omega arith;
      disk = omega arith;
    }

-- ---- the rounds for what was given

pub run_turns-requires-clause-lanes : goal.run_turns-requires-clause-lanes
run_turns-requires-clause-lanes g c κs within =
    lanes_given c.loop-turned.lanes c.give-given.new.lanes c.loop-turned.invariant.lanes c.give-given.ensures.gives.got
    (c.give-given.ensures.gives.fit true c.loop-turned.invariant.fit).1

pub returns-in_err-turned-clause-stopped : goal.returns-in_err-turned-clause-stopped
returns-in_err-turned-clause-stopped g c =
    let disk = g.D.Disk in
    let left = g.H.Feed.Source.left in
    let told = g.H.Host.files c.give-given.new.host in
    let a = c.args in
    let l = c.loop-turned in
    let inv = l.invariant in
    let lanes : List Lane = c.give-given.new.lanes in
    let given = both inv.given (works_of lanes) in
    let why : Stopped = c.in_err-turned.field-0.0 in
    let gives = c.give-given.ensures.gives in
    let ready = ready_given disk a.disk.now a.store a.from l.disk l.start l.lanes l.said
    inv.given inv.goes lanes c.give-given.ensures.gives.got in
    err_known c.from_residual.result
    (StopsParts disk a.disk.now a.store a.from left (g.H.Host.files a.host.now) a.queues.now
    c.run_turns.new.disk told c.give-given.new.queues) why c.from_residual.ensures.1
    (record {
      given = given;
      stops = c.in_err-turned.ensures.stopped a.disk.now a.store a.from (works_of lanes) given ready;
      may = λ texts h. may_given left told texts given c.give-given.new.queues c.give-given.result
          (on_ok_weaker c.give-given.result (λ f. f texts inv.given (inv.queues texts h)) gives.given)
          (on_err_weaker c.give-given.result (λ f. f texts inv.given (inv.queues texts h)) gives.failed);
    })

pub returns-in_err-turned-clause-content : goal.returns-in_err-turned-clause-content
returns-in_err-turned-clause-content g c =
    still_both (g.H.Host.files c.args.host.now) (g.H.Host.files c.loop-turned.host) (g.H.Host.files c.give-given.new.host)
    c.loop-turned.invariant.told c.give-given.ensures.content

pub returns-in_err-turned-clause-causes : goal.returns-in_err-turned-clause-causes
returns-in_err-turned-clause-causes g c =
    let disk = g.D.Disk in
    let host = g.H.Host.faults in
    let inv = c.loop-turned.invariant in
    let e : Stopped = c.in_err-turned.field-0.0 in
    let stops = c.in_err-turned.ensures in
    record {
      later = (let was = inv.later in let now = c.give-given.ensures.cause.later in omega (was, now, arith));
      rises = (let was = inv.disk in let now = c.run_turns.ensures.rises in omega (was, now, arith));
      inner = err_known c.from_residual.result (λ s. s.why ≢ fault.Output) e c.from_residual.ensures.1 stops.inner.1;
      input = err_known c.from_residual.result
          (λ s. s.why ≡ fault.Input → Rose (host c.args.host.now) (host c.give-given.new.host)) e c.from_residual.ensures.1
          (λ is. absurd (stops.inner.0 is));
      of_disk = err_known c.from_residual.result
          (λ s. s.why ≡ fault.Disk → Rose (disk.faults c.args.disk.now) (disk.faults c.run_turns.new.disk)) e c.from_residual.ensures.1
          (λ is. Rose_earlier (disk.faults c.args.disk.now) (disk.faults c.loop-turned.disk) (disk.faults c.run_turns.new.disk) inv.disk
          (stops.disk is));
    }

-- ---- a file couldn't be read

pub returns-in-Err-clause-stopped : goal.returns-in-Err-clause-stopped
returns-in-Err-clause-stopped g c =
    let disk = g.D.Disk in
    let left = g.H.Feed.Source.left in
    let told = g.H.Host.files c.give-given.new.host in
    let a = c.args in
    let l = c.loop-turned in
    let inv = l.invariant in
    let on = c.in_ok-turned.ensures.on in
    let lanes : List Lane = c.give-given.new.lanes in
    let given = both inv.given (works_of lanes) in
    let gives = c.give-given.ensures.gives in
    let ready = ready_given disk a.disk.now a.store a.from l.disk l.start l.lanes l.said inv.given inv.goes lanes gives.got in
    let refusal = c.in-Err.refusal in
    let why : c.from.result ≡ feed_fault refusal = c.from.ensures in
    record {
      given = given;
      stops = stops_unread disk a.disk.now a.store a.from c.run_turns.new.disk c.in_ok-turned.turned.next c.run_turns.new.lanes
          c.run_turns.new.said given (on.goes a.disk.now a.store a.from (works_of lanes) given ready) c.from.result
          (subst IsRunUndamaged (sym why) (feed_well refusal)) on.go;
      may = λ texts h. may_given left told texts given c.give-given.new.queues c.give-given.result
          (on_ok_weaker c.give-given.result (λ f. f texts inv.given (inv.queues texts h)) gives.given)
          (on_err_weaker c.give-given.result (λ f. f texts inv.given (inv.queues texts h)) gives.failed);
    }

pub returns-in-Err-clause-content : goal.returns-in-Err-clause-content
returns-in-Err-clause-content g c =
    still_both (g.H.Host.files c.args.host.now) (g.H.Host.files c.loop-turned.host) (g.H.Host.files c.give-given.new.host)
    c.loop-turned.invariant.told c.give-given.ensures.content

pub returns-in-Err-clause-causes : goal.returns-in-Err-clause-causes
returns-in-Err-clause-causes g c =
    let faults = g.H.Host.faults in
    let inv = c.loop-turned.invariant in
    record {
      later = (let was = inv.later in let now = c.give-given.ensures.cause.later in omega (was, now, arith));
      rises = (let was = inv.disk in let now = c.run_turns.ensures.rises in omega (was, now, arith));
      inner = λ is. feed_no_output c.in-Err.refusal (sym c.from.ensures ∙ is);
      input = λ is.
          let failed = feed_failed c.in-Err.refusal (sym c.from.ensures ∙ is) in
          Rose_earlier (faults c.args.host.now) (faults c.loop-turned.host) (faults c.give-given.new.host) inv.later
          (c.in-Err.ensures.cause.failed (λ i. Err (failed i)));
      of_disk = λ is. absurd (feed_no_disk c.in-Err.refusal (sym c.from.ensures ∙ is));
    }

-- ---- nothing is left to be given

pub returns-then-not-has_more-clause-ended : goal.returns-then-not-has_more-clause-ended
returns-then-not-has_more-clause-ended g c =
    let disk = g.D.Disk in
    let told = g.H.Host.files c.give-given.new.host in
    let a = c.args in
    let l = c.loop-turned in
    let inv = l.invariant in
    let lanes : List Lane = c.give-given.new.lanes in
    let given = both inv.given (works_of lanes) in
    let ready = ready_given disk a.disk.now a.store a.from l.disk l.start l.lanes l.said
    inv.given inv.goes lanes c.in-Ok.ensures.gives.got in
    record {
      given = given;
      rounds = c.in_ok-turned.ensures.on.ends a.disk.now a.store a.from (works_of lanes) given ready;
      done = λ texts h. c.has_more.ensures.none c.if-not-has_more.true texts given told
          (c.in-Ok.ensures.gives.given texts inv.given (inv.queues texts h));
    }

pub returns-then-not-has_more-clause-content : goal.returns-then-not-has_more-clause-content
returns-then-not-has_more-clause-content g c =
    still_both (g.H.Host.files c.args.host.now) (g.H.Host.files c.loop-turned.host) (g.H.Host.files c.give-given.new.host)
    c.loop-turned.invariant.told c.in-Ok.ensures.content

pub returns-then-not-has_more-clause-causes : goal.returns-then-not-has_more-clause-causes
returns-then-not-has_more-clause-causes g c =
    let inv = c.loop-turned.invariant in
    record {
      later = (let was = inv.later in let now = c.give-given.ensures.cause.later in omega (was, now, arith));
      rises = (let was = inv.disk in let now = c.run_turns.ensures.rises in omega (was, now, arith));
      inner = tt;
      input = tt;
      of_disk = tt;
    }

-- ---- more is left

pub loop-turned-preserved : goal.loop-turned-preserved
loop-turned-preserved g c =
    let disk = g.D.Disk in
    let a = c.args in
    let l = c.loop-turned in
    let inv = l.invariant in
    let on = c.in_ok-turned.ensures.on in
    let lanes : List Lane = c.give-given.new.lanes in
    let given : List (List Work) = both inv.given (works_of lanes) in
    let ready = ready_given disk a.disk.now a.store a.from l.disk l.start l.lanes l.said
    inv.given inv.goes lanes c.in-Ok.ensures.gives.got in
    record {
      go = on.go;
      lanes = on.lanes_are;
      idle = on.idle;
      many = (let ran = on.same in let got = c.give-given.auto.lanes in let rest = c.give-given.auto.queues in let was = inv.many in
          omega (ran, got, rest, was, arith));
      said = on.many;
      fit = (c.in-Ok.ensures.gives.fit true inv.fit).0;
      given = given;
      goes = on.goes a.disk.now a.store a.from (works_of lanes) given ready;
      queues = λ texts h. c.in-Ok.ensures.gives.given texts inv.given (inv.queues texts h);
      told = still_both (g.H.Host.files a.host.now) (g.H.Host.files l.host) (g.H.Host.files c.give-given.new.host) inv.told
          c.in-Ok.ensures.content;
      later = (let was = inv.later in let now = c.in-Ok.ensures.cause.later in omega (was, now, arith));
      disk = (let was = inv.disk in let now = c.run_turns.ensures.rises in omega (was, now, arith));
    }
