-- The lanes of a block, before its first round and at its end.
use Rattle.std.proofs.Common.{◌≡◌, ◌≢◌, ◌∙◌, List, ap, arith, length, subst, sym}
use Rattle.fish_feed.specs.Queues.{AreIdle}
use Rattle.fish_lanes.specs.Blocks.{AreLanes}
use Rattle.fish_outside.specs.Causes.{Rose}
use Rattle.fish_run.proofs.Giving.{nones, nones_at, nones_length}
use Rattle.fish_run.proofs.Going.{err_known}
use Rattle.fish_run.proofs.Lists.{written_back}
use Rattle.fish_run.proofs.Rounding.{stops_none}
use Rattle.fish_run.proofs.Works.{may_all, still_self, ungiven}
use Rattle.fish_run.specs.Joins.{nothing_said}
use Rattle.fish_run.specs.within.Faults.{CausesStop}
use Rattle.fish_run.specs.within.Parts.{EndsParts}
use Rattle.fish_run.specs.declared.fault.RunFault.TheVariants as fault
use Rattle.fish_run.specs.declared.lasting.Stopped.{Stopped}
use Rattle.fish_run.specs.declared.saying.Said.{Said}
use Rattle.fish_run.proofs.parts.run_parts.Goals as goal

pub run_given-requires-clause-begun : goal.run_given-requires-clause-begun
run_given-requires-clause-begun g c κs within =
    let lanes = c.as_mut_slice.ensures.value in
    record {
      lanes_are = subst AreLanes (sym lanes) c.in-Ok.ensures.lanes;
      idle = subst AreIdle (sym lanes) c.in-Ok.ensures.idle;
      many = ap length lanes ∙ c.in-Ok.ensures.many;
      nothing = c.as_mut_slice-in-Ok-say_nothing.ensures.value ∙ c.in-Ok-say_nothing.ensures
          ∙ ap nothing_said (c.as_slice.ensures.value ∙ sym lanes);
    }

pub returns-in_err-turned-in-Ok-say_nothing-clause-causes : goal.returns-in_err-turned-in-Ok-say_nothing-clause-causes
returns-in_err-turned-in-Ok-say_nothing-clause-causes g c =
    let host = g.H.Host.faults in
    let disk = g.D.Disk.faults in
    let e : Stopped = c.in_err-turned-in-Ok-say_nothing.field-0.0 in
    let is = c.from_residual.ensures.1 in
    let causes = subst (CausesStop (host c.args.host.now) (host c.run_given.new.host) (disk c.args.disk.now) (disk c.run_given.new.disk))
    c.in_err-turned-in-Ok-say_nothing.was c.run_given.ensures.causes in
    record {
      later = causes.later;
      rises = causes.rises;
      inner = err_known c.from_residual.result (λ s. s.why ≢ fault.Output) e is causes.inner;
      input = err_known c.from_residual.result (λ s. s.why ≡ fault.Input → Rose (host c.args.host.now) (host c.run_given.new.host)) e is
          causes.input;
      of_disk = err_known c.from_residual.result (λ s. s.why ≡ fault.Disk → Rose (disk c.args.disk.now) (disk c.run_given.new.disk)) e is
          causes.of_disk;
    }

pub returns-in-Ok-say_nothing-clause-ended : goal.returns-in-Ok-say_nothing-clause-ended
returns-in-Ok-say_nothing-clause-ended g c =
    let disk = g.D.Disk in
    let a = c.args in
    let said = c.in-Ok-say_nothing.nothing in
    let slice = c.as_mut_slice-in-Ok-say_nothing in
    let turned = c.in_ok-turned-in-Ok-say_nothing.turned in
    let value = ap length slice.ensures.value in
    let len = slice.ensures.len in
    let kept = c.run_given.auto.said in
    subst (λ (z : List Said). EndsParts disk a.disk.now a.store a.from g.H.Feed.Source.left
    (g.H.Host.files a.host.now) a.queues.now c.run_given.new.disk (g.H.Host.files c.run_given.new.host) turned.next.store turned.end z)
    (sym (written_back said.len c.run_given.new.said said.items (omega (value, len, kept, arith)) (omega (value, kept, arith))))
    c.in_ok-turned-in-Ok-say_nothing.ensures.ended

pub returns-in-Ok-clause-stopped : goal.returns-in-Ok-clause-stopped
returns-in-Ok-clause-stopped g c =
    let disk = g.D.Disk in
    let a = c.args in
    let queues = a.queues.now in
    let told = g.H.Host.files a.host.now in
    record {
      given = nones queues;
      stops = stops_none disk a.disk.now a.store a.from c.out_of_memory.result
          c.out_of_memory.ensures.store c.out_of_memory.ensures.why c.requires.go (nones queues);
      may = λ texts h. may_all g.H.Feed.Source.left told texts (nones queues) queues
          (ungiven g.H.Feed.Source.left told texts (nones queues) queues (nones_length queues) (nones_at queues) h);
    }

pub returns-in-Ok-clause-content : goal.returns-in-Ok-clause-content
returns-in-Ok-clause-content g c = still_self (g.H.Host.files c.args.host.now)

pub returns-clause-stopped : goal.returns-clause-stopped
returns-clause-stopped g c =
    let disk = g.D.Disk in
    let a = c.args in
    let queues = a.queues.now in
    let told = g.H.Host.files a.host.now in
    record {
      given = nones queues;
      stops = stops_none disk a.disk.now a.store a.from c.out_of_memory-in-Err.result
          c.out_of_memory-in-Err.ensures.store c.out_of_memory-in-Err.ensures.why c.requires.go (nones queues);
      may = λ texts h. may_all g.H.Feed.Source.left told texts (nones queues) queues
          (ungiven g.H.Feed.Source.left told texts (nones queues) queues (nones_length queues) (nones_at queues) h);
    }

pub returns-clause-content : goal.returns-clause-content
returns-clause-content g c = still_self (g.H.Host.files c.args.host.now)
