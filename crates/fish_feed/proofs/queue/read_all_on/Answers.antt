-- A queue may go to a thread, and each is read on by itself.
use Rattle.std.proofs.Common.{subst, sym}
use Rattle.std.specs.Prelude.{IfSome}
use denote.Param.Send.{sendable}
use Rattle.fish_feed.proofs.Ahead.{fit_at, self_on}
use Rattle.fish_feed.proofs.Crossing.{queue_send}
use Rattle.fish_feed.specs.OpenFiles.{CanRead}
use Rattle.fish_feed.proofs.queue.read_all_on.Goals as goal

pub for_each_mut-requires-send-T : goal.for_each_mut-requires-send-T
for_each_mut-requires-send-T g c κs within =
    let feed = c.type_bounds.send-F in
    let c : Unit {0} = tt in
    search (sendable, queue_send) depth 20

pub for_each_mut-requires-clause-accepts : goal.for_each_mut-requires-clause-accepts
for_each_mut-requires-clause-accepts g c κs within i p less is _ _ _ _ _ _ _ _ _ _ =
    subst (λ (q : _). IfSome q.current (CanRead g.F.Source.faults)) (sym is)
    (fit_at g.F.Source.faults c.requires.fit.0 c.args.queues.now c.requires.fit.1 i p.now less)

pub returns-then-threads-lt2 : goal.returns-then-threads-lt2
returns-then-threads-lt2 g c = record {
  on = self_on g.F.Source.left g.F.Source.faults c.requires.fit.0 c.args.queues.now c.requires.fit.1;
}
