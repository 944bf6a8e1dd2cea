-- More came of the file that is being read, and the queue is else the same.
use Rattle.std.proofs.Common.{rules, ◌≡◌, Option, Some, refl, subst, sym}
use Rattle.fish_feed.specs.within.Queues.{FileReadOn}
use Rattle.fish_feed.proofs.queue.read_queue_on.Goals as goal

pub returns-in-Some : goal.returns-in-Some
returns-in-Some g c =
    let u = c.read_on.new.file in
    let is : c.args.queue.now.current ≡ Some c.in-Some.open = search rules in
    record {
      on = record {
        current = subst (λ (z : Option _). FileReadOn g.F.Source.left g.F.Source.faults z (Some u)) (sym is)
            (u, refl, c.read_on.ensures.on, c.read_on.ensures.can);
        todos_is = refl;
      };
    }
