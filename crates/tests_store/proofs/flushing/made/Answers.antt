-- A store that was made carries a log that holds no record.
use Rattle.std.proofs.Common.{ap}
use Rattle.fish_rule.specs.declared.view.View.{View}
use Rattle.tests_store.proofs.Flushed.{flushing_first}
use Rattle.tests_store.proofs.flushing.made.Goals as goal

pub returns-in-Ok-clause-made : goal.returns-in-Ok-clause-made
returns-in-Ok-clause-made g c =
    let opened = c.requires.opened in
    flushing_first (g.D.Disk.images c.create.new.disk) c.args.shape c.args.start c.args.log.now c.args.pass c.new.result c.in-Ok.flusher
    opened c.in-Ok.ensures.made c.in-Ok.ensures.live (record {
      of = opened.of;
      start = record { live = opened.of.live; outside = ap (λ (z : View). z.epoch) opened.first };
      read = λ read. absurd cc;
    })
