-- The log without a record may be filled, and then committed.
use Rattle.bench.proofs.Filling.{filled, fresh_starts}
use Rattle.bench.proofs.checkpoints.fill.Goals as goal

pub ingest_all-requires : goal.ingest_all-requires
ingest_all-requires g c = record {
  of = c.requires.fresh.of;
  start = fresh_starts _ c.args.catalog.now c.args.log.now c.args.pass c.requires.fresh;
  read = λ read. absurd cc;
}

pub time-requires : goal.time-requires
time-requires g c =
    filled (g.D.Disk.images c.create.new.disk) _ c.args.catalog.now c.args.log.now c.args.pass c.ingest_all.new.pass
    c.in-Ok.flusher c.requires.fresh c.in-Ok.ensures.made c.in-Ok.ensures.live c.ingest_all.ensures.ready.of
    c.ingest_all.ensures.on
