-- The first block and the next ones.
use Rattle.std.proofs.Common.{◌∙◌, ◌+◌, arith, refl, sym, take, ap, subst, ◌≡◌, List, ◌∷◌, ◌++◌, [], Err}
use Rattle.std.proofs.lemmas.List.{take_more}
use Rattle.fish_lanes.specs.Ending.{EndsAlone}
use Rattle.fish_lanes.specs.Registering.{Registry, registry_of}
use Rattle.fish_rule.specs.Passes.{view}
use Rattle.fish_run.proofs.Caused.{caused_since, caused_write}
use Rattle.fish_run.proofs.Ends.{runs_all, stops_first, stops_more, writes_first, writes_more}
use Rattle.fish_run.proofs.Faults.{write_well}
use Rattle.fish_run.proofs.Going.{close_of, err_known, new_registry}
use Rattle.fish_feed.proofs.Lists.{get_at}
use Rattle.fish_run.proofs.One.{first_of, rounds_self, stops_with}
use Rattle.fish_run.proofs.Works.{still_both, still_self}
use Rattle.fish_run.specs.Blocks.{Round, first_registry}
use Rattle.fish_run.specs.Faults.{IsRunUndamaged, write_fault}
use Rattle.fish_run.specs.Reports.{first_item}
use Rattle.fish_run.specs.Faults.{counts_of}
use Rattle.fish_run.specs.within.Running.{StopsRun}
use Rattle.fish_run.specs.within.Runs.{CanGoOn}
use Rattle.fish_run.specs.within.Steps.{WritesBlocks}
use Rattle.fish_run.specs.Faults.{FaultCounts, IsCausedBy}
use Rattle.fish_run.specs.declared.fault.RunFault.{RunFault}
use Rattle.fish_run.specs.declared.lasting.Stopped.{Stopped}
use Rattle.fish_script.specs.declared.script.Block.{Block}
use Rattle.fish_store.specs.Points.{point_at}
use Rattle.fish_run.proofs.running.run_blocks.Goals as goal

pub loop-block-init : goal.loop-block-init
loop-block-init g c =
    let disk = g.D.Disk in
    let s = c.args.store in
    let p = point_at c.args.disk.now s in
    let new = c.requires.new.new in
    let told = g.H.Host.files c.args.host.now in
    let begin = first_item c.args.made c.args.count in
    let first = first_registry s.registrar.catalog in
    let old = g.W.Sink.written c.args.out.now in
    let now = g.W.Sink.written c.write_opened.new.out in
    record {
      go = subst (CanGoOn disk.images c.args.disk.now s) (sym c.requires.new.count_is) new.go;
      writes = subst (λ (z : Registry). WritesBlocks disk p p c.args.count first begin told []
          c.args.count z old now c.args.refused.now) (sym (new_registry disk.images c.args.disk.now s new))
          (writes_first disk c.args.count first begin p told old now c.args.refused.now
          (rounds_self disk p c.args.count first) c.in-Ok.ensures.written
          c.requires.new.accepted);
      told = still_self told;
      later = (omega arith, (c.write_opened.ensures.cause.later, omega arith));
    }

pub run_one-requires-clause-block : goal.run_one-requires-clause-block
run_one-requires-clause-block g c κs within =
    c.requires.script c.loop-block.block-index c.block-item.result
    (get_at c.args.script.now c.loop-block.block-index c.block-item.result (omega (c.loop-block-test.true, arith)) c.block-item.is)

pub loop-block-preserved : goal.loop-block-preserved
loop-block-preserved g c =
    let disk = g.D.Disk in
    let inv = c.loop-block.invariant in
    let i = c.loop-block.block-index in
    let script = c.args.script.now in
    let x = c.block-item.result in
    let a = c.loop-block.lasts in
    let b = c.in_ok-lasts.lasts in
    let one = c.in_ok-lasts.ensures.ended in
    let p = point_at c.args.disk.now c.args.store in
    let m = point_at c.loop-block.disk a.store in
    let q = point_at c.run_one.new.disk b.store in
    let first = first_registry c.args.store.registrar.catalog in
    let begin = first_item c.args.made c.args.count in
    let old = g.H.Host.files c.loop-block.host in
    let new = g.H.Host.files c.run_one.new.host in
    let text : List Block = take i script in
    let next : take (i + 1) script ≡ text ++ x ∷ []
    = take_more script i x (omega (c.loop-block-test.true, arith)) ∙ ap (λ (z : Block). text ++ z ∷ []) (sym c.block-item.is) in
    let written = g.W.Sink.written in
    let t = registry_of (view b.store.pass) b.store.registrar in
    let was = inv.later in
    let now = c.run_one.ensures.later in
    let host = was.0 in
    let host' = now.0 in
    let out = was.1.0 in
    let out' = now.1.0 in
    let fell = was.1.1 in
    let fell' = now.1.1 in
    record {
      go = one.go;
      writes = subst (λ (z : List Block). WritesBlocks disk p q c.args.count first begin new z
          b.count t (written c.args.out.now) (written c.run_one.new.out) c.run_one.new.refused) (sym next)
          (writes_more disk c.args.count first begin p m q a.count
          (registry_of (view a.store.pass) a.store.registrar) old new c.run_one.ensures.content (written c.args.out.now)
          (written c.loop-block.out) (written c.run_one.new.out) text x b.count t c.loop-block.refused c.run_one.new.refused one.block
          inv.writes one.is one.ran one.renewed one.written one.refused);
      told = still_both (g.H.Host.files c.args.host.now) old new inv.told c.run_one.ensures.content;
      later = (omega arith, (omega arith, omega arith));
    }

-- ---- the first item couldn't be written

pub returns-in-Err-clause-some : goal.returns-in-Err-clause-some
returns-in-Err-clause-some g c =
    let disk = g.D.Disk in
    let s = c.args.store in
    let new = c.requires.new.new in
    let p = point_at c.args.disk.now s in
    let first = first_registry s.registrar.catalog in
    let from = c.args.count in
    let e = c.stopped.result in
    let refusal = c.in-Err.refusal in
    let why : e.why ≡ write_fault refusal = c.stopped.ensures.why ∙ c.from.ensures in
    stops_first disk from first (first_item c.args.made from) p c.args.disk.now
    (g.H.Host.files c.args.host.now) c.args.script.now (g.W.Sink.written c.args.out.now) (g.W.Sink.written c.write_opened.new.out)
    c.args.refused.now e
    (stops_with disk p c.args.disk.now s from from first [] e c.stopped.ensures.store
    (close_of disk.images c.args.disk.now s s.log.key.number new.go)
    (subst IsRunUndamaged (sym why) (write_well refusal))
    (first_of disk p p from from first first []
    (rounds_self disk p from first)
    (subst (EndsAlone (view s.pass)) (sym c.requires.new.count_is) new.go.between.end))) (refusal, why)
    c.in-Err.ensures.part c.requires.new.accepted

pub returns-in-Err-clause-cause : goal.returns-in-Err-clause-cause
returns-in-Err-clause-cause g c =
    let before : FaultCounts = counts_of g.H.Host.faults g.W.Sink.faults g.D.Disk.faults c.args.host.now c.args.out.now c.args.disk.now in
    let now : FaultCounts = counts_of g.H.Host.faults g.W.Sink.faults g.D.Disk.faults c.args.host.now c.write_opened.new.out
    c.args.disk.now in
    let why : c.stopped.result.why ≡ write_fault c.in-Err.refusal = c.stopped.ensures.why ∙ c.from.ensures in
    subst (λ (z : RunFault). IsCausedBy before now z) (sym why)
    (caused_write before now c.in-Err.refusal (λ is. c.in-Err.ensures.cause.failed (λ i. Err (is i))))

-- ---- a fault came at a block

pub returns-in_err-lasts-clause-some : goal.returns-in_err-lasts-clause-some
returns-in_err-lasts-clause-some g c =
    let disk = g.D.Disk in
    let inv = c.loop-block.invariant in
    let a = c.loop-block.lasts in
    let p = point_at c.args.disk.now c.args.store in
    let m = point_at c.loop-block.disk a.store in
    let first = first_registry c.args.store.registrar.catalog in
    let begin = first_item c.args.made c.args.count in
    let old = g.H.Host.files c.loop-block.host in
    let new = g.H.Host.files c.run_one.new.host in
    let written = g.W.Sink.written in
    let e = c.in_err-lasts.field-0.0 in
    let stop = c.in_err-lasts.ensures.stopped in
    err_known c.from_residual.result
    (StopsRun disk c.args.disk.now c.run_one.new.disk c.args.store c.args.count begin new
    c.args.script.now (written c.args.out.now) (written c.run_one.new.out) c.run_one.new.refused) e c.from_residual.ensures.1
    (stops_more disk c.args.count first begin p m m a.count
    (registry_of (view a.store.pass) a.store.registrar) old new c.run_one.ensures.content (written c.args.out.now)
    (written c.loop-block.out) (written c.run_one.new.out) c.args.script.now c.loop-block.block-index c.block-item.result
    c.loop-block.refused c.run_one.new.refused c.run_one.new.disk stop.rounds stop.cut e (omega (c.loop-block-test.true, arith))
    c.block-item.is inv.writes
    stop.stops stop.renewed stop.how)

pub returns-in_err-lasts-clause-content : goal.returns-in_err-lasts-clause-content
returns-in_err-lasts-clause-content g c =
    still_both (g.H.Host.files c.args.host.now) (g.H.Host.files c.loop-block.host) (g.H.Host.files c.run_one.new.host)
    c.loop-block.invariant.told c.run_one.ensures.content

pub returns-in_err-lasts-clause-cause : goal.returns-in_err-lasts-clause-cause
returns-in_err-lasts-clause-cause g c =
    let before : FaultCounts = counts_of g.H.Host.faults g.W.Sink.faults g.D.Disk.faults c.args.host.now c.args.out.now c.args.disk.now in
    let mid : FaultCounts = counts_of g.H.Host.faults g.W.Sink.faults g.D.Disk.faults c.loop-block.host c.loop-block.out
    c.loop-block.disk in
    let now : FaultCounts = counts_of g.H.Host.faults g.W.Sink.faults g.D.Disk.faults c.run_one.new.host c.run_one.new.out
    c.run_one.new.disk in
    let e = c.in_err-lasts.field-0.0 in
    err_known c.from_residual.result (λ (s : Stopped). IsCausedBy before now s.why) e c.from_residual.ensures.1
    (caused_since before mid now e.why c.loop-block.invariant.later c.in_err-lasts.ensures.cause)

-- ---- all blocks ran

pub returns-clause-all : goal.returns-clause-all
returns-clause-all g c =
    let disk = g.D.Disk in
    let inv = c.loop-block.invariant in
    let b = c.loop-block.lasts in
    let s = b.store in
    let p = point_at c.args.disk.now c.args.store in
    let q = point_at c.loop-block.disk s in
    let first = first_registry c.args.store.registrar.catalog in
    let t = registry_of (view s.pass) s.registrar in
    record {
      close = close_of disk.images c.loop-block.disk s b.count inv.go;
      go = λ is. inv.go;
      runs = runs_all disk c.args.count first (first_item c.args.made c.args.count) p q
          (g.H.Host.files c.loop-block.host) c.args.script.now c.loop-block.block-index b.count t (g.W.Sink.written c.args.out.now)
          (g.W.Sink.written c.loop-block.out) c.loop-block.refused (omega arith) inv.go.between.end refl inv.writes
          (λ (rounds : List Round) h. first_of disk p q c.args.count b.count first t rounds h
          inv.go.between.end);
      committed = λ is. absurd cc;
    }
