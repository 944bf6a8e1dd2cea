-- However a checkpoint ends, the store goes on.
use Rattle.std.proofs.Common.{List, refl, subst, sym}
use Rattle.std.specs.Prelude.{IfOk}
use Rattle.fish_catalog.specs.declared.commit.Commit.{Commit}
use Rattle.fish_catalog.specs.declared.entry.Entry.{Entry}
use Rattle.fish_catalog.specs.declared.row.CatRow.{CatRow}
use Rattle.fish_flush.specs.Carrying.{CarriesLog, HasCommitted, LeavesEither}
use Rattle.fish_rule.specs.Passes.{view}
use Rattle.fish_store.proofs.Again.{commit_ok, rows_ok}
use Rattle.fish_store.proofs.Committing.{again_checkpoint, here_checkpoint, rows_checkpoint}
use Rattle.fish_store.specs.Points.{point_of}
use Rattle.fish_store.proofs.file.StoreFile.checkpoint.Goals as goal

pub checkpoint-requires-clause-carries : goal.checkpoint-requires-clause-carries
checkpoint-requires-clause-carries g c =
    let h = c.requires.may.may in (
      h.0,
      h.1,
      subst (λ (z : List CatRow). CarriesLog (g.D.Disk.images c.args.disk.now) c.args.self.now.flusher (view c.args.pass.now)
          c.args.log.now.shape z h.0 h.1) (sym c.catalog.ensures) h.2,
    )

pub returns-clause-commit : goal.returns-clause-commit
returns-clause-commit g c =
    let disk = g.D.Disk in
    let may = c.requires.may.may in
    commit_ok (disk.images c.args.disk.now) (disk.images c.checkpoint.new.disk) c.args.self.now.flusher c.checkpoint.new.flusher
    (view c.args.pass.now) (view c.checkpoint.new.pass) c.args.log.now.shape c.args.registrar.now.catalog may.0 may.1 may.2
    c.checkpoint.result
    (subst (λ (z : List CatRow). IfOk c.checkpoint.result (HasCommitted (disk.images c.args.disk.now)
    (disk.images c.checkpoint.new.disk) c.args.self.now.flusher c.checkpoint.new.flusher (view c.args.pass.now)
    (view c.checkpoint.new.pass) c.args.log.now.shape z)) c.catalog.ensures c.checkpoint.ensures.committed)

pub returns-clause-again : goal.returns-clause-again
returns-clause-again g c unbroken =
    let disk = g.D.Disk in
    let p = point_of c.args.disk.now c.args.self.now c.args.log.now c.args.pass.now c.args.registrar.now in
    let q = point_of c.checkpoint.new.disk (record c.args.self.now { flusher = c.checkpoint.new.flusher }) c.args.log.now
    c.checkpoint.new.pass c.args.registrar.now in
    again_checkpoint disk p q c.checkpoint.ensures.reads refl refl refl c.requires.may.live
    c.requires.may.may g.met.D.Disk.as_read g.met.D.Disk.told
    (subst (λ (z : List CatRow). (e : Commit) (old : List Entry)
    (h : CarriesLog (disk.images c.args.disk.now) c.args.self.now.flusher (view c.args.pass.now) c.args.log.now.shape z e old)
    → LeavesEither disk.images disk.since disk.moment c.args.disk.now c.checkpoint.new.disk (view c.checkpoint.new.pass) z e old
    h.rest.lines) c.catalog.ensures c.checkpoint.ensures.crash)
    c.checkpoint.result c.requires.may.counted
    (subst (λ (z : List CatRow). IfOk c.checkpoint.result (HasCommitted (disk.images c.args.disk.now)
    (disk.images c.checkpoint.new.disk) c.args.self.now.flusher c.checkpoint.new.flusher (view c.args.pass.now)
    (view c.checkpoint.new.pass) c.args.log.now.shape z)) c.catalog.ensures c.checkpoint.ensures.committed)
    c.checkpoint.ensures.memory unbroken

pub returns-clause-goes : goal.returns-clause-goes
returns-clause-goes g c =
    let disk = g.D.Disk in
    let p = point_of c.args.disk.now c.args.self.now c.args.log.now c.args.pass.now c.args.registrar.now in
    here_checkpoint disk p _ c.checkpoint.ensures.reads refl refl refl c.requires.may.live
    c.requires.may.may g.met.D.Disk.as_read g.met.D.Disk.told
    (subst (λ (z : List CatRow). (e : Commit) (old : List Entry)
    (h : CarriesLog (disk.images c.args.disk.now) c.args.self.now.flusher (view c.args.pass.now) c.args.log.now.shape z e old)
    → LeavesEither disk.images disk.since disk.moment c.args.disk.now c.checkpoint.new.disk (view c.checkpoint.new.pass) z e old
    h.rest.lines) c.catalog.ensures c.checkpoint.ensures.crash)
    c.checkpoint.result c.checkpoint.ensures.settled
    (subst (λ (z : List CatRow). IfOk c.checkpoint.result (HasCommitted (disk.images c.args.disk.now)
    (disk.images c.checkpoint.new.disk) c.args.self.now.flusher c.checkpoint.new.flusher (view c.args.pass.now)
    (view c.checkpoint.new.pass) c.args.log.now.shape z)) c.catalog.ensures c.checkpoint.ensures.committed)
    c.checkpoint.ensures.shut c.checkpoint.ensures.memory

pub returns-clause-rows : goal.returns-clause-rows
returns-clause-rows g c =
    let disk = g.D.Disk in
    let p = point_of c.args.disk.now c.args.self.now c.args.log.now c.args.pass.now c.args.registrar.now in
    let q = point_of c.checkpoint.new.disk (record c.args.self.now { flusher = c.checkpoint.new.flusher }) c.args.log.now
    c.checkpoint.new.pass c.args.registrar.now in
    rows_checkpoint disk p q c.checkpoint.ensures.reads refl refl refl c.requires.may.live
    c.requires.may.may g.met.D.Disk.as_read g.met.D.Disk.told
    (subst (λ (z : List CatRow). (e : Commit) (old : List Entry)
    (h : CarriesLog (disk.images c.args.disk.now) c.args.self.now.flusher (view c.args.pass.now) c.args.log.now.shape z e old)
    → LeavesEither disk.images disk.since disk.moment c.args.disk.now c.checkpoint.new.disk (view c.checkpoint.new.pass) z e old
    h.rest.lines) c.catalog.ensures c.checkpoint.ensures.crash)
    c.checkpoint.result
    (rows_ok (disk.images c.checkpoint.new.disk) c.args.log.now.shape c.args.registrar.now.catalog c.checkpoint.new.flusher
    (view c.checkpoint.new.pass) c.checkpoint.result (returns-clause-commit g c))
