-- What is kept of the last commit is within the limits of the next table, which takes this one's place.
use Rattle.std.proofs.Common.{List, false, subst, sym}
use Rattle.fish_catalog.specs.declared.row.CatRow.{CatRow}
use Rattle.fish_recover.specs.Beginning.{BeginsAt, IsFlusherKept}
use Rattle.fish_rule.specs.Passes.{view}
use Rattle.fish_rule.specs.Start.{IsShape}
use Rattle.fish_rule.specs.declared.table.Shape.{Shape}
use Rattle.fish_store.proofs.Beginning.{carried_kept, carried_shape, version_few}
use Rattle.fish_store.proofs.Rolls.{has_rolled}
use Rattle.fish_store.proofs.store.Store.roll.Goals as goal

pub begin_table-requires-clause-shape : goal.begin_table-requires-clause-shape
begin_table-requires-clause-shape g c =
    let old = c.args.self in
    let may = c.requires.may.commit.may in
    subst IsShape (sym c.shape-shape.ensures)
    (carried_shape (g.D.Disk.images c.args.disk.now) old.file.flusher (view old.pass) old.log.shape old.registrar.catalog may.0 may.1
    may.2)

pub begin_table-requires-clause-few : goal.begin_table-requires-clause-few
begin_table-requires-clause-few g c = version_few (view c.args.self.pass) c.in-Ok.version c.in-Ok.ensures

pub begin_table-requires-clause-kept : goal.begin_table-requires-clause-kept
begin_table-requires-clause-kept g c =
    let old = c.args.self in
    let may = c.requires.may.commit.may in
    subst (λ (s : Shape). IsFlusherKept s old.file.flusher) (sym c.shape-shape.ensures)
    (carried_kept (g.D.Disk.images c.args.disk.now) old.file.flusher (view old.pass) old.log.shape old.registrar.catalog may.0 may.1
    may.2)

pub returns-in_ok-opened-in-Ok : goal.returns-in_ok-opened-in-Ok
returns-in_ok-opened-in-Ok g c =
    let disk = g.D.Disk in
    let old = c.args.self in
    let o = c.in_ok-opened-in-Ok.opened in
    record {
      rolled = has_rolled disk c.args.disk.now old c.requires.may c.in-Ok.version
          c.in-Ok.ensures o
          (subst (λ (s : Shape). BeginsAt old.file.flusher s old.registrar.catalog c.in-Ok.version false o) c.shape-shape.ensures
          (subst (λ (rows : List CatRow). BeginsAt old.file.flusher c.shape-shape.result rows c.in-Ok.version false o)
          c.into_catalog-rows.ensures c.in_ok-opened-in-Ok.ensures))
          (g.met.D.Disk.as_read c.args.disk.now) c.of_opened.result c.of_opened.ensures;
    }
