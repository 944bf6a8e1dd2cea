-- A store that was made is at rest, and its table begins at 0.
use Rattle.std.proofs.Common.{[], List, refl, subst, sym, true}
use Rattle.fish_catalog.specs.declared.row.CatRow.{CatRow}
use Rattle.fish_flush.proofs.Growing.{grown_self}
use Rattle.fish_flush.specs.Kept.{first_commit}
use Rattle.fish_recover.proofs.Beginnings.{begun_open, committed_kept}
use Rattle.fish_recover.proofs.Refusals.{err_is, err_ok, flush_cause, flushed_outside, memory_cause, ok_cause}
use Rattle.fish_recover.specs.Beginning.{BeginsAt}
use Rattle.fish_recover.specs.within.Opening.{IsOutside}
use Rattle.fish_recover.specs.Stores.{IsOpened}
use Rattle.fish_recover.specs.declared.refusal.OpenRefusal.TheVariants.{OutOfMemory}
use Rattle.fish_rule.specs.Start.{IsShape}
use Rattle.fish_rule.specs.declared.table.Shape.{Shape}
use Rattle.fish_recover.proofs.store.make_store.Goals as goal

pub create-requires-clause-shape : goal.create-requires-clause-shape
create-requires-clause-shape g c = subst IsShape (sym c.shape_of-shape.ensures) c.requires.shape

pub begin_table-requires-clause-shape : goal.begin_table-requires-clause-shape
begin_table-requires-clause-shape g c = subst IsShape (sym c.shape_of-shape.ensures) c.requires.shape

pub begin_table-requires-clause-kept : goal.begin_table-requires-clause-kept
begin_table-requires-clause-kept g c =
    let s = c.shape_of-shape.result in
    let rest = c.in-Ok.ensures.made in
    committed_kept c.in-Ok.flusher (first_commit s) rest.body rest.lines [] s rest.committed refl

pub returns-in_err-begin_table-in-Ok-clause-opened : goal.returns-in_err-begin_table-in-Ok-clause-opened
returns-in_err-begin_table-in-Ok-clause-opened g c = err_ok OutOfMemory c.from_residual.result _ c.from_residual.ensures.1

pub returns-in_err-begin_table-in-Ok-clause-made : goal.returns-in_err-begin_table-in-Ok-clause-made
returns-in_err-begin_table-in-Ok-clause-made g c = err_ok OutOfMemory c.from_residual.result _ c.from_residual.ensures.1

pub returns-in_err-begin_table-in-Ok-clause-crash : goal.returns-in_err-begin_table-in-Ok-clause-crash
returns-in_err-begin_table-in-Ok-clause-crash g c = c.create.ensures.crash

pub returns-in_err-begin_table-in-Ok-clause-refused : goal.returns-in_err-begin_table-in-Ok-clause-refused
returns-in_err-begin_table-in-Ok-clause-refused g c =
    err_is OutOfMemory c.from_residual.result IsOutside c.from_residual.ensures.1 tt

pub returns-in_err-begin_table-in-Ok-clause-cause : goal.returns-in_err-begin_table-in-Ok-clause-cause
returns-in_err-begin_table-in-Ok-clause-cause g c =
    memory_cause (g.D.Disk.faults c.args.disk.now) (g.D.Disk.faults c.create.new.disk) c.from_residual.result
    c.create.ensures.cause.later c.from_residual.ensures.1

pub returns-in_ok-begin_table-in-Ok-clause-opened : goal.returns-in_ok-begin_table-in-Ok-clause-opened
returns-in_ok-begin_table-in-Ok-clause-opened g c =
    let disk = g.D.Disk in
    let content = disk.content c.create.new.disk in
    let images = disk.images c.create.new.disk in
    let f = c.in-Ok.flusher in
    let s = c.shape_of-shape.result in
    let o = c.in_ok-begin_table-in-Ok.field-0 in
    subst (λ (z : Shape). IsOpened content images (first_commit z) [] o) c.shape_of-shape.ensures
    (begun_open images f (first_commit s) [] c.in-Ok.ensures.made s refl [] (grown_self 0 []) 0 true o
    (subst (λ (rows : List CatRow). BeginsAt f s rows 0 true o) c.new.ensures c.in_ok-begin_table-in-Ok.ensures) content
    (g.met.D.Disk.as_read c.create.new.disk) refl c.in-Ok.ensures.live)

pub returns-in_ok-begin_table-in-Ok-clause-made : goal.returns-in_ok-begin_table-in-Ok-clause-made
returns-in_ok-begin_table-in-Ok-clause-made g c = c.in_ok-begin_table-in-Ok.ensures.opens.made_is

pub returns-in_ok-begin_table-in-Ok-clause-crash : goal.returns-in_ok-begin_table-in-Ok-clause-crash
returns-in_ok-begin_table-in-Ok-clause-crash g c = c.create.ensures.crash

pub returns-in_ok-begin_table-in-Ok-clause-cause : goal.returns-in_ok-begin_table-in-Ok-clause-cause
returns-in_ok-begin_table-in-Ok-clause-cause g c =
    ok_cause (g.D.Disk.faults c.args.disk.now) (g.D.Disk.faults c.create.new.disk) c.in_ok-begin_table-in-Ok.field-0
    c.create.ensures.cause.later

pub returns-in-Err-clause-crash : goal.returns-in-Err-clause-crash
returns-in-Err-clause-crash g c = c.create.ensures.crash

pub returns-in-Err-clause-refused : goal.returns-in-Err-clause-refused
returns-in-Err-clause-refused g c = flushed_outside c.in-Err.refusal c.refusal_of.result c.refusal_of.ensures

pub returns-in-Err-clause-cause : goal.returns-in-Err-clause-cause
returns-in-Err-clause-cause g c =
    flush_cause (g.D.Disk.faults c.args.disk.now) (g.D.Disk.faults c.create.new.disk) c.in-Err.refusal c.refusal_of.result
    c.in-Err.ensures.cause c.refusal_of.ensures
