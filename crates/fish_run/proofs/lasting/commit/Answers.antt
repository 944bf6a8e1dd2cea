-- The control pass only reads, so the log ends where it did, and there the number that was committed stands.
use Rattle.std.proofs.Common.{ℕ, Result, [], ◌∷◌, refl, sym, subst}
use Rattle.fish_flush.specs.declared.refusal.FlushRefusal.{FlushRefusal}
use Rattle.fish_flush.specs.declared.refusal.FlushRefusal.TheVariants as flush
use Rattle.fish_lanes.specs.Ending.{EndsAlone}
use Rattle.fish_rule.specs.Passes.{view}
use Rattle.fish_run.proofs.CommitRows.{rows_failed}
use Rattle.fish_run.proofs.Going.{end_reads, end_settled, holds_rows, later_reads, no_err}
use Rattle.fish_store.specs.CommitRows.{LeavesRows, by_checkpoint}
use Rattle.fish_run.proofs.lasting.commit.Goals as goal

pub checkpoint-requires-clause-rows : goal.checkpoint-requires-clause-rows
checkpoint-requires-clause-rows g c =
    holds_rows (view c.args.store.now.pass) c.args.store.now.registrar c.requires.go.1.between.can.knows

pub returns-in_err-checkpoint-clause-commits : goal.returns-in_err-checkpoint-clause-commits
returns-in_err-checkpoint-clause-commits g c =
    let v = view c.args.store.now.pass in
    let u = view c.checkpoint.new.pass in
    let e = c.checkpoint.ensures in
    let rows = c.args.store.now.registrar.catalog in
    record {
      log = refl;
      registrar = refl;
      close = record {
        of = e.pass;
        alone = (end_reads v u c.requires.go.0 e.reads e.pass.stands c.requires.go.1.between.end).alone;
        table = c.requires.go.1.table;
      };
      later = later_reads v u e.reads;
      reads = e.reads;
      goes = e.goes;
      end = λ to end. end_reads v u to e.reads e.pass.stands end;
      rows = rows_failed g.D.Disk c.args.disk.now c.checkpoint.new.disk rows c.from_residual.result _ c.from_residual.ensures.1
          (subst (λ (z : Result ℕ FlushRefusal). LeavesRows g.D.Disk c.args.disk.now c.checkpoint.new.disk (by_checkpoint z rows)
          (rows ∷ [])) c.in_err-checkpoint.was e.rows);
      rises = e.cause.later;
    }

pub returns-clause-commits : goal.returns-clause-commits
returns-clause-commits g c =
    let v = view c.args.store.now.pass in
    let u = view c.checkpoint.new.pass in
    let e = c.checkpoint.ensures in
    let rows = c.args.store.now.registrar.catalog in
    record {
      log = refl;
      registrar = refl;
      close = record {
        of = e.pass;
        alone = (end_reads v u c.requires.go.0 e.reads e.pass.stands c.requires.go.1.between.end).alone;
        table = c.requires.go.1.table;
      };
      later = later_reads v u e.reads;
      reads = e.reads;
      goes = e.goes;
      end = λ to end. end_reads v u to e.reads e.pass.stands end;
      rows = subst (λ (z : Result ℕ FlushRefusal). LeavesRows g.D.Disk c.args.disk.now c.checkpoint.new.disk (by_checkpoint z rows)
          (rows ∷ [])) c.in_ok-checkpoint.was e.rows;
      rises = e.cause.later;
    }

pub returns-clause-all : goal.returns-clause-all
returns-clause-all g c =
    let u = view c.checkpoint.new.pass in
    let kept = c.in_ok-checkpoint.ensures.commit in
    record {
      end = subst (EndsAlone u) (sym kept.count)
          (end_settled (view c.args.store.now.pass) u c.in_ok-checkpoint.field-0 c.requires.go.0 c.checkpoint.ensures.reads
          c.checkpoint.ensures.pass.stands c.requires.go.1.between.end c.in_ok-checkpoint.ensures.settled);
      line = kept.line;
      catalog = kept.definitions;
    }

pub returns-clause-again : goal.returns-clause-again
returns-clause-again g c = c.checkpoint.ensures.again
    (λ bad. no_err c.checkpoint.result c.in_ok-checkpoint.field-0 flush.DiskFault c.in_ok-checkpoint.was bad)
