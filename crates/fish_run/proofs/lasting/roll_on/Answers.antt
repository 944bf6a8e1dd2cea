-- The log is committed, and a new table begins where it ends.
use Rattle.std.proofs.Common.{◌∙◌, Result, [], ◌∷◌, ap, refl, subst, true}
use Rattle.fish_rule.specs.Passes.{view}
use Rattle.fish_run.proofs.Going.{may_roll, one_end, registry_reads, rolled_go, rolled_registry}
use Rattle.fish_run.proofs.CommitRows.{rows_or}
use Rattle.fish_run.proofs.Turns.{runs_step}
use Rattle.fish_store.proofs.Running.{runs_both}
use Rattle.fish_run.specs.Blocks.{begun_anew}
use Rattle.fish_lanes.specs.Registering.{Registry}
use Rattle.fish_rule.specs.declared.table.Log.{Log}
use Rattle.fish_rule.specs.declared.view.View.{View}
use Rattle.fish_flush.specs.declared.refusal.FlushRefusal.TheVariants as flush
use Rattle.fish_run.specs.declared.fault.RunFault.{RunFault}
use Rattle.fish_store.specs.CommitRows.{LeavesRows, by_checkpoint}
use Rattle.fish_store.specs.Points.{point_at}
use Rattle.fish_run.proofs.lasting.roll_on.Goals as goal

pub roll-requires : goal.roll-requires
roll-requires g c =
    let e = c.commit.ensures.commits in
    record {
      may = may_roll g.D.Disk.images c.commit.new.disk c.args.store c.commit.new.store c.args.from c.requires.go.between.can e.log
          e.registrar
          e.close e.reads c.in-Ok.ensures.again c.in-Ok.ensures.all.end;
    }

pub returns-in-Ok-roll-clause-rolled : goal.returns-in-Ok-roll-clause-rolled
returns-in-Ok-roll-clause-rolled g c =
    let disk = g.D.Disk in
    let e = c.commit.ensures.commits in
    let s = c.args.store in
    let m = c.commit.new.store in
    let t = c.in-Ok-roll.next in
    let h = c.in-Ok-roll.ensures.rolled in
    let p = point_at c.args.disk.now s in
    let at = point_at c.commit.new.disk m in
    let q = point_at c.commit.new.disk t in
    let same = one_end (view m.pass) m.file.flusher.count c.args.from e.close.of.stands c.in-Ok.ensures.all.end
    (e.end c.args.from c.requires.go.between.end) in
    record {
      runs = runs_both disk p at q (λ w. Unit {0}) (λ w. Unit {0}) (λ w. Unit {0})
          (λ w a b. tt)
          (runs_step disk p at (λ w. Unit {0}) e.goes e.later (λ past sound w may. tt)) h.runs;
      go = rolled_go disk c.commit.new.disk m t h c.args.from same;
      unshut = h.unshut;
      registry =
          rolled_registry disk c.commit.new.disk m t h c.args.from same
          (ap (λ r. r.waiting) e.registrar ∙ c.requires.go.settled)
          ∙ ap (λ (z : Registry). begun_anew true c.args.from z)
          (registry_reads s m e.registrar c.requires.go.between.can.of.stands e.close.of.stands c.requires.go.between.end.alone e.reads);
      number = h.number ∙ same;
      rows = subst (λ (z : Result (Unit {0}) RunFault).
          LeavesRows disk c.args.disk.now c.commit.new.disk (by_checkpoint z s.registrar.catalog) (s.registrar.catalog ∷ []))
          c.in-Ok.is e.rows;
      shape = h.shape ∙ ap (λ (l : Log). l.shape) e.log;
    }

pub returns-in-Err-roll-clause-stopped : goal.returns-in-Err-roll-clause-stopped
returns-in-Err-roll-clause-stopped g c =
    let disk = g.D.Disk in
    let e = c.commit.ensures.commits in
    let s = c.args.store in
    let m = c.commit.new.store in
    let p = point_at c.args.disk.now s in
    let at = point_at c.commit.new.disk m in
    record {
      at = at;
      disk_is = refl;
      store = tt;
      lost = λ none. refl;
      named = (flush.OutOfMemory, refl);
      runs = runs_step disk p at (λ w. Unit {0}) e.goes e.later (λ past sound w may. tt);
      rows = rows_or disk c.args.disk.now c.commit.new.disk s.registrar.catalog
          (subst (λ (z : Result (Unit {0}) RunFault).
          LeavesRows disk c.args.disk.now c.commit.new.disk (by_checkpoint z s.registrar.catalog) (s.registrar.catalog ∷ []))
          c.in-Ok.is e.rows);
      end = e.end c.args.from c.requires.go.between.end;
      learns = e.later.learns;
      shut = ap (λ (z : View). z.shut) e.reads.frame;
      shape = ap (λ (l : Log). l.shape) e.log;
    }

pub returns-in-Err-clause-stopped : goal.returns-in-Err-clause-stopped
returns-in-Err-clause-stopped g c =
    let disk = g.D.Disk in
    let e = c.commit.ensures.commits in
    let s = c.args.store in
    let m = c.commit.new.store in
    let p = point_at c.args.disk.now s in
    let at = point_at c.commit.new.disk m in
    record {
      at = at;
      disk_is = refl;
      store = (refl, e.close);
      lost = λ none. absurd cc;
      named = c.in-Err.ensures.named;
      runs = runs_step disk p at (λ w. Unit {0}) e.goes e.later (λ past sound w may. tt);
      rows = subst (λ (z : Result (Unit {0}) RunFault).
          LeavesRows disk c.args.disk.now c.commit.new.disk (by_checkpoint z s.registrar.catalog) (s.registrar.catalog ∷ []))
          c.in-Err.is e.rows;
      end = e.end c.args.from c.requires.go.between.end;
      learns = e.later.learns;
      shut = ap (λ (z : View). z.shut) e.reads.frame;
      shape = ap (λ (l : Log). l.shape) e.log;
    }
