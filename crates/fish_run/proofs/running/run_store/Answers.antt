-- The blocks, and after them the last checkpoint.
use Rattle.std.proofs.Common.{ap, refl, subst, Err, Some, Result, [], ◌∷◌}
use Rattle.fish_registry.specs.declared.registrar.Registrar.{Registrar}
use Rattle.fish_rule.specs.declared.table.Log.{Log}
use Rattle.fish_run.proofs.Caused.{caused_inner, caused_since}
use Rattle.fish_run.proofs.CommitRows.{rows_or}
use Rattle.fish_run.proofs.Ends.{all_later, all_stopped}
use Rattle.fish_run.proofs.Faults.{commit_no_output, commit_other, commit_well}
use Rattle.fish_run.proofs.One.{runs_on, stops_with}
use Rattle.fish_run.specs.Blocks.{first_registry, rounds_of}
use Rattle.fish_run.specs.Reports.{first_item}
use Rattle.fish_run.specs.Faults.{counts_of}
use Rattle.fish_run.specs.Faults.{FaultCounts}
use Rattle.fish_run.specs.declared.fault.RunFault.{RunFault}
use Rattle.fish_run.specs.declared.lasting.Stopped.{Stopped}
use Rattle.fish_store.specs.CommitRows.{LeavesRows, by_checkpoint}
use Rattle.fish_store.specs.Points.{point_at}
use Rattle.fish_run.proofs.running.run_store.Goals as goal

pub commit-requires : goal.commit-requires
commit-requires g c = record { go = (c.in_ok-store.field-0.count, c.in_ok-store.ensures.all.go (λ is. absurd cc)) }

-- ---- a fault came at the checkpoint

pub returns-in-Err-clause-some : goal.returns-in-Err-clause-some
returns-in-Err-clause-some g c =
    let disk = g.D.Disk in
    let l = c.in_ok-store.field-0 in
    let h = c.in_ok-store.ensures.all in
    let last = c.commit.new.store in
    let why = c.in-Err.why in
    let named = c.in-Err.ensures.named in
    let p = point_at c.args.disk.now c.args.store in
    let m = point_at c.run_blocks.new.disk l.store in
    let q = point_at c.commit.new.disk last in
    let first = first_registry c.args.store.registrar.catalog in
    let begin = first_item c.args.made c.args.count in
    let told = g.H.Host.files c.run_blocks.new.host in
    let old = g.W.Sink.written c.args.out.now in
    let new = g.W.Sink.written c.run_blocks.new.out in
    let e : Stopped = record { store = Some last; why = why } in
    let all = all_later disk c.args.count first begin p m q told c.args.script.now old new
    c.run_blocks.new.refused l.count h.runs
    (runs_on disk m q c.commit.ensures.commits.goes c.commit.ensures.commits.later)
    c.commit.ensures.commits.goes.learns (c.commit.ensures.commits.end l.count (h.go (λ is. absurd cc)).between.end)
    (ap (λ (z : Log). z.shape) c.commit.ensures.commits.log) (ap (λ (z : Registrar). z.catalog) c.commit.ensures.commits.registrar)
    (subst (λ (z : Result (Unit {0}) RunFault). LeavesRows disk m.disk q.disk (by_checkpoint z m.rows) (m.rows ∷ [])) c.in-Err.is
    c.commit.ensures.commits.rows) in
    all_stopped disk c.args.count first begin p q c.commit.new.disk told c.args.script.now old
    new c.run_blocks.new.refused l.count e all
    (stops_with disk p c.commit.new.disk last c.args.count l.count first
    (rounds_of all.blocks) e refl c.commit.ensures.commits.close (commit_well why named) all.ran)

pub returns-in-Err-clause-cause : goal.returns-in-Err-clause-cause
returns-in-Err-clause-cause g c =
    let before : FaultCounts = counts_of g.H.Host.faults g.W.Sink.faults g.D.Disk.faults c.args.host.now c.args.out.now c.args.disk.now in
    let mid : FaultCounts = counts_of g.H.Host.faults g.W.Sink.faults g.D.Disk.faults c.run_blocks.new.host c.run_blocks.new.out
    c.run_blocks.new.disk in
    let now : FaultCounts = counts_of g.H.Host.faults g.W.Sink.faults g.D.Disk.faults c.run_blocks.new.host c.run_blocks.new.out
    c.commit.new.disk in
    let why = c.in-Err.why in
    let named = c.in-Err.ensures.named in
    caused_since before mid now why c.run_blocks.ensures.later
    (caused_inner mid now why (commit_other why named) (commit_no_output why named)
    (λ is. c.in-Err.ensures.fault (λ i. Err (is i))))

-- ---- all was done

pub returns-in-Ok-clause-all : goal.returns-in-Ok-clause-all
returns-in-Ok-clause-all g c =
    let disk = g.D.Disk in
    let l = c.in_ok-store.field-0 in
    let h = c.in_ok-store.ensures.all in
    let p = point_at c.args.disk.now c.args.store in
    let m = point_at c.run_blocks.new.disk l.store in
    let q = point_at c.commit.new.disk c.commit.new.store in
    record {
      close = c.commit.ensures.commits.close;
      go = λ other. absurd (other refl);
      runs = all_later disk c.args.count (first_registry c.args.store.registrar.catalog)
          (first_item c.args.made c.args.count) p m q (g.H.Host.files c.run_blocks.new.host) c.args.script.now
          (g.W.Sink.written c.args.out.now) (g.W.Sink.written c.run_blocks.new.out) c.run_blocks.new.refused l.count h.runs
          (runs_on disk m q c.commit.ensures.commits.goes c.commit.ensures.commits.later)
          c.commit.ensures.commits.goes.learns (c.commit.ensures.commits.end l.count (h.go (λ is. absurd cc)).between.end)
          (ap (λ (z : Log). z.shape) c.commit.ensures.commits.log) (ap (λ (z : Registrar). z.catalog) c.commit.ensures.commits.registrar)
          (rows_or disk m.disk q.disk m.rows (subst (λ (z : Result (Unit {0}) RunFault).
          LeavesRows disk m.disk q.disk (by_checkpoint z m.rows) (m.rows ∷ [])) c.in-Ok.is c.commit.ensures.commits.rows));
      committed = λ is. c.in-Ok.ensures.all;
    }
