-- One region after the other is copied, and one page after the other is written.
use Rattle.std.proofs.Common.{◌≡◌, ℕ, ◌+◌, ◌-◌, ◌*◌, inl, inr, sym, ap, subst, arith}
use Rattle.fish_disk.specs.Crash.{LeavesOnly, TornFrom}
use Rattle.fish_flush.proofs.FilledPages.{filled_all}
use Rattle.fish_flush.proofs.PageTurns.{IsTurn, turn_more, turn_none, turn_written}
use Rattle.fish_flush.proofs.PageWrites.{written_torn}
use Rattle.fish_flush.proofs.RegionSteps.{line_inside}
use Rattle.fish_flush.specs.declared.batch.Batch.{Batch}
use Rattle.fish_rule.proofs.laws.Learning.{extends_both, extends_self}
use Rattle.fish_rule.specs.Passes.{view}
use Rattle.fish_rule.specs.declared.view.Key.{Key}
use Rattle.fish_slots.specs.Offsets.{lines_at}
use Rattle.fish_flush.proofs.pages.write_settled.Goals as goal
use Rattle.fish_flush.proofs.pages.write_settled.Goals.{then-full+in_ok-write_pending, then-full-via-then-full}
use Rattle.fish_flush.proofs.pages.write_settled.Goals.{then-full-via-else-full+then-number-to, else-full+else-number-to}

pub loop-number-init : goal.loop-number-init
loop-number-init g c =
    let disk = g.D.Disk in
    let v = view c.args.pass.now in
    let a = c.args.batch.now in
    let upto = c.requires.ordered.1 in
    let settled = c.requires.settled.0 in
    let end = ap (λ (z : Key). z.end) c.requires.pass.about in
    let inside = line_inside v c.args.from a.line c.requires.pass.stands (omega arith) c.requires.ready.line in
    record {
      of = c.requires.pass;
      extends = extends_self v;
      settled = c.requires.settled.0;
      counted = c.requires.settled.1;
      turn = turn_none disk.content disk.images disk.since disk.moment disk.faults c.args.disk.now v c.args.log.now.key.end c.args.from
          c.args.to a c.requires.ready (omega arith) c.requires.within;
    }

pub returns-in_err-write_pending-clause-extends : goal.returns-in_err-write_pending-clause-extends
returns-in_err-write_pending-clause-extends g c = extends_both _ _ _ c.loop-number.invariant.extends c.add_region.ensures.extends

pub returns-in_err-write_pending-clause-crash : goal.returns-in_err-write_pending-clause-crash
returns-in_err-write_pending-clause-crash g c =
    let disk = g.D.Disk in
    let a = c.args.batch.now in
    let d = c.add_region.new.batch in
    let turn = c.loop-number.invariant.turn in
    let one = c.add_region.ensures.added in
    let same = one.written in
    let upto = turn.filled.upto in
    let near = turn.filled.near in
    let later = one.later in
    let at : ℕ = lines_at + 32 * a.line in (
      32 * (d.line - a.line),
      written_torn disk.content disk.images disk.since disk.moment disk.faults c.args.disk.now c.loop-number.disk c.write_pending.new.disk
          a.line c.loop-number.batch.written d.line turn.lines upto (omega arith) turn.on_disk
          (subst (λ (k : ℕ). LeavesOnly disk.images disk.since disk.moment c.loop-number.disk c.write_pending.new.disk
          (TornFrom (disk.images c.loop-number.disk) (lines_at + 32 * k) (32 * (d.line - k)))) same c.write_pending.ensures.crash),
    )

pub loop-number-preserved : goal.loop-number-preserved
loop-number-preserved g c =
    let disk = g.D.Disk in
    let i = c.loop-number.invariant in
    let v = view c.args.pass.now in
    let u = view c.loop-number.pass in
    let x = view c.add_region.new.pass in
    let a = c.args.batch.now in
    let b = c.loop-number.batch in
    let d = c.add_region.new.batch in
    let y = c.loop-number.disk in
    let n : ℕ = c.loop-number.number in
    let on = c.add_region.ensures.extends in
    let settled = i.settled in
    let counted = i.counted in
    let settles = on.learns.settled in
    let counts = on.learns.count in
    let one = c.add_region.ensures.added in
    let test = c.loop-number-test.true in
    let written = c.page_of.ensures in
    let reached = c.page_of-in-loop-number.ensures in
    record {
      of = c.add_region.ensures.pass;
      extends = extends_both _ _ _ i.extends on;
      settled = omega arith;
      counted = omega arith;
      turn = elim c.if-full.branch [
        | then-full+in_ok-write_pending w ↦
            subst (λ (z : Batch × g.row.D.Denot). IsTurn disk.content disk.images disk.since disk.moment disk.faults c.args.disk.now v
            c.args.log.now.key.end c.args.from c.args.to a x (n + 1) z.0 z.1) (λ j. (sym w.batch-is j, sym w.disk-is j))
            (turn_written disk.content disk.images disk.since disk.moment disk.faults c.args.disk.now v c.args.log.now.key.end c.args.from
            c.args.to a u x n b d y i.extends on test one i.turn w.write_pending.new.batch w.write_pending.new.disk
            (elim w.then-full.branch [
              | then-full-via-then-full w' ↦ inl (let less = w'.if-full.true in omega arith)
              | then-full-via-else-full+then-number-to w' ↦ inr w'.if-number-to.true
            ])
            w.write_pending.ensures.kept w.in_ok-write_pending.ensures.written w.in_ok-write_pending.ensures.content
            w.write_pending.ensures.crash w.write_pending.ensures.one w.write_pending.ensures.cause.later)
        | else-full+else-number-to w ↦
            subst (λ (z : Batch × g.row.D.Denot). IsTurn disk.content disk.images disk.since disk.moment disk.faults c.args.disk.now v
            c.args.log.now.key.end c.args.from c.args.to a x (n + 1) z.0 z.1) (λ j. (sym w.batch-is j, sym w.disk-is j))
            (turn_more disk.content disk.images disk.since disk.moment disk.faults c.args.disk.now v c.args.log.now.key.end c.args.from
            c.args.to a u x n b d y i.extends on test one i.turn (let same = w.if-full.false in omega arith) w.if-number-to.false)
      ];
    }

pub returns-clause-done : goal.returns-clause-done
returns-clause-done g c =
    let test = c.loop-number-test.false in
    let upto = c.loop-number.auto.number-end c.requires.ordered.1 in
    let end : c.loop-number.number ≡ c.args.to = omega arith in
    let turn = c.loop-number.invariant.turn in (
      turn.lines,
      filled_all (view c.args.pass.now) (view c.loop-number.pass) c.args.log.now.key.end c.args.from c.args.to c.loop-number.number
          c.args.batch.now c.loop-number.batch turn.lines turn.filled end (turn.ended end),
      turn.on_disk.put,
    )
