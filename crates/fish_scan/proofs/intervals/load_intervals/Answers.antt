-- The interval of one row more.
use Rattle.std.proofs.Common.{◌≡◌, ℕ, ◌+◌, suc, arith, length, subst, refl}
use Rattle.std.proofs.lemmas.Option.{slice_get_read}
use Rattle.fish_rule.specs.Passes.{view}
use Rattle.fish_scan.proofs.Beginnings.{AreSoFar, boundaries_both, so_far_all, so_far_more}
use Rattle.fish_scan.proofs.intervals.load_intervals.Goals as goal

pub returns-in_err-add_interval-clause-only : goal.returns-in_err-add_interval-clause-only
returns-in_err-add_interval-clause-only c = boundaries_both _ _ _ c.loop-row.invariant.only c.add_interval.ensures.only

pub loop-row-preserved : goal.loop-row-preserved
loop-row-preserved c =
    let inv = c.loop-row.invariant in
    let next : suc c.loop-row.row-index ≡ c.loop-row.row-index + 1 = omega arith in
    record {
      of = c.add_interval.ensures.pass;
      only = boundaries_both _ _ _ inv.only c.add_interval.ensures.only;
      intervals = subst (λ (z : ℕ). AreSoFar (view c.args.pass.now) (view c.add_interval.new.pass) c.args.rows.now
          c.args.text.now z c.add_interval.new.intervals) next (so_far_more (view c.args.pass.now) (view c.loop-row.pass)
          (view c.add_interval.new.pass) c.args.rows.now c.args.text.now c.loop-row.row-index c.row-item.result
          c.loop-row.intervals c.add_interval.new.intervals c.requires.rows inv.only c.add_interval.ensures.only
          (slice_get_read c.args.rows.now (length c.args.rows.now) c.loop-row.row-index c.row-item.result refl
          c.loop-row-test.true c.row-item.is) inv.intervals c.in_ok-add_interval.ensures.added);
    }

pub returns-clause-intervals : goal.returns-clause-intervals
returns-clause-intervals c = so_far_all (view c.args.pass.now) (view c.loop-row.pass) c.args.rows.now c.args.text.now
    c.loop-row.row-index c.loop-row.intervals (let all = c.loop-row-test.false in omega arith) c.loop-row.invariant.intervals
