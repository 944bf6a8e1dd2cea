-- One row more, and then all.
use Rattle.std.proofs.Common.{ℕ, List, length, refl, subst, arith}
use Rattle.std.proofs.lemmas.Option.{slice_get_read}
use Rattle.fish_catalog.proofs.Intervals.{below_all, below_next}
use Rattle.fish_catalog.specs.Intervals.{AreIntervals}
use Rattle.fish_catalog.specs.declared.row.CatRow.{CatRow}
use Rattle.fish_catalog.proofs.catalog.Catalog.intervals.Goals as goal

pub loop-row-preserved : goal.loop-row-preserved
loop-row-preserved c =
    let rows : List CatRow = c.rows-rows.result.now in
    let n : ℕ = c.loop-row.row-index in
    let there = slice_get_read rows (length rows) n c.row-item.result refl (omega (arith, c.loop-row-test.true)) c.row-item.is in
    below_next rows c.args.def.now n c.row-item.result c.loop-row.intervals c.add_interval.new.intervals
    c.loop-row.invariant there (c.rows-rows.ensures.kept.ids n c.row-item.result there) c.in_ok-add_interval.ensures

pub returns : goal.returns
returns c =
    subst (λ (rows : List CatRow). AreIntervals rows c.args.def.now c.loop-row.intervals) c.rows-rows.ensures.value
    (below_all c.rows-rows.result.now c.args.def.now c.loop-row.row-index c.loop-row.intervals
    (omega (arith, c.loop-row-test.false)) c.loop-row.invariant)
