-- A line end more begins no row.
use Rattle.std.proofs.Common.{sym, ap, ◌∙◌, length, arith}
use Rattle.fish_csv.specs.Reading.{rows_in}
use Rattle.fish_csv.proofs.Records.{rows-end}
use Rattle.fish_csv.proofs.bytes.without_ends.Goals as goal

pub loop-c-preserved : goal.loop-c-preserved
loop-c-preserved c = record {
  same = sym (ap rows_in c.in-Some.ensures ∙ rows-end _ _ (sym c.is_line_end.ensures ∙ c.if-not-is_line_end.false))
      ∙ c.loop-c.invariant.same;
  within = omega (arith, ap length c.in-Some.ensures);
}
