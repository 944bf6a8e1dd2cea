-- What was found so far, with what the rows that are left will give, is what all give; each row counts once, and takes at least
-- one byte.
use Rattle.std.proofs.Common.{◌≡◌, ◌+◌, ◌≤◌, length}
use Rattle.fish_csv.specs.Left.{rows_left}
use Rattle.fish_lang.specs.Definition.{definition_of}
use Rattle.fish_value.specs.Outcomes.{accepted}
use Rattle.fish_value.specs.declared.field.Form.TheVariants.{Csv}
use Rattle.fish_select.specs.within.Found.{with_outcomes}
use Rattle.fish_select.specs.within.Selection.{is_selected}
use Rattle.fish_select.proofs.rows.add_rows.Given as goal

abbrev pub invariant-loop-reader : goal.invariant-loop-reader
invariant-loop-reader l = record {
  whole : with_outcomes (is_selected (definition_of l.def) l.value Csv) l.found (rows_left l.rows)
      ≡ with_outcomes (is_selected (definition_of l.def) l.value Csv) l.fn.found (rows_left l.fn.rows);
  many : l.found.count + length (accepted (rows_left l.rows)) ≡ l.fn.found.count + length (accepted (rows_left l.fn.rows));
  counted : l.found.count + l.found.refused + length l.rows.rest.now
      ≤ l.fn.found.count + l.fn.found.refused + length l.fn.rows.rest.now;
}

abbrev pub decreases-loop-reader : goal.decreases-loop-reader
decreases-loop-reader l = length l.rows.rest.now
