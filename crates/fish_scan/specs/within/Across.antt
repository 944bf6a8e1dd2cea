-- What a scan across the base of a table answers, and why it refuses. What private clauses need of it.
use Rattle.std.specs.Prelude.{ℕ, List, Option}
use Rattle.fish_cold.specs.Carries.{CarriesTable}
use Rattle.fish_cold.specs.declared.cold.Cold.{Cold}
use Rattle.fish_lang.specs.Definition.{definition_of}
use Rattle.fish_plan.specs.declared.pieces.Piece.{Piece}
use Rattle.fish_rule.specs.Logs.{Learns}
use Rattle.fish_rule.specs.declared.view.Key.{Key}
use Rattle.fish_rule.specs.declared.view.View.{View}
use Rattle.fish_scan.specs.within.Below.{HasReadBelow}
use Rattle.fish_scan.specs.Cutting.{pieces_above, pieces_below}
use Rattle.fish_scan.specs.within.Cutting.{last_below}
use Rattle.fish_scan.specs.Parses.{HasParsed}
use Rattle.fish_scan.specs.within.Reach.{first_in}
use Rattle.fish_scan.specs.within.Reading.{Adds}
use Rattle.fish_scan.specs.within.Work.{ArePiecesWork}
use Rattle.fish_scan.specs.declared.matching.Query.{Query}
use Rattle.fish_value.specs.declared.row.Row.{Row}

-- ---- what is read

-- the part of the range in the table was read, and then that below it
pub record HasReadAcross {content : Option (List ℕ)} {k : Key} {cold : Cold} (h : CarriesTable content k cold)
    (v u : View)
    (query : Query) (pieces : List Piece) (before after : List Row) (parsed parses loaded loads : ℕ) : Type 0 where
  pub between : View
  pub learns : Learns between u
  pub rows : List Row
  pub parses_between : ℕ
  pub loads_between : ℕ
  pub above : Adds u (definition_of query.def) query.value (first_in k query.reach) query.reach.to query.reach.opens
      before rows
  pub parsed_above : HasParsed u query.reach.opens (pieces_above k.number pieces) (first_in k query.reach)
      query.reach.to parsed
      parses_between
  pub work_above : ArePiecesWork v between query.value query.reach.opens rows (pieces_above k.number pieces) loaded
      loads_between
  pub below : HasReadBelow h.prior between u (definition_of query.def) query.value (pieces_below k.number pieces)
      query.reach.from
      (last_below k query.reach) rows after parses_between parses loads_between loads
