-- The numbers from this one on were read.
use Rattle.std.proofs.Common.{◌+◌, ◌≤◌}
use Rattle.fish_lang.specs.Definition.{definition_of}
use Rattle.fish_rule.specs.Logs.{Extends}
use Rattle.fish_rule.specs.Passes.{IsPassOf, view}
use Rattle.fish_plan.specs.declared.pieces.Piece.TheVariants.{Full}
use Rattle.fish_scan.specs.within.Parses.{HasParsedPiece}
use Rattle.fish_scan.specs.within.Reading.{Adds}
use Rattle.fish_scan.specs.within.Work.{IsFullWork}
use Rattle.fish_scan.proofs.reading.read_stretch.Given as goal

abbrev pub invariant-loop-number : goal.invariant-loop-number
invariant-loop-number g l = record {
  of : IsPassOf l.log l.pass;
  few : l.parses + l.number ≤ l.fn.parses + l.stretch.to;
  extends : Extends (view l.fn.pass) (view l.pass);
  above : l.stretch.from ≤ l.number;
  below : l.number ≤ l.stretch.to;
  parses : HasParsedPiece (view l.pass) l.query.reach.opens (Full l.number l.stretch.to) l.fn.parses l.parses;
  rows : Adds (view l.pass) (definition_of l.query.def) l.query.value l.number l.stretch.to l.query.reach.opens l.fn.rows l.rows;
  work : IsFullWork (view l.fn.pass) (view l.pass) l.query.reach.opens l.number l.stretch.to l.fn.loads l.loads;
}

abbrev pub decreases-loop-number : goal.decreases-loop-number
decreases-loop-number g l = l.number
