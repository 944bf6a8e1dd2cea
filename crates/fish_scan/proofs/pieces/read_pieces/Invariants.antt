-- The numbers of the pieces so far were read: those from one on, which the pieces left fill from below.
use Rattle.std.proofs.Common.{◌+◌, ◌≤◌, drop, take}
use Rattle.fish_lang.specs.Definition.{definition_of}
use Rattle.fish_rule.specs.Logs.{Extends}
use Rattle.fish_rule.specs.Passes.{IsPassOf, view}
use Rattle.fish_scan.proofs.Filling.{HasRead}
use Rattle.fish_scan.specs.within.Pieces.{full_numbers}
use Rattle.fish_scan.specs.within.Reach.{first_in}
use Rattle.fish_scan.specs.within.Work.{ArePiecesWork}
use Rattle.fish_scan.proofs.pieces.read_pieces.Given as goal

abbrev pub invariant-loop-piece : goal.invariant-loop-piece
invariant-loop-piece g l = record {
  of : IsPassOf l.log l.pass;
  few : l.parses + full_numbers (drop l.piece-index l.pieces) ≤ l.fn.parses + full_numbers l.pieces;
  extends : Extends (view l.fn.pass) (view l.pass);
  read : HasRead (view l.pass) (definition_of l.query.def) l.query.value (first_in l.log.key l.query.reach) l.query.reach
      l.pieces l.piece-index l.fn.rows l.rows l.fn.parses l.parses;
  work : ArePiecesWork (view l.fn.pass) (view l.pass) l.query.value l.query.reach.opens l.rows (take l.piece-index l.pieces)
      l.fn.loads l.loads;
}
