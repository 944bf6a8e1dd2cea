-- The pieces so far were read, and those that are left fill what is below.
use Rattle.fish_cold.specs.Carries.{CarriesTable}
use Rattle.fish_lang.specs.Definition.{definition_of}
use Rattle.fish_rule.specs.Logs.{Extends}
use Rattle.fish_rule.specs.Passes.{IsPassOf, view}
use Rattle.fish_scan.proofs.BelowReads.{ReadsBelow}
use Rattle.fish_scan.specs.Colder.{StaysCold}
use Rattle.fish_scan.specs.within.Cutting.{last_below}
use Rattle.fish_scan.proofs.below.read_below.Given as goal

abbrev pub invariant-loop-piece : goal.invariant-loop-piece
invariant-loop-piece g l = record {
  of : IsPassOf l.log l.pass;
  extends : Extends (view l.fn.pass) (view l.pass);
  stays : StaysCold g.D.Disk l.fn.cold l.cold l.fn.disk l.disk;
  read : (h : CarriesTable (g.D.Disk.content l.disk) l.log.key l.fn.cold) → ReadsBelow h.prior (view l.fn.pass)
      (definition_of l.query.def) l.query.value l.pieces l.query.reach.from (last_below l.log.key l.query.reach) (view l.pass)
      l.piece-index l.fn.rows l.rows l.fn.parses l.parses l.fn.loads l.loads;
}
