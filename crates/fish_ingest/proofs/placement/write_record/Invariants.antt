-- The record's words are stored, and its entries so far are linked.
use Rattle.fish_ingest.proofs.PlacementWords.{IsWriting, parts_at}
use Rattle.fish_ingest.specs.Placement.{CanWrite}
use Rattle.fish_rule.specs.Passes.{IsPassOf, view}
use Rattle.fish_rule.specs.declared.view.Flight.{Flight}
use Rattle.fish_ingest.proofs.placement.write_record.Given as goal

abbrev pub invariant-loop-position : goal.invariant-loop-position
invariant-loop-position l = record {
  of : IsPassOf l.log l.pass;
  writing : (f : Flight) (can : CanWrite (view l.fn.pass) f l.fn.prepared)
      → IsWriting (view l.fn.pass) f (parts_at (view l.fn.pass) f l.fn.prepared can) l.position (view l.pass);
}
