-- What stands so far is what the walk has gathered.
use Rattle.std.proofs.Common.{◌≡◌, ◌++◌, List}
use Rattle.fish_chain.specs.Walks.{HasRange, IsWalking}
use Rattle.fish_lang.specs.Definition.{definition_of}
use Rattle.fish_rule.specs.Logs.{Extends}
use Rattle.fish_rule.specs.Passes.{IsPassOf, view, walk_of}
use Rattle.fish_scan.proofs.Descending.{IsDescent}
use Rattle.fish_scan.specs.Indices.{bucket_of_value}
use Rattle.fish_scan.specs.within.Indices.{Gathers}
use Rattle.fish_value.specs.declared.row.Row.{Row}
use Rattle.fish_scan.proofs.indexed.read_indexed.Given as goal

abbrev pub invariant-loop-node : goal.invariant-loop-node
invariant-loop-node g l = record {
  of : IsPassOf l.log l.pass;
  extends : Extends (view l.fn.pass) (view l.pass);
  walking : IsWalking (view l.pass) (walk_of l.pass);
  range : HasRange (walk_of l.pass) (bucket_of_value (view l.fn.pass) l.id l.query.value) l.stretch.from l.stretch.to;
  gathered : (new : List Row) × (l.rows ≡ l.fn.rows ++ new) × Gathers (view l.pass) (definition_of l.query.def) l.query.value
      l.id (bucket_of_value (view l.fn.pass) l.id l.query.value) l.stretch.from l.stretch.to (walk_of l.pass).given new;
  descent : IsDescent (view l.fn.pass) (view l.pass) (bucket_of_value (view l.fn.pass) l.id l.query.value) l.stretch.from
      (walk_of l.pass).place l.fn.rows l.rows l.fn.loads l.loads;
}

abbrev pub decreases-loop-node : goal.decreases-loop-node
decreases-loop-node g l = (walk_of l.pass).given
