-- The definitions of the versions so far.
use Rattle.fish_rule.specs.Passes.{IsPassOf, view}
use Rattle.fish_rule.specs.Registry.{KnowsDefinitions}
use Rattle.fish_epoch.specs.Rows.{OnlyLearns}
use Rattle.fish_epoch.proofs.rows.read_rows.Given as goal

abbrev pub invariant-loop-before : goal.invariant-loop-before
invariant-loop-before l = record {
  of : IsPassOf l.log l.pass;
  reads : OnlyLearns (view l.fn.pass) (view l.pass);
  rows : KnowsDefinitions (view l.pass).about (view l.pass).learned l.before l.rows.items;
}
