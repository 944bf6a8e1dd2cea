-- The words up to the position are stored.
use Rattle.fish_registry.specs.within.Rows.{HasDrafted}
use Rattle.fish_rule.specs.Passes.{IsPassOf, view}
use Rattle.fish_registry.proofs.rows.define_row.Given as goal

abbrev pub invariant-loop-position : goal.invariant-loop-position
invariant-loop-position l = IsPassOf l.log l.pass × HasDrafted (view l.fn.pass) l.words l.position (view l.pass)
