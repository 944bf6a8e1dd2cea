-- The definitions of the rows so far.
use Rattle.std.proofs.Common.{◌≡◌, length, map, take}
use Rattle.fish_catalog.specs.Listing.{listed_of}
use Rattle.fish_rule.specs.Passes.{IsPassOf, view}
use Rattle.fish_epoch.specs.Rows.{OnlyLearns}
use Rattle.fish_epoch.proofs.rows.first_rows.Given as goal

abbrev pub invariant-loop-id : goal.invariant-loop-id
invariant-loop-id l = record {
  of : IsPassOf l.log l.pass;
  reads : OnlyLearns (view l.fn.pass) (view l.pass);
  count : l.count ≡ length (view l.fn.pass).about.rows.value;
  rows : l.rows.items ≡ take l.id (map listed_of (view l.fn.pass).about.rows.value);
}
