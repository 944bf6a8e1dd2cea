-- The words so far are the header and those after it, after the ones of before; the loads so far are counted, and
-- there is room for the words to come.
use Rattle.std.proofs.Common.{◌≡◌, ◌≤◌, ◌+◌, length}
use Rattle.std.specs.Vec.{vec_capacity}
use Rattle.fish_rule.specs.Logs.{Extends}
use Rattle.fish_rule.specs.Passes.{IsPassOf, view}
use Rattle.fish_rule.proofs.basics.RegionWords.{ArePut}
use Rattle.fish_rule.proofs.entry.read_region.Given as goal

abbrev pub invariant-loop-offset : goal.invariant-loop-offset
invariant-loop-offset l = record {
  of : IsPassOf l.log l.pass;
  extends : Extends (view l.fn.pass) (view l.pass);
  within : l.offset ≤ l.size;
  room : length l.fn.words.items + l.size ≤ vec_capacity l.words;
  counted : (view l.pass).clock.loads ≡ (view l.fn.pass).clock.loads + l.loads;
  few : l.loads ≤ l.offset;
  put : ArePut (view l.pass) l.line l.header l.offset l.fn.words.items l.words.items;
}
