-- The words so far are those from the first on, each of which is known, after the ones of before.
use Rattle.std.proofs.Common.{◌≡◌, ◌+◌, ◌-◌}
use Rattle.std.specs.Vec.{vec_capacity}
use Rattle.fish_rule.proofs.basics.RegionWords.{AreMore}
use Rattle.fish_rule.specs.Logs.{Extends}
use Rattle.fish_rule.specs.Passes.{IsPassOf, view}
use Rattle.fish_rule.proofs.entry.read_rest.Given as goal

abbrev pub invariant-loop-offset : goal.invariant-loop-offset
invariant-loop-offset l = record {
  of : IsPassOf l.log l.pass;
  extends : Extends (view l.fn.pass) (view l.pass);
  room : vec_capacity l.words ≡ vec_capacity l.fn.words;
  more : AreMore (view l.pass) l.line l.from (l.offset - l.from) l.fn.words.items l.words.items;
  counted : (view l.pass).clock.loads ≡ (view l.fn.pass).clock.loads + (l.offset - l.from);
}
