-- The words so far are the region's header and those after it.
use Rattle.std.proofs.Common.{◌≡◌, length}
use Rattle.fish_rule.specs.Logs.{Extends}
use Rattle.fish_rule.specs.Passes.{IsPassOf, view}
use Rattle.fish_flush.proofs.LoadedWords.{AreLoaded}
use Rattle.fish_flush.proofs.loading.load_region.Given as goal

-- the words so far are the region's header and those after it
abbrev pub invariant-loop-offset : goal.invariant-loop-offset
invariant-loop-offset l = record {
  of : IsPassOf l.log l.pass;
  extends : Extends (view l.fn.pass) (view l.pass);
  size : length l.words ≡ length l.fn.words;
  loaded : AreLoaded (view l.pass) l.line l.header l.offset l.words;
}

-- so they are after the key entries
abbrev pub invariant-loop-offset-2 : goal.invariant-loop-offset-2
invariant-loop-offset-2 l = record {
  of : IsPassOf l.log l.pass;
  extends : Extends (view l.fn.pass) (view l.pass);
  size : length l.words ≡ length l.fn.words;
  loaded : AreLoaded (view l.pass) l.line l.header l.offset l.words;
}
