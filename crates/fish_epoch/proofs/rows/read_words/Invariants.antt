-- The words so far were read.
use Rattle.std.proofs.Common.{◌≡◌, ◌≤◌, length}
use Rattle.std.specs.Prelude.{slice_index}
use Rattle.fish_rule.specs.Passes.{IsPassOf, view}
use Rattle.fish_epoch.specs.Rows.{OnlyLearns}
use Rattle.fish_epoch.specs.within.Rows.{HasRowWords}
use Rattle.fish_epoch.proofs.rows.read_words.Given as goal

abbrev pub invariant-loop-position : goal.invariant-loop-position
invariant-loop-position l = record {
  of : IsPassOf l.log l.pass;
  reads : OnlyLearns (view l.fn.pass) (view l.pass);
  wide : length l.words ≡ 39;
  within : l.position ≤ 39;
  words : HasRowWords (view l.pass) l.id l.position (slice_index l.words);
}
