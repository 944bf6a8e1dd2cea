-- The entries so far are the first ones.
use Rattle.std.proofs.Common.{◌≡◌, length, take}
use Rattle.fish_rule.proofs.kept.LogEntries.all.Given as goal

abbrev pub invariant-loop-place : goal.invariant-loop-place
invariant-loop-place l = record {
  upto : l.place-end ≡ length l.self;
  first : l.entries ≡ take l.place l.self;
}
