-- The first key entries are linked.
use Rattle.std.proofs.Common.{◌≡◌, length}
use Rattle.fish_flush.proofs.LinkedWords.{HasLinked}
use Rattle.fish_flush.proofs.linking.link.Given as goal

-- the first key entries are linked
abbrev pub invariant-loop-c : goal.invariant-loop-c
invariant-loop-c l = record {
  heads : length l.heads.items ≡ length l.fn.heads.items;
  out : HasLinked l.line l.c l.fn.words l.fn.heads.items l.heads.items l.words;
}
