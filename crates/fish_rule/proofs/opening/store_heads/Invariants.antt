-- The words are those before with the heads so far in their places.
use Rattle.fish_rule.proofs.basics.EmptyWords.{AreHeads}
use Rattle.fish_rule.proofs.opening.store_heads.Given as goal

abbrev pub invariant-loop-bucket : goal.invariant-loop-bucket
invariant-loop-bucket l = AreHeads l.heads l.fn.words l.words l.bucket
