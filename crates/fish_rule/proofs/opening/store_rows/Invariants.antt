-- The words are those of the start with the rows so far in their places.
use Rattle.fish_rule.proofs.basics.EmptyWords.{AreStored}
use Rattle.fish_rule.proofs.opening.store_rows.Given as goal

abbrev pub invariant-loop-id : goal.invariant-loop-id
invariant-loop-id l = AreStored l.rows l.fn.words l.words l.id
