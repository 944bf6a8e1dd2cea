-- As many loads as turns.
use Rattle.std.proofs.Common.{◌≡◌, ◌+◌}
use Rattle.fish_cold.proofs.decoding.count_words.Given as goal

abbrev pub invariant-loop : goal.invariant-loop
invariant-loop g l = l.loads ≡ l.fn.loads + l.counter
