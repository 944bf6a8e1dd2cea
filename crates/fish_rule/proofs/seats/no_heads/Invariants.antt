-- So many heads are there.
use Rattle.std.proofs.Common.{◌≡◌, replicate}
use Rattle.fish_rule.proofs.seats.no_heads.Given as goal

abbrev pub invariant-loop : goal.invariant-loop
invariant-loop l = l.heads ≡ replicate l.counter 0
