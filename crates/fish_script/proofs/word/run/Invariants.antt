-- What was passed over and the run from there make the whole run.
use Rattle.std.proofs.Common.{◌≡◌, ◌+◌, drop}
use Rattle.fish_script.specs.Words.{word_length}
use Rattle.fish_script.proofs.word.run.Given as goal

abbrev pub invariant-loop-i : goal.invariant-loop-i
invariant-loop-i l = word_length l.b ≡ l.i + word_length (drop l.i l.b)
