-- What was passed over is blank.
use Rattle.std.proofs.Common.{◌≡◌, drop}
use Rattle.fish_script.specs.Words.{unblank}
use Rattle.fish_script.proofs.word.blanks.Given as goal

abbrev pub invariant-loop-i : goal.invariant-loop-i
invariant-loop-i l = unblank (drop l.i l.b) ≡ unblank l.b
