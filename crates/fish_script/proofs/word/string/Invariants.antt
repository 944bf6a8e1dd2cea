-- What was passed over and the string from there make the whole string.
use Rattle.std.proofs.Common.{◌≡◌, ◌+◌, drop}
use Rattle.std.specs.Prelude.{false}
use Rattle.fish_lang.specs.Token.{string_length}
use Rattle.fish_script.proofs.word.string.Given as goal

abbrev pub invariant-loop-i : goal.invariant-loop-i
invariant-loop-i l = string_length false l.b ≡ l.i + string_length l.odd (drop l.i l.b)
