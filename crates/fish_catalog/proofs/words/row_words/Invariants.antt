-- The words so far are those of the row.
use Rattle.std.proofs.Common.{◌≡◌, ℕ, ◌<◌, get_or}
use Rattle.fish_catalog.specs.Words.{row_word}
use Rattle.fish_catalog.proofs.words.row_words.Given as goal

abbrev pub invariant-loop-position : goal.invariant-loop-position
invariant-loop-position l = (k : ℕ) → k < l.position → get_or l.word-items k 0 ≡ row_word l.row k
