-- The words so far come after the others.
use Rattle.std.proofs.Common.{◌≡◌, ◌++◌, take}
use Rattle.std.specs.List.{flat_map}
use Rattle.fish_image.specs.Slot.{word}
use Rattle.fish_image.proofs.slot.push_words.Given as goal

-- the words so far come after the others
abbrev pub invariant-loop-n : goal.invariant-loop-n
invariant-loop-n l = l.body ≡ l.fn.body ++ flat_map word (take l.n-index l.words)
