-- The entries so far have the other number, and all other words stay.
use Rattle.std.proofs.Common.{◌≡◌, ℕ, length, get_or}
use Rattle.fish_layout.specs.within.Cleared.{IsNumberWord}
use Rattle.fish_layout.specs.within.Entry.{renumbered}
use Rattle.fish_layout.proofs.body.renumber_keys.Given as goal

abbrev pub invariant-loop-position : goal.invariant-loop-position
invariant-loop-position l =
    record {
      len : length l.words.items ≡ length l.fn.words.items;
      others : (i : ℕ) → ¬ (IsNumberWord l.position i) → get_or l.words.items i 0 ≡ get_or l.fn.words.items i 0;
      entries : (i : ℕ) → IsNumberWord l.position i →
          get_or l.words.items i 0 ≡ renumbered (get_or l.fn.words.items i 0) l.number;
    }
