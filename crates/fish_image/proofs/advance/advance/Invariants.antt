-- The regions so far were read.
use Rattle.std.proofs.Common.{◌≡◌, ℕ, ◌*◌, ◌≤◌, List, drop, length}
use Rattle.fish_catalog.specs.declared.commit.Commit.{Commit}
use Rattle.fish_image.specs.Progress.{IsAt}
use Rattle.fish_image.specs.Reached.{Reached}
use Rattle.fish_image.specs.Steps.{HasCome}
use Rattle.fish_image.specs.Terms.{AreTermsOf}
use Rattle.fish_image.proofs.advance.advance.Given as goal

-- the regions so far were read: of some words by the terms, and of all words that go on so
abbrev pub invariant-loop-number : goal.invariant-loop-number
invariant-loop-number l = record {
  used : l.used ≤ length l.words;
  some : (c : Commit) × (s : Reached) × AreTermsOf c l.terms × IsAt c s l.at × (s.number ≡ l.number);
  all : (c : Commit) (w : List ℕ) (s : Reached) → AreTermsOf c l.terms → HasCome c w s l.fn.at → l.words ≡ drop (4 * s.line) w
      → (t : Reached) × HasCome c w t l.at × (t.number ≡ l.number) × (drop l.used l.words ≡ drop (4 * t.line) w);
}
