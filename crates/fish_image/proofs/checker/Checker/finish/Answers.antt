-- What broke is damaged, and so is what stopped before all entries or lines.
use Rattle.std.proofs.Common.{◌≡◌, refl, ℕ, List, Option, Some, None, arith, sym, subst, ◌∙◌}
use Rattle.fish_catalog.specs.declared.commit.Commit.{Commit}
use Rattle.fish_image.specs.Checking.{Seen}
use Rattle.fish_image.specs.Log.{Agrees, IsDamaged}
use Rattle.fish_image.specs.Steps.{StopsReading}
use Rattle.fish_image.specs.declared.progress.Progress.{Progress}
use Rattle.fish_image.proofs.Pieces.{breaks_damaged}
use Rattle.fish_image.proofs.checker.Checker.finish.Goals as goal

pub returns-in-Some-clause-damaged : goal.returns-in-Some-clause-damaged
returns-in-Some-clause-damaged c k w h =
    breaks_damaged k w c.in-Some.number
    (subst (λ (o : Option ℕ). Seen o k w c.args.self.left.items c.args.self.at) c.in-Some.is h.seen)

-- what is not broken stopped
stopped : (o : Option ℕ) (c : Commit) (w left : List ℕ) (at : Progress)
    → ((n : ℕ) → o ≡ Some n → ⊥) → Seen o c w left at → StopsReading c w left at
stopped (Some n) c w left at not h = absurd (not n refl)
stopped None c w left at not h = h

-- where not all entries and lines were read
not_whole : (c : Commit) (w left : List ℕ) (at : Progress) → StopsReading c w left at → (at.number ≡ c.count → at.line ≡ c.lines → ⊥)
    → IsDamaged c w at.number
not_whole c w left at h not =
    let number = h.come.is_at.number in
    let few = h.come.few in
    record {
      end = h.end;
      agrees = subst (λ (n : ℕ). Agrees c w n h.end) (sym number) h.come.agrees;
      few = omega arith;
      last = λ less. h.none (omega arith);
      lines = λ all line. not all (h.come.is_at.line ∙ line);
    }

pub returns-then-not-is_whole-clause-damaged : goal.returns-then-not-is_whole-clause-damaged
returns-then-not-is_whole-clause-damaged c k w h =
    let self = c.args.self in
    not_whole k w self.left.items self.at (stopped self.damaged k w self.left.items self.at c.in_default.not-Some h.seen)
    (λ number line. absurd (cc (c.is_whole.ensures.1 (number ∙ sym h.terms.count, line ∙ sym h.terms.lines), c.if-not-is_whole.true)))
