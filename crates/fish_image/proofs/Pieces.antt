-- What was seen of words, as more come after them.
use Rattle.std.proofs.Common.{◌≡◌, ℕ, ◌<◌, ◌≤◌, List, [], ◌∷◌, ◌++◌, Option, Some, None, append_assoc, append-nil}
use Rattle.std.proofs.Common.{length, zero, suc, refl, sym, subst, ◌∙◌, arith, slice_get, inl, inr, ◌⊎◌}
use Rattle.fish_catalog.specs.declared.commit.Commit.{Commit}
use Rattle.fish_image.specs.Checking.{Fed, IsChecker, Seen}
use Rattle.fish_image.specs.declared.checker.Checker.{Checker}
use Rattle.fish_image.specs.declared.refusal.ImageRefusal.{ImageRefusal}
use Rattle.fish_image.specs.declared.refusal.ImageRefusal.TheVariants.{Damaged, OutOfMemory}
use Rattle.std.specs.Prelude.{Result, Ok, Err}
use Rattle.fish_image.specs.Log.{Follows, IsDamaged}
use Rattle.fish_image.specs.Reached.{Reached}
use Rattle.fish_image.specs.Steps.{Breaks, HasCome}
use Rattle.fish_image.specs.within.Steps.{LeavesProgress}
use Rattle.fish_image.specs.declared.progress.Progress.{Progress}
use Rattle.fish_image.proofs.Agreement.{agrees_more}

-- what agrees still agrees
pub come_more : (c : Commit) (w more : List ℕ) (s : Reached) (at : Progress) → HasCome c w s at → HasCome c (w ++ more) s at
come_more c w more s at h = record { agrees = agrees_more c w more s.number s h.agrees; few = h.few; is_at = h.is_at }

-- what breaks still breaks
pub breaks_more : (c : Commit) (w more : List ℕ) (n : ℕ) → Breaks c w n → Breaks c (w ++ more) n
breaks_more c w more n h = record {
  end = h.end;
  agrees = agrees_more c w more n h.end h.agrees;
  few = h.few;
  never = λ last m follows.
      h.never (more ++ last) m (subst (λ (l : List ℕ). Follows c l h.end m) (append_assoc w more last) follows);
}

-- after all entries nothing is looked at
pub seen_more : (o : Option ℕ) (c : Commit) (w more left : List ℕ) (at : Progress) → Seen o c w left at → c.count ≤ at.number
    → Seen o c (w ++ more) left at
seen_more (Some n) c w more left at h all = breaks_more c w more n h
seen_more None c w more left at h all =
    let number = h.come.is_at.number in
    record {
      end = h.end;
      come = come_more c w more h.end at h.come;
      left_is = λ less. absurd (omega arith);
      none = λ less. absurd (omega arith);
    }

-- what was read was seen
pub seen_read : (o : Option ℕ) (c : Commit) (w left rest : List ℕ) (at : Progress) → LeavesProgress o c w left at → rest ≡ left
    → Seen o c w rest at
seen_read (Some n) c w left rest at h same = h
seen_read None c w left rest at h same = record {
  end = h.end;
  come = h.come;
  left_is = λ less. same ∙ h.left_is less;
  none = h.none;
}

-- words that break are damaged
pub breaks_damaged : (c : Commit) (w : List ℕ) (n : ℕ) → Breaks c w n → IsDamaged c w n
breaks_damaged c w n h =
    let few = h.few in
    record {
      end = h.end;
      agrees = h.agrees;
      few = omega arith;
      last = λ less m follows. h.never [] m (subst (λ (l : List ℕ). Follows c l h.end m) (sym (append-nil w)) follows);
      lines = λ same. absurd (omega arith);
    }

-- one element more after a list
pub pushed : {A : Type 0} (xs : List A) (x y : A) (k : ℕ) → slice_get (xs ++ x ∷ []) k ≡ Some y
    → ((k < length xs) × (slice_get xs k ≡ Some y)) ⊎ ((k ≡ length xs) × (Some x ≡ Some y))
pushed [] x y zero h = inr (refl, h)
pushed [] x y (suc k) h = absurd cc
pushed (z ∷ xs) x y zero h = inl (omega arith, h)
pushed (z ∷ xs) x y (suc k) h =
    elim (pushed xs x y k h) [
      | inl there ↦ (let less = there.0 in inl (omega arith, there.1))
      | inr here ↦ (let last = here.0 in inr (omega arith, here.1))
    ]

-- whatever a piece comes to, the checker is one still
pub fed_checker : (r : Result (Unit {0}) ImageRefusal) (c : Commit) (w piece : List ℕ) (new : Checker) → Fed r c w piece new → IsChecker new
fed_checker (Ok x) c w piece new h = record { commit = c; words = w ++ piece; seen = h }
fed_checker (Err (Damaged n)) c w piece new h = record { commit = c; words = w ++ piece; seen = h.0 }
fed_checker (Err OutOfMemory) c w piece new h = record { commit = c; words = w; seen = h }
