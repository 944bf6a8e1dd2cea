-- Which slot counts, by what was read of an image.
use Rattle.std.proofs.Common.{◌≡◌, ℕ, zero, suc, ◌-◌, ◌≤◌, ◌⊎◌, inl, inr, List, Bool, refl, ap, sym, subst, ◌∙◌, arith}
use Rattle.std.specs.Prelude.{◌↔◌, Option, Some, None, IfSome, IsTrue}
use Rattle.fish_catalog.specs.declared.commit.Commit.{Commit}
use Rattle.fish_disk.specs.Content.{StillReads}
use Rattle.fish_disk.proofs.Regions.{told_at}
use Rattle.fish_image.specs.Reading.{IsBodyOf}
use Rattle.fish_slots.proofs.Commits.{one_commit}
use Rattle.fish_slots.specs.Commits.{SlotCounts, HasCommit, next_turn, turn_of}
use Rattle.fish_slots.specs.Slots.{IsOpen, body_in_slot, line_count, lines_in_slot}
use Rattle.fish_recover.specs.within.Choosing.{IsBodyCause, IsChosen, IsNewer, IsSlotCause}
use Rattle.fish_recover.specs.declared.refusal.OpenRefusal.{OpenRefusal}
use Rattle.fish_recover.specs.declared.refusal.OpenRefusal.TheVariants.{Damaged, DiskFault, NotAStore, OutOfMemory, ShapeDiffers}

-- a disk reads as itself
pub still_same : (a : Option (List ℕ)) → StillReads a a
still_same None = tt
still_same (Some x) = refl

-- a disk that still reads as one that still reads as a first reads as that
pub still_then : (a b c : Option (List ℕ)) → StillReads a b → StillReads b c → StillReads a c
still_then a b None first second = tt
still_then a b (Some x) first second = told_at (λ d. a ≡ Some d) b x second first

-- a slot that counts has the image's commit
abbrev pub newer_commit : (slot : ℕ) (c : List ℕ) → slot ≤ 1 → IsNewer slot c
    → HasCommit (body_in_slot slot c) (lines_in_slot (line_count (body_in_slot slot c)) c) c
newer_commit slot c slot_le h = record {
  slot = slot;
  slot_is = slot_le;
  counts = record { gate = h.gate; body_is = refl; lines_are = refl; newer = h.turn };
}

-- of two open slots, one whose turn is the one after the other's counts
pub turn_newer : (x : Option (List ℕ)) (slot turn other : ℕ) → IfSome x (IsOpen slot)
    → IfSome x (λ c. turn ≡ turn_of (body_in_slot slot c)) → IfSome x (λ c. other ≡ turn_of (body_in_slot (1 - slot) c))
    → turn ≡ next_turn other → IfSome x (IsNewer slot)
turn_newer None slot turn other gate this that is = tt
turn_newer (Some c) slot turn other gate this that is =
    record { gate = gate; turn = λ opened. sym this ∙ is ∙ ap next_turn that }

-- neither turn is the one after the other
module _ (c : List ℕ) (first second : ℕ) (one : IsOpen 0 c) (two : IsOpen 1 c) (this : first ≡ turn_of (body_in_slot 0 c))
    (that : second ≡ turn_of (body_in_slot 1 c)) (after : second ≡ next_turn first → ⊥) (before : first ≡ next_turn second → ⊥) where
  none_counts : (slot : ℕ) (body lines : List ℕ) → slot ≤ 1 → SlotCounts slot body lines c → ⊥
  none_counts zero body lines le h =
      before (this ∙ ap turn_of h.body_is ∙ h.newer two ∙ ap next_turn (sym that))
  none_counts (suc zero) body lines le h =
      after (that ∙ ap turn_of h.body_is ∙ h.newer one ∙ ap next_turn (sym this))
  none_counts (suc (suc slot)) body lines le h = absurd (omega arith)

  none_newer : IsSlotCause c (Damaged 0)
  none_newer =
      (refl, record { some = inl one; none = λ body lines commit has told. none_counts has.slot body lines has.slot_is has.counts })

-- so no slot counts
pub neither : (x : Option (List ℕ)) (first second : ℕ) → IfSome x (IsOpen 0) → IfSome x (IsOpen 1)
    → IfSome x (λ c. first ≡ turn_of (body_in_slot 0 c)) → IfSome x (λ c. second ≡ turn_of (body_in_slot 1 c))
    → (second ≡ next_turn first → ⊥) → (first ≡ next_turn second → ⊥) → IfSome x (λ c. IsSlotCause c (Damaged 0))
neither None first second one two this that after before = tt
neither (Some c) first second one two this that after before = none_newer c first second one two this that after before

-- a slot that counts is open
open_slot : (slot : ℕ) (c : List ℕ) → slot ≤ 1 → IsNewer slot c → IsOpen 0 c ⊎ IsOpen 1 c
open_slot zero c le h = inl h.gate
open_slot (suc zero) c le h = inr h.gate
open_slot (suc (suc slot)) c le h = absurd (omega arith)

-- why its body tells no commit is why no slot is taken
slot_cause : (slot : ℕ) (c : List ℕ) (e : OpenRefusal) → slot ≤ 1 → IsNewer slot c → IsBodyCause (body_in_slot slot c) e → IsSlotCause c e
slot_cause slot c NotAStore le h cause = absurd cause
slot_cause slot c (Damaged n) le h cause = (
  cause.0,
  record {
    some = open_slot slot c le h;
    none = λ body lines commit has told.
        let same = one_commit body lines _ _ c has (newer_commit slot c le h) in
        cause.1 commit (subst (IsBodyOf commit) same.0 told);
  },
)
slot_cause slot c (ShapeDiffers kept asked) le h cause = absurd cause
slot_cause slot c DiskFault le h cause = tt
slot_cause slot c OutOfMemory le h cause = tt

pub body_cause : (x : Option (List ℕ)) (slot : ℕ) (e : OpenRefusal) → slot ≤ 1 → IfSome x (IsNewer slot)
    → IfSome x (λ c. IsBodyCause (body_in_slot slot c) e) → IfSome x (λ c. IsSlotCause c e)
body_cause None slot e le h cause = tt
body_cause (Some c) slot e le h cause = slot_cause slot c e le h cause

-- whether both gates are open is whether the other one is
older_gate : (slot : ℕ) (c : List ℕ) (first second both : Bool) → slot ≤ 1 → IsOpen slot c → (IsTrue first ↔ IsOpen 0 c)
    → (IsTrue second ↔ IsOpen 1 c) → (IsTrue both ↔ (IsTrue first × IsTrue second)) → (IsTrue both ↔ IsOpen (1 - slot) c)
older_gate zero c first second both le gate one two is =
    ((λ h. two.0 (is.0 h).1), (λ opened. is.1 (one.1 gate, two.1 opened)))
older_gate (suc zero) c first second both le gate one two is =
    ((λ h. one.0 (is.0 h).0), (λ opened. is.1 (one.1 opened, two.1 gate)))
older_gate (suc (suc slot)) c first second both le gate one two is = absurd (omega arith)

-- the slot that counts, with its commit
pub chosen : (x : Option (List ℕ)) (slot : ℕ) (first second both : Bool) (commit : Commit) → slot ≤ 1
    → IfSome x (λ c. IsTrue first ↔ IsOpen 0 c) → IfSome x (λ c. IsTrue second ↔ IsOpen 1 c)
    → (IsTrue both ↔ (IsTrue first × IsTrue second)) → IfSome x (IsNewer slot) → IfSome x (λ c. IsBodyOf commit (body_in_slot slot c))
    → IfSome x (λ c. IsChosen c slot both commit)
chosen None slot first second both commit le one two is newer told = tt
chosen (Some c) slot first second both commit le one two is newer told = record {
  slot_is = le;
  newer = newer;
  told = told;
  older = older_gate slot c first second both le newer.gate one two is;
}
