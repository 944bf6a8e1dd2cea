-- What was found in an image by the slot that counts.
use Rattle.std.proofs.Common.{◌≡◌, ℕ, List, Bool, inr, refl, sym, subst, arith}
use Rattle.std.specs.Prelude.{Option, Some, None, IfSome}
use Rattle.fish_catalog.specs.declared.commit.Commit.{Commit}
use Rattle.fish_image.proofs.Spelling.{told_word}
use Rattle.fish_image.specs.Checking.{HasChecked}
use Rattle.fish_image.specs.Log.{IsDamaged}
use Rattle.fish_image.specs.Reading.{IsBodyOf}
use Rattle.fish_image.specs.Slot.{number}
use Rattle.fish_slots.specs.Slots.{body_in_slot, line_count, lines_in_slot}
use Rattle.fish_recover.proofs.Slots.{newer_commit}
use Rattle.fish_recover.specs.within.Choosing.{IsChosen}
use Rattle.fish_recover.specs.Opening.{IsImageFound, IsOpenCause, IsOtherShape}
use Rattle.fish_recover.specs.within.Opening.{IsLinesCause, first_words}
use Rattle.fish_recover.specs.declared.finding.Found.{Found}
use Rattle.fish_recover.specs.declared.refusal.Asked.{Asked}
use Rattle.fish_recover.specs.declared.refusal.OpenRefusal.{OpenRefusal}
use Rattle.fish_recover.specs.declared.refusal.OpenRefusal.TheVariants.{Damaged, DiskFault, NotAStore, OutOfMemory, ShapeDiffers}

-- the lines that a body counts are its commit's
pub body_lines : (c : Commit) (b : List ℕ) → IsBodyOf c b → line_count b ≡ c.lines
unfolding line_count number
body_lines c b h = told_word c b h 5 (omega arith)

module _ (i : List ℕ) (asked : Asked) (slot : ℕ) (both : Bool) (commit : Commit) (h : IsChosen i slot both commit) where
  -- its lines stand for no log
  not_log : (e : OpenRefusal) → (IsOtherShape asked commit → ⊥) → IsLinesCause commit (first_words commit.lines i) e
      → IsOpenCause i asked e
  not_log NotAStore shape cause = absurd cause
  not_log (Damaged n) shape cause = inr record {
    body = body_in_slot slot i;
    lines = lines_in_slot (line_count (body_in_slot slot i)) i;
    commit = commit;
    has = newer_commit slot i h.slot_is h.newer;
    told = h.told;
    shape = shape;
    damaged = subst (λ (k : ℕ). IsDamaged commit (first_words k i) n) (sym (body_lines commit (body_in_slot slot i) h.told)) cause;
  }
  not_log (ShapeDiffers kept other) shape cause = absurd cause
  not_log DiskFault shape cause = tt
  not_log OutOfMemory shape cause = tt

-- another shape is asked for
pub held_other : (x : Option (List ℕ)) (asked : Asked) (slot : ℕ) (both : Bool) (commit : Commit)
    → IfSome x (λ i. IsChosen i slot both commit) → IsOtherShape asked commit
    → IfSome x (λ i. IsOpenCause i asked (ShapeDiffers (record { pages = commit.pages; bucket_bits = commit.bucket_bits }) asked))
held_other None asked slot both commit h shape = tt
held_other (Some i) asked slot both commit h shape = (
  record {
    body = body_in_slot slot i;
    lines = lines_in_slot (line_count (body_in_slot slot i)) i;
    commit = commit;
    has = newer_commit slot i h.slot_is h.newer;
    told = h.told;
    shape = shape;
    pages_are = refl;
    bits_are = refl;
  },
  refl,
)

-- the lines stand for no log
pub held_not : (x : Option (List ℕ)) (asked : Asked) (slot : ℕ) (both : Bool) (commit : Commit) (e : OpenRefusal)
    → IfSome x (λ i. IsChosen i slot both commit) → (IsOtherShape asked commit → ⊥)
    → IfSome x (λ i. IsLinesCause commit (first_words commit.lines i) e) → IfSome x (λ i. IsOpenCause i asked e)
held_not None asked slot both commit e h shape cause = tt
held_not (Some i) asked slot both commit e h shape cause = not_log i asked slot both commit h e shape cause

-- the store was found
pub held : (x : Option (List ℕ)) (asked : Asked) (f : Found) → IfSome x (λ i. IsChosen i f.slot f.both f.commit)
    → (IsOtherShape asked f.commit → ⊥) → IfSome x (λ i. HasChecked f.commit (first_words f.commit.lines i) f.checked)
    → IfSome x (λ i. IsImageFound i asked f)
held None asked f h shape checked = tt
held (Some i) asked f h shape checked = record {
  body = body_in_slot f.slot i;
  lines = lines_in_slot (line_count (body_in_slot f.slot i)) i;
  commit = newer_commit f.slot i h.slot_is h.newer;
  slot = refl;
  told = h.told;
  shape = shape;
  checked = subst (λ (k : ℕ). HasChecked f.commit (first_words k i) f.checked)
      (sym (body_lines f.commit (body_in_slot f.slot i) h.told)) checked;
  older = h.older;
}
