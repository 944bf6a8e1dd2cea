-- What the steps of a commit leave of slots and gates, over plain lists of bytes.
use Rattle.std.proofs.Common.{◌≡◌, ℕ, zero, suc, ◌+◌, ◌*◌, ◌≤◌, ◌⊎◌, ⊎_elim, inl, inr, List, [], ◌∷◌}
use Rattle.std.proofs.Common.{get_or, refl, ap, sym, ◌∙◌, subst, arith}
use Rattle.std.specs.Prelude.{Option, Some, Result, Ok, Err, OnOk, unwrap_or}
use Rattle.fish_disk.specs.Content.{part}
use Rattle.fish_disk.specs.Crash.{LeavesOnly, Torn, TornFrom}
use Rattle.fish_disk.proofs.Moments.{leaves_each}
use Rattle.fish_disk.proofs.Regions.{torn_apart, torn_same}
use Rattle.fish_slots.specs.Offsets.{body_at, body_bytes, gate_at, lines_at}
use Rattle.fish_slots.specs.Slots.{GatesAreSynced, IsOpen, SameSlot, body_in_slot, line_count}

-- what holds anyway holds where a call succeeds
pub on_ok : {T E P : Type 0} (r : Result T E) → P → OnOk r P
on_ok (Ok x) p = p
on_ok (Err e) p = tt

-- all that a crash since the start of a write left is what the write may leave of an image
pub torn_since : {D : Type 0} (images : D → List ℕ → Type 0) (since : D → ℕ → List ℕ → Type 0) (moment : D → ℕ)
    (old new : D) (at n : ℕ) →
    ((c : List ℕ) → since old (moment old) c → images old c)
    → LeavesOnly images since moment old new (TornFrom (images old) at n)
    → (c : List ℕ) → since new (moment old) c → TornFrom (images old) at n c
torn_since images since moment old new at n only leaves =
    leaves_each images since moment old new (TornFrom (images old) at n) only
    (λ c image. (c, image, torn_same at n c)) leaves

-- where every image is what is read, all images agree on a slot
pub one_slot : (content : Option (List ℕ)) (images : List ℕ → Type 0) →
    ((c : List ℕ) → images c → content ≡ Some c)
    → (slot : ℕ) (c d : List ℕ) → images c → images d → SameSlot slot c d
one_slot content images synced slot c d one other =
    let same : c ≡ d = ap (λ told. unwrap_or told c) (sym (synced c one) ∙ synced d other) in
    subst (λ e. SameSlot slot c e) same (refl, refl)

-- so their gates can be relied on
pub one_gates : (content : Option (List ℕ)) (images : List ℕ → Type 0) →
    ((c : List ℕ) → images c → content ≡ Some c) → GatesAreSynced images images
one_gates content images synced slot c d slot_le one other opened =
    one_slot content images synced slot c d one other

-- of two slots, either both are one or they are both there are
same_or_other : (t s : ℕ) → t ≤ 1 → s ≤ 1 → (t ≡ s) ⊎ (t + s ≡ 1)
same_or_other zero zero t_le s_le = inl refl
same_or_other zero (suc s) t_le s_le = inr (omega (arith, s_le))
same_or_other (suc t) zero t_le s_le = inr (omega (arith, t_le))
same_or_other (suc t) (suc s) t_le s_le = inl (omega (arith, t_le, s_le))

-- an open gate isn't closed
pub not_open : (slot : ℕ) (c : List ℕ) → part (gate_at slot) 1 c ≡ 0 ∷ [] → IsOpen slot c → ⊥
not_open slot c closed opened =
    let same : 0 ≡ 1 = ap (λ l. get_or l 0 0) (sym closed ∙ opened) in
    omega (arith, same)

-- a write that doesn't meet the slot's body nor the lines leaves what the slot stands for
same_slot : (slot at n : ℕ) (c d e : List ℕ) → Torn at n e c →
    (body_at slot + body_bytes ≤ at) ⊎ (at + n ≤ body_at slot) → at + n ≤ lines_at
    → SameSlot slot e d → SameSlot slot c d
same_slot slot at n c d e torn apart before same =
    let count = line_count (body_in_slot slot d) in (
      torn_apart at n (body_at slot) body_bytes e c torn apart ∙ same.0,
      torn_apart at n lines_at (32 * count) e c torn (inr before) ∙ same.1,
    )

-- the parts of one slot lie before those of the other or after them
body_apart : (t s : ℕ) → t + s ≡ 1 → (body_at t + body_bytes ≤ body_at s) ⊎ (body_at s + body_bytes ≤ body_at t)
body_apart zero s other = inl (omega (arith, other))
body_apart (suc t) s other = inr (omega (arith, other))

gate_apart : (t s : ℕ) → t + s ≡ 1 → (gate_at t + 1 ≤ gate_at s) ⊎ (gate_at s + 1 ≤ gate_at t)
gate_apart zero s other = inl (omega (arith, other))
gate_apart (suc t) s other = inr (omega (arith, other))

module _ (images left : List ℕ → Type 0) (s : ℕ) (s_le : s ≤ 1) (synced : GatesAreSynced images images) where
  -- a body that is written while its gate is closed
  pub sealed_gates : ((c : List ℕ) → images c → IsOpen s c → ⊥) →
      ((c : List ℕ) → left c → TornFrom images (body_at s) body_bytes c) → GatesAreSynced left images
  sealed_gates closed torn slot c d slot_le here image opened =
      let from = torn c here in
      let e = from.0 in
      let gate : part (gate_at slot) 1 c ≡ part (gate_at slot) 1 e =
      torn_apart (body_at s) body_bytes (gate_at slot) 1 e c from.2 (inl (omega (arith, slot_le))) in
      let opened_e : IsOpen slot e = sym gate ∙ opened in
      ⊎_elim
      (λ same. absurd (closed e from.1 (subst (λ k. IsOpen k e) same opened_e)))
      (λ other.
      same_slot slot (body_at s) body_bytes c d e from.2
      (body_apart slot s other) (omega (arith, s_le)) (synced slot e d slot_le from.1 image opened_e))
      (same_or_other slot s slot_le s_le)

  -- a gate that is written where all images agree on its slot
  pub written_gates : ((c d : List ℕ) → images c → images d → SameSlot s c d) →
      ((c : List ℕ) → left c → TornFrom images (gate_at s) 1 c) → GatesAreSynced left images
  written_gates agree torn slot c d slot_le here image opened =
      let from = torn c here in
      let e = from.0 in
      let keeps : SameSlot slot e d → SameSlot slot c d =
      same_slot slot (gate_at s) 1 c d e from.2 (inr (omega (arith, s_le))) (omega (arith, s_le)) in
      ⊎_elim
      (λ same. keeps (subst (λ k. SameSlot k e d) (sym same) (agree e d from.1 image)))
      (λ other.
      let gate = torn_apart (gate_at s) 1 (gate_at slot) 1 e c from.2 (gate_apart slot s other) in
      keeps (synced slot e d slot_le from.1 image (sym gate ∙ opened)))
      (same_or_other slot s slot_le s_le)

-- a gate that is written leaves the other one as it was
pub other_gate : (t s : ℕ) (images : List ℕ → Type 0) (c : List ℕ) → t + s ≡ 1 →
    ((d : List ℕ) → images d → IsOpen t d) → TornFrom images (gate_at s) 1 c → IsOpen t c
other_gate t s images c other opened from =
    torn_apart (gate_at s) 1 (gate_at t) 1 from.0 c from.2 (gate_apart t s other) ∙ opened from.0 from.1
