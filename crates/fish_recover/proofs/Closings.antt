-- What the closing of the other gate leaves of an image, and what zero bytes after its end leave.
use Rattle.std.proofs.Common.{◌≡◌, ℕ, zero, suc, ◌+◌, ◌-◌, ◌*◌, ◌<◌, ◌≤◌, ◌⊎◌, inl, inr, List, Bool, length, take, drop}
use Rattle.std.proofs.Common.{refl, ap, sym, ◌∙◌, arith, length-drop}
use Rattle.std.proofs.lemmas.List.{length-take}
use Rattle.std.specs.Prelude.{Option, Some, None, IfSome, IsSome, IsTrue}
use Rattle.fish_disk.specs.Content.{StillReads, part}
use Rattle.fish_disk.proofs.Moments.{leaves_more, leaves_then}
use Rattle.fish_disk.specs.Crash.{LeavesOnly, Torn, TornFrom}
use Rattle.fish_disk.proofs.Regions.{still_told, told_at, torn_apart}
use Rattle.fish_slots.specs.Commits.{SlotCounts, HasCommit, SlotRests, next_turn, turn_of}
use Rattle.fish_slots.specs.Offsets.{body_at, body_bytes, gate_at, lines_at}
use Rattle.fish_slots.specs.Slots.{IsOpen, body_in_slot, line_count, lines_in_slot}
use Rattle.fish_recover.specs.within.Resting.{AreAtRest, AreStored, AreWhole}

-- ---- lengths

-- a part that is whole ends within the bytes
pub part_long : (at n : ℕ) (c : List ℕ) → length (part at n c) ≡ n → 0 < n → at + n ≤ length c
part_long at n c size some =
    let taken = length-take n (drop at c) in
    let left = length-drop at c in
    omega arith

-- a slot with a whole body
pub body_long : (slot : ℕ) (b c : List ℕ) → length b ≡ body_bytes → body_in_slot slot c ≡ b → body_at slot + body_bytes ≤ length c
body_long slot b c size is =
    let same : length (part (body_at slot) body_bytes c) ≡ body_bytes = ap (λ (l : List ℕ). length l) is ∙ size in
    part_long (body_at slot) body_bytes c same (omega arith)

-- lines that are whole, where there is a place for lines
pub lines_long : (slot : ℕ) (b w c : List ℕ) → AreWhole b w → SlotRests slot b w c → lines_at ≤ length c
    → lines_at + 32 * line_count b ≤ length c
lines_long slot b w c whole h long =
    let taken = length-take (32 * line_count b) (drop lines_at c) in
    let left = length-drop lines_at c in
    let is = ap (λ (l : List ℕ). length l) h.lines_are in
    let size = whole.lines_size in
    omega arith

-- and where there is none, they are none
no_lines : (slot : ℕ) (b w c : List ℕ) → AreWhole b w → SlotRests slot b w c → length c ≤ lines_at → 32 * line_count b ≡ 0
no_lines slot b w c whole h short =
    let taken = length-take (32 * line_count b) (drop lines_at c) in
    let left = length-drop lines_at c in
    let is = ap (λ (l : List ℕ). length l) h.lines_are in
    let size = whole.lines_size in
    omega arith

-- ---- the other gate

-- the gates of the two slots lie apart
gates_apart : (slot : ℕ) → slot ≤ 1 → (gate_at slot + 1 ≤ gate_at (1 - slot)) ⊎ (gate_at (1 - slot) + 1 ≤ gate_at slot)
gates_apart zero le = inl (omega arith)
gates_apart (suc zero) le = inr (omega arith)
gates_apart (suc (suc slot)) le = absurd (omega arith)

module _ (slot : ℕ) (b w d c : List ℕ) (le : slot ≤ 1) (torn : Torn (gate_at (1 - slot)) 1 d c) (h : SlotCounts slot b w d) where
  gate : IsOpen slot c
  gate = torn_apart (gate_at (1 - slot)) 1 (gate_at slot) 1 d c torn (gates_apart slot le) ∙ h.gate

  body : body_in_slot slot c ≡ b
  body = torn_apart (gate_at (1 - slot)) 1 (body_at slot) body_bytes d c torn (inr (omega arith)) ∙ h.body_is

  lines : lines_in_slot (line_count b) c ≡ w
  lines = torn_apart (gate_at (1 - slot)) 1 lines_at (32 * line_count b) d c torn (inr (omega arith)) ∙ h.lines_are

  -- whatever is left of the other gate, which was open, the slot counts
  pub closing_counts : IsOpen (1 - slot) d → SlotCounts slot b w c
  closing_counts was = record {
    gate = gate;
    body_is = body;
    lines_are = lines;
    newer = λ opened. h.newer was
        ∙ ap (λ (l : List ℕ). next_turn (turn_of l))
        (sym (torn_apart (gate_at (1 - slot)) 1 (body_at (1 - slot)) body_bytes d c torn (inr (omega arith))));
  }

  -- once it is closed, the slot alone is open
  pub closing_rests : (IsOpen (1 - slot) c → ⊥) → SlotRests slot b w c
  closing_rests closed = record { gate = gate; closed = closed; body_is = body; lines_are = lines }

module _ (old : List ℕ → Type 0) (slot : ℕ) (both : Bool) (le : slot ≤ 1) (b w : List ℕ) (h : AreStored old slot both b w) where
  -- the file goes on after the other gate
  pub gate_within : (x : Option (List ℕ)) → ((i : List ℕ) → x ≡ Some i → old i) → IfSome x (λ i. gate_at (1 - slot) ≤ length i)
  gate_within None read = tt
  gate_within (Some i) read =
      let long = body_long slot b i h.whole.body_size (h.counts i (read i refl)).body_is in
      omega arith

  -- an image has the commit
  pub stored_commit : (i : List ℕ) → old i → HasCommit b w i
  stored_commit i here = record { slot = slot; slot_is = le; counts = h.counts i here }

  -- where both gates are open, so has what the closing of one leaves
  pub closing_commit : IsTrue both → (i : List ℕ) → TornFrom old (gate_at (1 - slot)) 1 i → HasCommit b w i
  closing_commit is i from = record {
    slot = slot;
    slot_is = le;
    counts = closing_counts slot b w from.0 i le from.2 (h.counts from.0 from.1) ((h.other from.0 from.1).0 is);
  }

  -- and once it is closed all are at rest
  pub closed_rest : (new : List ℕ → Type 0) → ((i : List ℕ) → new i → TornFrom old (gate_at (1 - slot)) 1 i)
      → ((i : List ℕ) → new i → IsOpen (1 - slot) i → ⊥)
      → AreAtRest new slot b w
  closed_rest new torn closed = record {
    whole = h.whole;
    rests = λ i here.
        let from = torn i here in
        closing_rests slot b w from.0 i le from.2 (h.counts from.0 from.1) (closed i here);
  }

  -- where one alone is open, they are at rest
  pub alone_rest : (IsTrue both → ⊥) → AreAtRest old slot b w
  alone_rest not = record {
    whole = h.whole;
    rests = λ i here.
        let c = h.counts i here in
        record {
          gate = c.gate;
          closed = λ opened. not ((h.other i here).1 opened);
          body_is = c.body_is;
          lines_are = c.lines_are;
        };
  }

-- ---- the file's end

-- bytes after the end of a file that has no place for lines leave what a slot is that alone is open
pub filled_rests : (slot at n : ℕ) (b w d c : List ℕ) → slot ≤ 1 → AreWhole b w → at ≡ length d → at ≤ lines_at → Torn at n d c
    → SlotRests slot b w d → SlotRests slot b w c
filled_rests slot at n b w d c le whole is short torn h =
    let long = body_long slot b d whole.body_size h.body_is in
    let none = no_lines slot b w d whole h (omega arith) in
    let other = torn_apart at n (gate_at (1 - slot)) 1 d c torn (inl (omega arith)) in
    record {
      gate = torn_apart at n (gate_at slot) 1 d c torn (inl (omega arith)) ∙ h.gate;
      closed = λ opened. h.closed (sym other ∙ opened);
      body_is = torn_apart at n (body_at slot) body_bytes d c torn (inl (omega arith)) ∙ h.body_is;
      lines_are = ap (λ (k : ℕ). take k (drop lines_at c)) none ∙ sym (ap (λ (k : ℕ). take k (drop lines_at d)) none) ∙ h.lines_are;
    }

-- an image of a disk whose length was asked is so long
pub image_long : (x y : Option (List ℕ)) (n : ℕ) (i : List ℕ) → StillReads x y → IfSome y (λ c. n ≡ length c) → IsSome y → x ≡ Some i
    → n ≡ length i
image_long x y n i still size some is = told_at (λ c. n ≡ length c) y i (still_told x y i still some is) size

-- images that were at rest are
pub fewer_rest : (old new : List ℕ → Type 0) (slot : ℕ) (b w : List ℕ) → ((i : List ℕ) → new i → old i) → AreAtRest old slot b w
    → AreAtRest new slot b w
fewer_rest old new slot b w fewer h = record { whole = h.whole; rests = λ i here. h.rests i (fewer i here) }

-- so are those that bytes after the file's end leave
fill_torn : (old mid : List ℕ → Type 0) (slot at n : ℕ) (b w : List ℕ) → slot ≤ 1 → at ≤ lines_at
    → ((i : List ℕ) → mid i → old i) → ((i : List ℕ) → mid i → at ≡ length i) → AreAtRest old slot b w
    → (i : List ℕ) → TornFrom mid at n i → SlotRests slot b w i
fill_torn old mid slot at n b w le short fewer size h i from =
    filled_rests slot at n b w from.0 i le h.whole (size from.0 from.1) short from.2 (h.rests from.0 (fewer from.0 from.1))

-- so a length that is asked and bytes after the file's end leave only that
pub fill_leaves : {D : Type 0} (images : D → List ℕ → Type 0) (since : D → ℕ → List ℕ → Type 0) (moment : D → ℕ) (old mid new : D)
    (slot at n : ℕ) (b w : List ℕ) → slot ≤ 1 → at ≤ lines_at → ((i : List ℕ) → images mid i → at ≡ length i)
    → AreAtRest (images old) slot b w → LeavesOnly images since moment old mid (images old)
    → LeavesOnly images since moment mid new (TornFrom (images mid) at n) → LeavesOnly images since moment old new (SlotRests slot b w)
fill_leaves images since moment old mid new slot at n b w le short size h reads writes =
    leaves_then images since moment old mid new (SlotRests slot b w)
    (leaves_more images since moment old mid (images old) (SlotRests slot b w) h.rests reads)
    (leaves_more images since moment mid new (TornFrom (images mid) at n) (SlotRests slot b w)
    (fill_torn (images old) (images mid) slot at n b w le short reads.now size h) writes)
