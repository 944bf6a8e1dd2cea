-- An image has one commit.
use Rattle.std.proofs.Common.{◌≡◌, ℕ, zero, suc, ◌+◌, ◌-◌, ◌%◌, ◌≤◌, List, ap, sym, subst, ◌∙◌, arith}
use Rattle.fish_slots.specs.Commits.{SlotCounts, HasCommit, SlotRests, next_turn, turn_of}
use Rattle.fish_slots.specs.Slots.{IsOpen, body_in_slot, line_count, lines_in_slot}

-- where one slot alone is open, it counts
pub rests_commit : (slot : ℕ) (body lines image : List ℕ) → slot ≤ 1 → SlotRests slot body lines image → HasCommit body lines image
rests_commit slot body lines image slot_le h = record {
  slot = slot;
  slot_is = slot_le;
  counts = record { gate = h.gate; body_is = h.body_is; lines_are = h.lines_are; newer = λ opened. absurd (h.closed opened) };
}

-- no turn comes after the turn that comes after it
pub turns_apart : (t u : ℕ) → t ≡ next_turn u → u ≡ next_turn t → ⊥
unfolding next_turn
turns_apart t u first second = omega arith

-- two slots don't both count
both_count : (b w d v c : List ℕ) → SlotCounts 0 b w c → SlotCounts 1 d v c → ⊥
both_count b w d v c first second =
    turns_apart (turn_of b) (turn_of d) (first.newer second.gate ∙ ap (λ l. next_turn (turn_of l)) second.body_is)
    (second.newer first.gate ∙ ap (λ l. next_turn (turn_of l)) first.body_is)

-- a slot that counts does so with one body and its lines
one_counts : (slot : ℕ) (b w d v c : List ℕ) → SlotCounts slot b w c → SlotCounts slot d v c → (b ≡ d) × (w ≡ v)
one_counts slot b w d v c first second =
    let same : b ≡ d = sym first.body_is ∙ second.body_is in
    (same, sym first.lines_are ∙ ap (λ l. lines_in_slot (line_count l) c) same ∙ second.lines_are)

one_of : (s t : ℕ) (b w d v c : List ℕ) → s ≤ 1 → t ≤ 1 → SlotCounts s b w c → SlotCounts t d v c → (b ≡ d) × (w ≡ v)
one_of zero zero b w d v c s_le t_le first second = one_counts 0 b w d v c first second
one_of zero (suc zero) b w d v c s_le t_le first second = absurd (both_count b w d v c first second)
one_of (suc zero) zero b w d v c s_le t_le first second = absurd (both_count d v b w c second first)
one_of (suc zero) (suc zero) b w d v c s_le t_le first second = one_counts 1 b w d v c first second
one_of (suc (suc s)) t b w d v c s_le t_le first second = absurd (omega arith)
one_of s (suc (suc t)) b w d v c s_le t_le first second = absurd (omega arith)

-- an image has one commit
pub one_commit : (b w d v c : List ℕ) → HasCommit b w c → HasCommit d v c → (b ≡ d) × (w ≡ v)
one_commit b w d v c first second =
    one_of first.slot second.slot b w d v c first.slot_is second.slot_is first.counts second.counts
