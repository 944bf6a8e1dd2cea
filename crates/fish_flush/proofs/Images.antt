-- What the steps of a commit leave of an image, over plain lists of bytes.
use Rattle.std.proofs.Common.{◌≡◌, ℕ, zero, suc, ◌+◌, ◌-◌, ◌*◌, ◌≤◌, ◌⊎◌, inl, inr, List, [], ◌∷◌, ◌++◌}
use Rattle.std.proofs.Common.{length, take, drop}
use Rattle.std.proofs.Common.{refl, ap, sym, ◌∙◌, subst, arith}
use Rattle.std.proofs.Math.Seq.{take-add}
use Rattle.std.proofs.lemmas.List.{drop-drop}
use Rattle.std.proofs.Math.Decide.{ℕ_discrete}
use Rattle.std.specs.Prelude.{Option, Some, IfSome}
use Rattle.fish_disk.specs.Content.{WrittenThrough, part, put_at}
use Rattle.fish_disk.specs.Crash.{Torn, TornFrom}
use Rattle.fish_disk.proofs.Regions.{put_within, told_at, torn_apart}
use Rattle.fish_slots.specs.Commits.{HasCommit, SlotRests, next_turn, turn_of}
use Rattle.fish_slots.specs.Offsets.{body_at, body_bytes, gate_at, lines_at}
use Rattle.fish_slots.specs.Slots.{GatesAreSynced, IsOpen, SameSlot, body_in_slot, line_count, lines_in_slot}
use Rattle.fish_flush.specs.within.Writing.{AreSealed, EitherCommit, Grows, IsPut, IsSealed}

-- ---- apart

-- the two slots' parts lie apart
gates_apart : (s : ℕ) → s ≤ 1 → (gate_at (1 - s) + 1 ≤ gate_at s) ⊎ (gate_at s + 1 ≤ gate_at (1 - s))
gates_apart zero le = inr (omega arith)
gates_apart (suc zero) le = inl (omega arith)
gates_apart (suc (suc s)) le = absurd (omega arith)

-- the bodies of the two slots do not meet
bodies_apart : (s : ℕ) → s ≤ 1 → (body_at (1 - s) + body_bytes ≤ body_at s) ⊎ (body_at s + body_bytes ≤ body_at (1 - s))
bodies_apart zero le = inr (omega arith)
bodies_apart (suc zero) le = inl (omega arith)
bodies_apart (suc (suc s)) le = absurd (omega arith)

-- the other slot of the other slot
pub other_other : (s : ℕ) → s ≤ 1 → 1 - (1 - s) ≡ s
other_other s le = omega arith

-- a part in two
pub part-add : (p n m : ℕ) (c : List ℕ) → part p (n + m) c ≡ part p n c ++ part (p + n) m c
part-add p n m c = take-add n m (drop p c) ∙ ap (λ (l : List ℕ). take n (drop p c) ++ take m l) (drop-drop n p c)

-- ---- torn writes

-- lines that are written after those that a slot counts leave what it is
pub rests_lines : (s line n : ℕ) (b w d c : List ℕ) → s ≤ 1 → line_count b ≤ line → Torn (lines_at + 32 * line) n d c
    → SlotRests s b w d → SlotRests s b w c
rests_lines s line n b w d c le few torn h =
    let at : ℕ = lines_at + 32 * line in
    let own = torn_apart at n (gate_at s) 1 d c torn (inl (omega arith)) in
    let other = torn_apart at n (gate_at (1 - s)) 1 d c torn (inl (omega arith)) in
    let body = torn_apart at n (body_at s) body_bytes d c torn (inl (omega arith)) in
    let lines = torn_apart at n lines_at (32 * line_count b) d c torn (inl (omega arith)) in
    record {
      gate = own ∙ h.gate;
      closed = λ opened. h.closed (sym other ∙ opened);
      body_is = body ∙ h.body_is;
      lines_are = lines ∙ h.lines_are;
    }

-- so does a body that is written into the other slot
pub rests_body : (s : ℕ) (b w d c : List ℕ) → s ≤ 1 → Torn (body_at s) body_bytes d c → SlotRests (1 - s) b w d → SlotRests (1 - s) b w c
rests_body s b w d c le torn h =
    let at : ℕ = body_at s in
    let own = torn_apart at body_bytes (gate_at (1 - s)) 1 d c torn (inl (omega arith)) in
    let other = torn_apart at body_bytes (gate_at (1 - (1 - s))) 1 d c torn (inl (omega arith)) in
    let body = torn_apart at body_bytes (body_at (1 - s)) body_bytes d c torn (bodies_apart s le) in
    let lines = torn_apart at body_bytes lines_at (32 * line_count b) d c torn (inr (omega arith)) in
    record {
      gate = own ∙ h.gate;
      closed = λ opened. h.closed (sym other ∙ opened);
      body_is = body ∙ h.body_is;
      lines_are = lines ∙ h.lines_are;
    }

-- a gate that is written leaves both bodies and all lines
pub sealed_gate : (s : ℕ) (b w e v d c : List ℕ) → s ≤ 1 → Torn (gate_at s) 1 d c → IsSealed s b w e v d → IsSealed s b w e v c
sealed_gate s b w e v d c le torn h =
    let at : ℕ = gate_at s in
    record {
      gate = torn_apart at 1 (gate_at (1 - s)) 1 d c torn (gates_apart s le) ∙ h.gate;
      old_body = torn_apart at 1 (body_at (1 - s)) body_bytes d c torn (inr (omega arith)) ∙ h.old_body;
      old_lines = torn_apart at 1 lines_at (32 * line_count b) d c torn (inr (omega arith)) ∙ h.old_lines;
      new_body = torn_apart at 1 (body_at s) body_bytes d c torn (inr (omega arith)) ∙ h.new_body;
      new_lines = torn_apart at 1 lines_at (32 * line_count e) d c torn (inr (omega arith)) ∙ h.new_lines;
    }

-- ---- gates

-- whether one byte is there and is 1
is_one : (l : List ℕ) → Dec (l ≡ 1 ∷ [])
is_one [] = no (λ e. absurd (cc))
is_one (x ∷ []) = by (ℕ_discrete x 1)
  where
    by : Dec (x ≡ 1) → Dec (x ∷ [] ≡ 1 ∷ [])
    by (yes e) = yes (ap (λ (n : ℕ). n ∷ []) e)
    by (no ne) = no (λ e. ne (cc))
is_one (x ∷ y ∷ l) = no (λ e. absurd (cc))

-- a slot's gate is open or it isn't
pub is_open : (s : ℕ) (c : List ℕ) → Dec (IsOpen s c)
is_open s c = is_one (part (gate_at s) 1 c)

-- ---- commits

-- with its gate open, the slot's body counts
pub sealed_new : (s : ℕ) (b w d v c : List ℕ) → s ≤ 1 → turn_of d ≡ next_turn (turn_of b) → IsSealed s b w d v c → IsOpen s c
    → HasCommit d v c
sealed_new s b w d v c le turn h opened = record {
  slot = s;
  slot_is = le;
  counts = record {
    gate = opened;
    body_is = h.new_body;
    lines_are = h.new_lines;
    newer = λ other. turn ∙ ap (λ (l : List ℕ). next_turn (turn_of l)) (sym h.old_body);
  };
}

-- and with its gate closed, the other's
pub sealed_old : (s : ℕ) (b w d v c : List ℕ) → s ≤ 1 → IsSealed s b w d v c → (IsOpen s c → ⊥) → HasCommit b w c
sealed_old s b w d v c le h closed = record {
  slot = 1 - s;
  slot_is = omega arith;
  counts = record {
    gate = h.gate;
    body_is = h.old_body;
    lines_are = h.old_lines;
    newer = λ opened. absurd (closed (subst (λ (t : ℕ). IsOpen t c) (other_other s le) opened));
  };
}

-- so one of them counts
pub sealed_either : (s : ℕ) (b w d v c : List ℕ) → s ≤ 1 → turn_of d ≡ next_turn (turn_of b) → IsSealed s b w d v c
    → EitherCommit b w d v c
sealed_either s b w d v c le turn h =
    elim (is_open s c) [
      | yes opened ↦ inr (sealed_new s b w d v c le turn h opened)
      | no closed ↦ inl (sealed_old s b w d v c le h closed)
    ]

-- the slots other than s and the other one
slot_cases : (s t : ℕ) → s ≤ 1 → t ≤ 1 → (t ≡ s) ⊎ (t ≡ 1 - s)
slot_cases zero zero s_le t_le = inl refl
slot_cases zero (suc zero) s_le t_le = inr refl
slot_cases (suc zero) zero s_le t_le = inr refl
slot_cases (suc zero) (suc zero) s_le t_le = inl refl
slot_cases (suc (suc s)) t s_le t_le = absurd (omega arith)
slot_cases s (suc (suc t)) s_le t_le = absurd (omega arith)

-- both slots have these bodies and their lines
record HasBoth (s : ℕ) (b w d v c : List ℕ) : Type 0 where
  pub old_body : body_in_slot (1 - s) c ≡ b
  pub old_lines : lines_in_slot (line_count b) c ≡ w
  pub new_body : body_in_slot s c ≡ d
  pub new_lines : lines_in_slot (line_count d) c ≡ v

-- images that agree on both slots have synced gates
both_gates : (images : List ℕ → Type 0) (s : ℕ) (b w d v : List ℕ) → s ≤ 1 → ((c : List ℕ) → images c → HasBoth s b w d v c)
    → GatesAreSynced images images
both_gates images s b w d v le each t c e t_le here there opened =
    let one = each c here in
    let other = each e there in
    elim (slot_cases s t le t_le) [
      | inl same ↦ subst (λ (k : ℕ). SameSlot k c e) (sym same) (
        one.new_body ∙ sym other.new_body,
        subst (λ (l : List ℕ). lines_in_slot (line_count l) c ≡ lines_in_slot (line_count l) e) (sym other.new_body)
            (one.new_lines ∙ sym other.new_lines),
      )
      | inr same ↦ subst (λ (k : ℕ). SameSlot k c e) (sym same) (
        one.old_body ∙ sym other.old_body,
        subst (λ (l : List ℕ). lines_in_slot (line_count l) c ≡ lines_in_slot (line_count l) e) (sym other.old_body)
            (one.old_lines ∙ sym other.old_lines),
      )
    ]

-- so have those that are sealed
pub sealed_gates : (images : List ℕ → Type 0) (s : ℕ) (b w d v : List ℕ) → s ≤ 1 → ((c : List ℕ) → images c → IsSealed s b w d v c)
    → GatesAreSynced images images
sealed_gates images s b w d v le each = both_gates images s b w d v le (λ c here.
    let h = each c here in
    record { old_body = h.old_body; old_lines = h.old_lines; new_body = h.new_body; new_lines = h.new_lines })

-- images in which one slot alone is open, with one body and its lines, have synced gates
pub resting_gates : (images : List ℕ → Type 0) (s : ℕ) (b w : List ℕ) → s ≤ 1 → ((c : List ℕ) → images c → SlotRests (1 - s) b w c)
    → GatesAreSynced images images
resting_gates images s b w le each t c e t_le here there opened =
    let one = each c here in
    let other = each e there in
    elim (slot_cases s t le t_le) [
      | inl same ↦ absurd (one.closed (subst (λ (k : ℕ). IsOpen k c) (same ∙ sym (other_other s le)) opened))
      | inr same ↦ subst (λ (k : ℕ). SameSlot k c e) (sym same) (
        one.body_is ∙ sym other.body_is,
        subst (λ (l : List ℕ). lines_in_slot (line_count l) c ≡ lines_in_slot (line_count l) e) (sym other.body_is)
            (one.lines_are ∙ sym other.lines_are),
      )
    ]

-- ---- the new gate is open

-- a gate that is written leaves what the bodies are, and all lines
kept_both : (s t : ℕ) (b w d v m c : List ℕ) → s ≤ 1 → t ≤ 1 → Torn (gate_at t) 1 m c → IsSealed s b w d v m → HasBoth s b w d v c
kept_both s t b w d v m c s_le t_le torn h = record {
  old_body = torn_apart (gate_at t) 1 (body_at (1 - s)) body_bytes m c torn (inr (omega arith)) ∙ h.old_body;
  old_lines = torn_apart (gate_at t) 1 lines_at (32 * line_count b) m c torn (inr (omega arith)) ∙ h.old_lines;
  new_body = torn_apart (gate_at t) 1 (body_at s) body_bytes m c torn (inr (omega arith)) ∙ h.new_body;
  new_lines = torn_apart (gate_at t) 1 lines_at (32 * line_count d) m c torn (inr (omega arith)) ∙ h.new_lines;
}

-- so whatever is left of the old gate, the gates are synced
pub closing_gates : (images images' : List ℕ → Type 0) (s : ℕ) (b w d v : List ℕ) → s ≤ 1
    → ((c : List ℕ) → images c → IsSealed s b w d v c) → ((c : List ℕ) → images' c → TornFrom images (gate_at (1 - s)) 1 c)
    → GatesAreSynced images' images'
closing_gates images images' s b w d v le each torn = both_gates images' s b w d v le (λ c here.
    let from = torn c here in
    kept_both s (1 - s) b w d v from.0 c le (omega arith) from.2 (each from.0 from.1))

module _ (s : ℕ) (b w d v m c : List ℕ) (le : s ≤ 1) (turn : turn_of d ≡ next_turn (turn_of b)) (torn : Torn (gate_at (1 - s)) 1 m c)
    (h : IsSealed s b w d v m) (opened : IsOpen s m) where
  -- the slot's own gate stays open as the other is written
  still_open : IsOpen s c
  still_open = torn_apart (gate_at (1 - s)) 1 (gate_at s) 1 m c torn (turned (gates_apart s le)) ∙ opened
    where
      turned : (gate_at (1 - s) + 1 ≤ gate_at s) ⊎ (gate_at s + 1 ≤ gate_at (1 - s))
          → (gate_at s + 1 ≤ gate_at (1 - s)) ⊎ (gate_at (1 - s) + 1 ≤ gate_at s)
      turned (inl x) = inr x
      turned (inr x) = inl x

  -- as the old gate closes, the new body counts whatever is left
  pub closing_new : HasCommit d v c
  closing_new =
      let kept = kept_both s (1 - s) b w d v m c le (omega arith) torn h in
      record {
        slot = s;
        slot_is = le;
        counts = record {
          gate = still_open;
          body_is = kept.new_body;
          lines_are = kept.new_lines;
          newer = λ other. turn ∙ ap (λ (l : List ℕ). next_turn (turn_of l)) (sym kept.old_body);
        };
      }

  -- and once it is closed, it is alone
  pub closed_new : (IsOpen (1 - s) c → ⊥) → SlotRests s d v c
  closed_new closed =
      let kept = kept_both s (1 - s) b w d v m c le (omega arith) torn h in
      record { gate = still_open; closed = closed; body_is = kept.new_body; lines_are = kept.new_lines }

-- ---- the body is sealed

module _ (old new : Option (List ℕ)) (images images' : List ℕ → Type 0) (s line : ℕ) (b w d more : List ℕ) (le : s ≤ 1)
    (size : length d ≡ body_bytes) (grows : Grows images s line b w d more) (put : IfSome old (IsPut line more))
    (through : WrittenThrough old new images' (body_at s) d)
    (torn : (c : List ℕ) → images' c → TornFrom images (body_at s) body_bytes c)
    (sealed : (c : List ℕ) → images' c → body_in_slot s c ≡ d) where
  -- the last commit is as it was
  rests_now : (c : List ℕ) → images' c → SlotRests (1 - s) b w c
  rests_now c here = (let from = torn c here in rests_body s b w from.0 c le from.2 (grows.rests from.0 from.1))

  -- the new lines stand there
  lines_now : (c : List ℕ) → images' c → part (lines_at + 32 * line) (length more) c ≡ more
  lines_now c here =
      let is : new ≡ Some c = through.durable c here in
      let from = told_at (λ n. (o : List ℕ) × (old ≡ Some o) × (n ≡ put_at (body_at s) d o)) new c is through.written in
      let there : IsPut line more from.0 = told_at (IsPut line more) old from.0 from.1 put in
      let within : body_at s ≤ length from.0 = (let long = there.0 in omega arith) in
      let write : Torn (body_at s) (length d) from.0 c = put_within (body_at s) (length d) d from.0 c within (omega arith) from.2 in
      torn_apart (body_at s) (length d) (lines_at + 32 * line) (length more) from.0 c write (inr (omega arith)) ∙ there.1

  -- so all that the new body counts is there
  pub now_sealed : AreSealed images' s b w d (w ++ more)
  now_sealed = record {
    each = λ c here.
        let rests = rests_now c here in
        let before = grows.before in
        let after = grows.after in
        let first : part lines_at (32 * line) c ≡ w =
        ap (λ (n : ℕ). part lines_at (32 * n) c) (sym before) ∙ rests.lines_are in
        record {
          gate = rests.gate;
          old_body = rests.body_is;
          old_lines = rests.lines_are;
          new_body = sealed c here;
          new_lines = ap (λ (n : ℕ). part lines_at n c) after
              ∙ part-add lines_at (32 * line) (length more) c
              ∙ (λ i. first i ++ lines_now c here i);
        };
    closed = λ c here opened. (rests_now c here).closed (subst (λ (t : ℕ). IsOpen t c) (sym (other_other s le)) opened);
    turn = grows.turn;
  }

-- ---- the lines are written

-- each image rests on the last commit as it did
pub rests_on : (images : List ℕ → Type 0) (s line n : ℕ) (b w d more : List ℕ) → s ≤ 1 → Grows images s line b w d more
    → (c : List ℕ) → TornFrom images (lines_at + 32 * line) n c → SlotRests (1 - s) b w c
rests_on images s line n b w d more le grows c from =
    let before = grows.before in
    rests_lines (1 - s) line n b w from.0 c (omega arith) (omega arith) from.2 (grows.rests from.0 from.1)

-- so the same grows
pub grows_on : (images images' : List ℕ → Type 0) (s line n : ℕ) (b w d more : List ℕ) → s ≤ 1
    → ((c : List ℕ) → images' c → TornFrom images (lines_at + 32 * line) n c) → Grows images s line b w d more
    → Grows images' s line b w d more
grows_on images images' s line n b w d more le torn grows = record {
  rests = λ c here. rests_on images s line n b w d more le grows c (torn c here);
  long = λ c here. (let from = torn c here in let long = grows.long from.0 from.1 in let more_ = from.2.no_shorter in omega arith);
  before = grows.before;
  whole = grows.whole;
  after = grows.after;
  turn = grows.turn;
}
