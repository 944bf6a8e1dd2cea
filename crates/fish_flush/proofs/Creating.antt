-- What the first writes leave of an empty disk, over plain lists of bytes.
use Rattle.std.proofs.Common.{◌≡◌, ℕ, ◌+◌, ◌*◌, ◌^◌, ◌%◌, ◌<◌, ◌≤◌, inl, inr, List, [], ◌∷◌, ◌++◌, length}
use Rattle.std.proofs.Common.{drop, replicate, get_or}
use Rattle.std.proofs.Common.{refl, ap, sym, ◌∙◌, subst, arith}
use Rattle.std.proofs.Math.Pow.{pow_mono}
use Rattle.std.proofs.Math.Seq.{drop-nil}
use Rattle.std.proofs.lemmas.List.{append-nil, get_or-drop, get_or-replicate, get_or-take, length-replicate}
use Rattle.std.specs.Prelude.{Option, Some, None, IfSome}
use Rattle.fish_disk.specs.Content.{HasWritten, part, put_at}
use Rattle.fish_disk.specs.Crash.{Torn}
use Rattle.fish_disk.proofs.Regions.{put_part, put_within, told_at, torn_apart}
use Rattle.fish_flush.proofs.Committed.{body_lines}
use Rattle.fish_flush.specs.Kept.{IsAtRest, first_commit}
use Rattle.fish_flush.specs.declared.flusher.Flusher.{Flusher}
use Rattle.fish_flush.specs.within.Writing.{IsOnlyOpen}
use Rattle.fish_image.specs.Progress.{AreHeads}
use Rattle.fish_image.specs.Reached.{unread}
use Rattle.fish_image.specs.Reading.{IsBodyOf}
use Rattle.fish_rule.specs.declared.table.Shape.{Shape}
use Rattle.fish_slots.specs.Commits.{SlotRests}
use Rattle.fish_slots.specs.Offsets.{body_at, body_bytes, gate_at, lines_at}
use Rattle.fish_slots.specs.Slots.{IsOpen, body_in_slot, lines_in_slot}

-- over nothing, a piece is all
at_nothing : (z o : List ℕ) → length o ≡ 0 → put_at 0 z o ≡ z
at_nothing z [] none = ap (λ (l : List ℕ). z ++ l) (drop-nil (0 + length z)) ∙ append-nil z
at_nothing z (x ∷ xs) none = absurd (omega (arith, none))

-- and all that is read
pub only_piece : (old new : Option (List ℕ)) (z : List ℕ) → IfSome old (λ c. length c ≡ 0) → HasWritten old new 0 z
    → IfSome new (λ c. c ≡ z)
only_piece old None z empty written = tt
only_piece old (Some c) z empty written =
    written.2 ∙ at_nothing z written.0 (told_at (λ o. length o ≡ 0) old written.0 written.1 empty)

-- where all bytes are zero, no gate is open
zero_closed : (n p : ℕ) → p < n → part p 1 (replicate n 0) ≡ 1 ∷ [] → ⊥
zero_closed n p less opened =
    let z : List ℕ = replicate n 0 in
    let zero : get_or z (p + 0) 0 ≡ 0 = get_or-replicate n (p + 0) 0 0 (let inside : p + 0 < n = omega (arith, less) in inside) in
    let same : 0 ≡ 1 = sym zero ∙ sym (get_or-drop p z 0 0) ∙ sym (get_or-take 1 (drop p z) 0 0 (omega arith))
    ∙ ap (λ (l : List ℕ). get_or l 0 0) opened in
    omega (arith, same)

module _ (n : ℕ) (z : List ℕ) (is : z ≡ replicate n 0) (long : lines_at ≤ n) where
  -- there are as many zeros as were asked for
  size : length z ≡ n
  size = ap (λ (l : List ℕ). length l) is ∙ length-replicate n 0

  -- no gate is open there
  pub none_open : (slot : ℕ) → slot ≤ 1 → IsOpen slot z → ⊥
  none_open slot le opened =
      zero_closed n (gate_at slot) (omega (arith, le, long)) (subst (λ (l : List ℕ). part (gate_at slot) 1 l ≡ 1 ∷ []) is opened)

  -- and there is room for a body
  pub has_room : (x : Option (List ℕ)) (m : ℕ) → m ≤ lines_at → IfSome x (λ c. c ≡ z) → IfSome x (λ c. m ≤ length c)
  has_room None m less same = tt
  has_room (Some c) m less same =
      let l = ap (λ (l : List ℕ). length l) same in
      omega (arith, l, size, long, less)

  -- the body put there, and then the first gate's byte
  pub first_image : (x y : Option (List ℕ)) (b j e : List ℕ) → IfSome x (λ c. c ≡ z) → HasWritten x y (body_at 0) b
      → length b ≡ body_bytes → y ≡ Some j → Torn (gate_at 0) 1 j e
      → (IsOpen 1 e → ⊥) × (body_in_slot 0 e ≡ b) × (lines_at ≤ length e)
  first_image x y b j e all written size_b told torn =
      let here = told_at (λ c. (o : List ℕ) × (x ≡ Some o) × (c ≡ put_at (body_at 0) b o)) y j told written in
      let o : List ℕ = here.0 in
      let zeros : o ≡ z = told_at (λ c. c ≡ z) x o here.1 all in
      let many = ap (λ (l : List ℕ). length l) zeros in
      let within : body_at 0 ≤ length o = omega (arith, many, size, long) in
      let put = put_within (body_at 0) body_bytes b o j within (omega (arith, size_b)) here.2 in
      let second = torn_apart (gate_at 0) 1 (gate_at 1) 1 j e torn (inr (omega arith))
      ∙ torn_apart (body_at 0) body_bytes (gate_at 1) 1 o j put (inl (omega arith)) in
      let body = torn_apart (gate_at 0) 1 (body_at 0) body_bytes j e torn (inr (omega arith)) in
      let stands = ap (λ (l : List ℕ). part (body_at 0) (length b) l) here.2 ∙ put_part (body_at 0) b o within in (
        λ opened. none_open 1 (omega arith)
            (subst (λ (l : List ℕ). part (gate_at 1) 1 l ≡ 1 ∷ []) zeros (sym second ∙ opened)),
        body ∙ subst (λ (m : ℕ). part (body_at 0) m j ≡ b) size_b stands,
        omega (arith, many, size, long, put.no_shorter, torn.no_shorter),
      )

-- as many heads as there are buckets
pub few_heads : (b : ℕ) → b ≤ 16 → (1 * 2 ^ b) % 18446744073709551616 ≡ 2 ^ b
few_heads b few =
    let small : 2 ^ b ≤ 65536 = pow_mono few in
    omega (arith, small)

-- a store without a record is at rest
pub first_rests : (images : List ℕ → Type 0) (f : Flusher) (s : Shape) (b : List ℕ) →
    f.slot ≡ 0 → f.turn ≡ 0 → f.count ≡ 0 → f.line ≡ 0 → f.page ≡ 0 → f.starts.items ≡ [] → IsBodyOf (first_commit s) b
    → ((c : List ℕ) → images c → IsOnlyOpen 0 c × (body_in_slot 0 c ≡ b)) → ((c : List ℕ) → images c → lines_at ≤ length c)
    → AreHeads (2 ^ s.bucket_bits) [] f.heads.items → IsAtRest images f (first_commit s) []
first_rests images f s b slot turn count line page starts told alone long heads = record {
  slot_is = omega (arith, slot);
  body = b;
  lines = [];
  rests = λ i image. subst (λ (k : ℕ). SlotRests k b [] i) (sym slot) (record {
    gate = (alone i image).0.0;
    closed = (alone i image).0.1;
    body_is = (alone i image).1;
    lines_are = ap (λ (k : ℕ). lines_in_slot k i) (body_lines (first_commit s) b told);
  });
  long = λ i image. (let l = long i image in omega (arith, l, line));
  committed = record {
    is = record { told = told; stands = record { end = unread; agrees = refl; lines = refl; entries = refl } };
    size = refl;
    turn = sym turn;
    count = sym count;
    line = sym line;
    heads = heads;
    page = sym page;
    starts = sym starts;
  };
}
