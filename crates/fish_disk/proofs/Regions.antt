-- What a torn write leaves alone, and what a whole write puts where.
use Rattle.std.proofs.Common.{◌≡◌, ℕ, ◌+◌, ◌-◌, ◌≤◌, ◌⊎◌, inl, inr, List, ◌++◌, length, take, drop, refl, ap, sym, ◌∙◌}
use Rattle.std.proofs.Common.{subst, arith, append_assoc, length-append, length-drop}
use Rattle.std.specs.Prelude.{Option, Some, None, IfSome, IsSome}
use mathlib.Core.Bool.{true≢false}
use Rattle.std.proofs.lemmas.List.{length-take-le, take-take, take_at, drop_at, drop-drop, drop-take}
use Rattle.fish_disk.specs.Content.{HasWritten, StillReads, WrittenThrough, part, put_at}
use Rattle.fish_disk.specs.Crash.{Torn, TornFrom}

-- what is told of a content holds of the one that is told
pub told_at : (P : List ℕ → Type 0) (x : Option (List ℕ)) (c : List ℕ) → x ≡ Some c → IfSome x P → P c
told_at P x c same holds = subst (λ o. IfSome o P) same holds

-- the first bytes stay, up to the range
pub take_below : (at n m : ℕ) (d c : List ℕ) → Torn at n d c → m ≤ at → take m c ≡ take m d
take_below at n m d c torn below =
    sym (take-take m at c below) ∙ ap (λ (l : List ℕ). take m l) torn.before ∙ take-take m at d below

-- the last bytes stay, from the range's end on
pub drop_above : (at n p : ℕ) (d c : List ℕ) → Torn at n d c → at + n ≤ p → drop p c ≡ drop p d
drop_above at n p d c torn above =
    let k = p - (at + n) in
    let e : at + n + k ≡ p = omega arith in
    ap (λ q. drop q c) (sym e)
    ∙ sym (drop-drop k (at + n) c)
    ∙ ap (λ (l : List ℕ). drop k l) torn.after
    ∙ drop-drop k (at + n) d
    ∙ ap (λ q. drop q d) e

-- a part before the range stays
pub torn_below : (at n p m : ℕ) (d c : List ℕ) → Torn at n d c → p + m ≤ at → part p m c ≡ part p m d
torn_below at n p m d c torn below =
    sym (drop-take p m c)
    ∙ ap (λ (l : List ℕ). drop p l) (take_below at n (p + m) d c torn below)
    ∙ drop-take p m d

-- a part after the range stays
pub torn_above : (at n p m : ℕ) (d c : List ℕ) → Torn at n d c → at + n ≤ p → part p m c ≡ part p m d
torn_above at n p m d c torn above = ap (λ (l : List ℕ). take m l) (drop_above at n p d c torn above)

-- a part that doesn't meet the range stays
pub torn_apart : (at n p m : ℕ) (d c : List ℕ) → Torn at n d c → (p + m ≤ at) ⊎ (at + n ≤ p) → part p m c ≡ part p m d
torn_apart at n p m d c torn (inl below) = torn_below at n p m d c torn below
torn_apart at n p m d c torn (inr above) = torn_above at n p m d c torn above

-- a write may leave everything as it was
pub torn_same : (at n : ℕ) (c : List ℕ) → Torn at n c c
torn_same at n c = record { before = refl; after = refl; no_shorter = omega arith; no_longer = omega arith }

-- what a shorter write may leave, a longer one may
pub torn_more : (at n m : ℕ) (d c : List ℕ) → n ≤ m → Torn at n d c → Torn at m d c
torn_more at n m d c more torn = record {
  before = torn.before;
  after = drop_above at n (at + m) d c torn (omega (arith, more));
  no_shorter = torn.no_shorter;
  no_longer = omega (arith, more, torn.no_longer);
}

-- two writes, one after the other, leave what one of both ranges may
pub torn_then : (at n m : ℕ) (d e c : List ℕ) → Torn at n d e → Torn (at + n) m e c → Torn at (n + m) d c
torn_then at n m d e c first second = record {
  before = take_below (at + n) m at e c second (omega arith) ∙ first.before;
  after =
      let same : at + n + m ≡ at + (n + m) = omega arith in
      ap (λ q. drop q c) (sym same)
      ∙ second.after
      ∙ drop_above at n (at + n + m) d e first (omega arith)
      ∙ ap (λ q. drop q d) same;
  no_shorter = omega (arith, first.no_shorter, second.no_shorter);
  no_longer = omega (arith, first.no_longer, second.no_longer);
}

module _ (at : ℕ) (piece old : List ℕ) (within : at ≤ length old) where
  front : length (take at old) ≡ at
  front = length-take-le at old within

  -- a piece that was put stands at its place
  pub put_part : part at (length piece) (put_at at piece old) ≡ piece
  put_part =
      let rest = drop (at + length piece) old in
      ap (λ (l : List ℕ). take (length piece) l) (drop_at (take at old) (piece ++ rest) at front)
      ∙ take_at piece rest (length piece) refl

  -- to put all of a piece is one way for its write to end
  pub put_torn : Torn at (length piece) old (put_at at piece old)
  put_torn =
      let rest = drop (at + length piece) old in
      let size = length-append (take at old) (piece ++ rest) in
      let behind = length-append piece rest in
      let left = length-drop (at + length piece) old in
      record {
        before = take_at (take at old) (piece ++ rest) at front;
        after =
            ap (λ (l : List ℕ). drop (at + length piece) l) (sym (append_assoc (take at old) piece rest))
            ∙ drop_at (take at old ++ piece) rest (at + length piece)
            (omega (arith, front, length-append (take at old) piece));
        no_shorter = omega (arith, front, size, behind, left);
        no_longer = omega (arith, front, size, behind, left);
      }

-- to put a shorter piece is one way for a write to end
pub put_within : (at n : ℕ) (piece old new : List ℕ) →
    at ≤ length old → length piece ≤ n → new ≡ put_at at piece old → Torn at n old new
put_within at n piece old new within short same =
    subst (λ (l : List ℕ). Torn at n old l) (sym same)
    (torn_more at (length piece) n old (put_at at piece old) short (put_torn at piece old within))

-- what is told after a write that is done is a torn write of what was told
pub written_torn : (old new : Option (List ℕ)) (at : ℕ) (piece : List ℕ) →
    IfSome old (λ c. at ≤ length c) → HasWritten old new at piece
    → (c : List ℕ) → new ≡ Some c → TornFrom (λ d. old ≡ Some d) at (length piece) c
written_torn old new at piece within written c is =
    let here = told_at (λ n. (o : List ℕ) × (old ≡ Some o) × (n ≡ put_at at piece o)) new c is written in
    let start : at ≤ length here.0 = told_at (λ o. at ≤ length o) old here.0 here.1 within in
    (here.0, here.1, put_within at (length piece) piece here.0 c start (omega arith) here.2)

-- a piece that is on the disk stands at its place in every image
pub through_part : (old new : Option (List ℕ)) (images : List ℕ → Type 0) (at : ℕ) (piece : List ℕ) →
    IfSome old (λ c. at ≤ length c) → WrittenThrough old new images at piece
    → (c : List ℕ) → images c → part at (length piece) c ≡ piece
through_part old new images at piece within through c image =
    let is = through.durable c image in
    let here = told_at (λ n. (o : List ℕ) × (old ≡ Some o) × (n ≡ put_at at piece o)) new c is through.written in
    let start : at ≤ length here.0 = told_at (λ o. at ≤ length o) old here.0 here.1 within in
    ap (λ (l : List ℕ). part at (length piece) l) here.2 ∙ put_part at piece here.0 start

-- what is still told stays what it was
pub still_told : (old new : Option (List ℕ)) (c : List ℕ) →
    StillReads old new → IsSome new → old ≡ Some c → new ≡ Some c
still_told old None c still told is = absurd (true≢false (sym told))
still_told old (Some d) c still told is = sym still ∙ is

-- what holds of a content that is told holds of it as long as it is still told
pub still_holds : (P : List ℕ → Type 0) (old new : Option (List ℕ)) →
    StillReads old new → IfSome old P → IfSome new P
still_holds P old None still holds = tt
still_holds P old (Some c) still holds = told_at P old c still holds
