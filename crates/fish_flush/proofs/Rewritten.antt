-- A list some of whose elements are written anew.
use Rattle.std.proofs.Common.{◌≡◌, ℕ, ◌≤◌, ◌+◌, List, [], ◌++◌, length, take, drop}
use Rattle.std.proofs.Common.{ap, sym, ◌∙◌, arith, append-nil, append_assoc, length-append, length-drop}
use Rattle.std.proofs.Math.Seq.{take-append_seam}
use Rattle.std.proofs.lemmas.List.{drop_all, length-take-le, take_all}

-- all are written anew
pub all_rewritten : (new items : List ℕ) (size : ℕ) → size ≡ length items → length new ≡ length items
    → take size (new ++ drop (length new) items) ≡ new
all_rewritten new items size whole same =
    let none : drop (length new) items ≡ [] = drop_all (length new) items (omega arith) in
    ap (λ (l : List ℕ). take size (new ++ l)) none ∙ ap (λ (l : List ℕ). take size l) (append-nil new)
    ∙ take_all size new (omega arith)

module _ (new items : List ℕ) (from : ℕ) (within : from + length new ≤ length items) where
  -- the elements from one on are written anew
  abbrev pub over : List ℕ
  over = take from items ++ (new ++ drop (length new) (drop from items))

  -- there are as many as before
  pub over_size : length over ≡ length items
  over_size =
      let front = length-take-le from items (omega arith) in
      let all = length-append (take from items) (new ++ drop (length new) (drop from items)) in
      let back = length-append new (drop (length new) (drop from items)) in
      let left = length-drop from items in
      let rest = length-drop (length new) (drop from items) in
      omega arith

  -- those before stay, and the new ones follow
  pub over_front : take (from + length new) over ≡ take from items ++ new
  over_front =
      let front = length-take-le from items (omega arith) in
      let both = length-append (take from items) new in
      let upto : from + length new ≡ length (take from items ++ new) = omega arith in
      (λ i. take (upto i) (sym (append_assoc (take from items) new (drop (length new) (drop from items))) i))
      ∙ take-append_seam (take from items ++ new) (drop (length new) (drop from items))
