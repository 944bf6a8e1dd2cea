-- The chain of a bucket below the base: going down it, all of the bucket that was passed is newer, and all that is left older.
use Rattle.std.proofs.Common.{◌≡◌, ◌≢◌, ℕ, zero, suc, ◌+◌, ◌<◌, ◌≤◌, ◌⊎◌, List, [], ◌∷◌, ◌++◌, Bool, true, false, inl, inr, refl, sym, ap}
use Rattle.std.proofs.Common.{◌∙◌, subst, arith, append_assoc}
use Rattle.std.specs.Prelude.{Some, slice_get, ◌==◌}
use Rattle.std.proofs.lemmas.Bool.{eqb-true, eqb-false}
use Rattle.std.proofs.lemmas.Option.{same_Some}
use Rattle.fish_cold.proofs.ChainLemmas.{prior_links, splits}
use Rattle.fish_cold.specs.Carries.{IsPrior}
use Rattle.fish_cold.specs.Chains.{IsKeyAt, IsLink, Splits}
use Rattle.fish_image.specs.Newest.{IsAmong}
use Rattle.fish_image.specs.Reached.{Reached, head_of}
use Rattle.fish_layout.specs.declared.parts.BodyParts.{BodyParts}
use Rattle.fish_layout.specs.declared.parts.KeyPart.{KeyPart}
use Rattle.fish_scan.proofs.PriorRecords.{key_order}
use Rattle.fish_scan.proofs.UnderValues.{if_false, if_true}

-- what is among places is the first, or among the others
among_first : (x : ℕ × ℕ) (xs : List (ℕ × ℕ)) (b q : ℕ) → IsAmong (x ∷ xs) b q → (x ≡ (b, q)) ⊎ IsAmong xs b q
among_first x xs b q h = by h.at h.there
  where
    by : (k : ℕ) → slice_get (x ∷ xs) k ≡ Some (b, q) → (x ≡ (b, q)) ⊎ IsAmong xs b q
    by zero there = inl (same_Some x (b, q) there)
    by (suc k) there = inr (record { at = k; there = there })

-- none of the bucket is before one, so what is of the bucket is that one, or after it
among_parted : (before behind : List (ℕ × ℕ)) (b place q : ℕ) → ((p : ℕ) → IsAmong before b p → ⊥)
    → IsAmong (before ++ (b, place) ∷ behind) b q → (q ≡ place) ⊎ IsAmong behind b q
among_parted [] behind b place q none h =
    elim (among_first (b, place) behind b q h) [ inl e ↦ inl (sym (ap (λ (z : ℕ × ℕ). z.1) e)) | inr m ↦ inr m ]
among_parted (x ∷ before) behind b place q none h =
    elim (among_first x (before ++ (b, place) ∷ behind) b q h) [
      | inl e ↦ absurd (none q (record { at = 0; there = ap Some e }))
      | inr m ↦ among_parted before behind b place q (λ p n. none p (record { at = suc n.at; there = n.there })) m
    ]

-- one that is put between others is among them
among_here : (before behind : List (ℕ × ℕ)) (b place : ℕ) → IsAmong (before ++ (b, place) ∷ behind) b place
among_here [] behind b place = record { at = 0; there = refl }
among_here (x ∷ before) behind b place =
    (let t = among_here before behind b place in record { at = suc t.at; there = t.there })

module _ {image : List ℕ} {count : ℕ} {end : Reached} (prior : IsPrior image count end) where
  -- the head of what is left is the highest place of the bucket, where that of the others is
  head_by : (x : ℕ × ℕ) (xs taken : List (ℕ × ℕ)) → end.places ≡ taken ++ x ∷ xs → (b q : ℕ) → IsAmong (x ∷ xs) b q
      → (IsAmong xs b q → q ≤ head_of xs b) → (t : Bool) → (x.0 == b) ≡ t → q ≤ head_of (x ∷ xs) b
  head_by x xs taken parted b q h rest true is =
      let bucket : x.0 ≡ b = eqb-true x.0 b is in
      let head : head_of (x ∷ xs) b ≡ x.1 = if_true (x.0 == b) x.1 (head_of xs b) is in
      let link = prior_links image count end prior b x.1 taken xs (parted ∙ ap (λ (n : ℕ). taken ++ (n, x.1) ∷ xs) bucket) in
      let next = link.next in
      let lower = link.lower in
      elim (among_first x xs b q h) [
        | inl e ↦ (let same : x.1 ≡ q = ap (λ (z : ℕ × ℕ). z.1) e in omega arith)
        | inr m ↦ (let less = rest m in omega arith)
      ]
  head_by x xs taken parted b q h rest false is =
      let head : head_of (x ∷ xs) b ≡ head_of xs b = if_false (x.0 == b) x.1 (head_of xs b) is in
      elim (among_first x xs b q h) [
        | inl e ↦ absurd (eqb-false x.0 b is (ap (λ (z : ℕ × ℕ). z.0) e))
        | inr m ↦ (let less = rest m in omega arith)
      ]

  pub head_most : (rest taken : List (ℕ × ℕ)) → end.places ≡ taken ++ rest → (b q : ℕ) → IsAmong rest b q → q ≤ head_of rest b
  head_most [] taken parted b q h = absurd (cc (h.there))
  head_most (x ∷ xs) taken parted b q h = head_by x xs taken parted b q h
      (λ m. head_most xs (taken ++ x ∷ []) (parted ∙ sym (append_assoc taken (x ∷ []) xs)) b q m) (x.0 == b) refl

  -- a walk stands at the head of what is left of a bucket, all of whose records are below a number
  pub record IsOn (b place below : ℕ) : Type 0 where
    pub rest : List (ℕ × ℕ)
    pub taken : List (ℕ × ℕ)
    pub parted : end.places ≡ taken ++ rest
    pub at : place ≡ head_of rest b
    pub low : (q n : ℕ) (p : BodyParts) (j : ℕ) (key : KeyPart) → IsKeyAt prior b q n p j key → IsAmong rest b q → n < below

  -- it begins at the bucket's head
  abbrev pub on_start : (b place : ℕ) → place ≡ head_of end.places b → IsOn b place count
  on_start b place at = record {
    rest = end.places;
    taken = [];
    parted = refl;
    at = at;
    low = λ q n p j key h m. h.stored.few;
  }

  -- what is left is at the place, or lower
  pub on_most : (b place below : ℕ) (h : IsOn b place below) (q : ℕ) → IsAmong h.rest b q → q ≤ place
  on_most b place below h q m = (let most = head_most h.rest h.taken h.parted b q m in let at = h.at in omega arith)

  -- at place 0 nothing of the bucket is left
  pub on_end : (b place below : ℕ) (h : IsOn b place below) → place ≡ 0 → (q n : ℕ) (p : BodyParts) (j : ℕ) (key : KeyPart)
      → IsKeyAt prior b q n p j key → IsAmong h.rest b q → ⊥
  on_end b place below h none q n p j key at m =
      let most = on_most b place below h q m in let is = at.place_is in omega arith

  -- elsewhere a key entry of the bucket is there, of a record below the number; the walk goes on from there
  pub record IsHere (b place below : ℕ) (h : IsOn b place below) : Type 0 where
    pub number : ℕ
    pub parts : BodyParts
    pub place_in : ℕ
    pub key : KeyPart
    pub at : IsKeyAt prior b place number parts place_in key
    pub less : number < below
    pub lower : key.prev < place
    pub next : IsOn b key.prev (number + 1)
    pub split : (q : ℕ) → IsAmong h.rest b q → (q ≡ place) ⊎ IsAmong next.rest b q
    pub oldest : (q n : ℕ) (p : BodyParts) (j : ℕ) (other : KeyPart) → IsKeyAt prior b q n p j other → IsAmong h.rest b q
        → n ≤ number

  pub on_here : (b place below : ℕ) (h : IsOn b place below) → place ≢ 0 → IsHere b place below h
  on_here b place below h some =
      let s : Splits h.rest b = splits h.rest b (λ e. some (h.at ∙ e)) in
      let rest_is : h.rest ≡ s.before ++ (b, place) ∷ s.behind =
      s.parted ∙ ap (λ (q : ℕ). s.before ++ (b, q) ∷ s.behind) (sym h.at) in
      let parted : end.places ≡ (h.taken ++ s.before) ++ (b, place) ∷ s.behind =
      h.parted ∙ ap (λ (z : List (ℕ × ℕ)). h.taken ++ z) rest_is ∙ sym (append_assoc h.taken s.before ((b, place) ∷ s.behind)) in
      let link : IsLink prior b place s.behind = prior_links image count end prior b place (h.taken ++ s.before) s.behind parted in
      let here : IsAmong h.rest b place = subst (λ (z : List (ℕ × ℕ)). IsAmong z b place) (sym rest_is)
      (among_here s.before s.behind b place) in
      let behind : end.places ≡ ((h.taken ++ s.before) ++ (b, place) ∷ []) ++ s.behind =
      parted ∙ sym (append_assoc (h.taken ++ s.before) ((b, place) ∷ []) s.behind) in
      record {
        number = link.number;
        parts = link.parts;
        place_in = link.place_in;
        key = link.key;
        at = link.at;
        less = h.low place link.number link.parts link.place_in link.key link.at here;
        lower = link.lower;
        next = record {
          rest = s.behind;
          taken = (h.taken ++ s.before) ++ (b, place) ∷ [];
          parted = behind;
          at = link.next;
          low = λ q n p j key at m.
              let most = head_most s.behind ((h.taken ++ s.before) ++ (b, place) ∷ []) behind b q m in
              let next = link.next in
              let lower = link.lower in
              let older = key_order prior b b place q link.number n link.parts p link.place_in j link.key key link.at at (omega arith) in
              omega arith;
        };
        split = λ q m. among_parted s.before s.behind b place q s.none (subst (λ (z : List (ℕ × ℕ)). IsAmong z b q) rest_is m);
        oldest = λ q n p j other at m. key_order prior b b place q link.number n link.parts p link.place_in j link.key other link.at at
            (on_most b place below h q m);
      }
