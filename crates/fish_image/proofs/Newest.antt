-- Key entries stand in the order of their places, so the first of a bucket is the newest.
use Rattle.std.proofs.Common.{◌≡◌, ℕ, zero, suc, ◌+◌, ◌*◌, ◌<◌, ◌≤◌, List, [], ◌∷◌, Some, true, false, Bool, length}
use Rattle.std.proofs.Common.{slice_get, inl, inr, ◌⊎◌}
use Rattle.std.proofs.Common.{refl, sym, ap, subst, arith}
use Rattle.std.specs.Prelude.{◌==◌, if◌then◌else◌}
use Rattle.std.proofs.lemmas.Bool.{eqb-true, eqb-false}
use Rattle.std.proofs.lemmas.Option.{same_Some}
use Rattle.fish_catalog.specs.declared.commit.Commit.{Commit}
use Rattle.fish_layout.specs.declared.parts.KeyPart.{KeyPart}
use Rattle.fish_layout.proofs.Outlines.{body_length}
use Rattle.fish_layout.proofs.Sizes.{roomy}
use Rattle.fish_image.specs.Log.{Agrees, FollowsIn}
use Rattle.fish_image.specs.Newest.{IsAmong, IsNewestPlace}
use Rattle.fish_image.specs.Reached.{Reached, bucket_of_key, head_of, with_keys}
use Rattle.fish_layout.specs.Pages.{place_of}

-- places above 0 and below a bound that descend
abbrev Descend : ℕ → List (ℕ × ℕ) → Type 0
Descend bound [] = Unit {0}
Descend bound (x ∷ xs) = (x.1 < bound) × (0 < x.1) × Descend x.1 xs

-- a higher bound
descend_more : (a b : ℕ) (xs : List (ℕ × ℕ)) → a ≤ b → Descend a xs → Descend b xs
descend_more a b [] less h = tt
descend_more a b (x ∷ xs) less h = (let first = h.0 in (omega arith, h.1, h.2))

-- what is among them is below the bound and above 0
descend_among : (bound : ℕ) (xs : List (ℕ × ℕ)) (k b p : ℕ) → Descend bound xs → slice_get xs k ≡ Some (b, p) → (p < bound) × (0 < p)
descend_among bound [] k b p h at = absurd cc
descend_among bound (x ∷ xs) zero b p h at =
    let same : x ≡ (b, p) = same_Some x (b, p) at in
    let place : x.1 ≡ p = ap (λ (z : ℕ × ℕ). z.1) same in
    let few = h.0 in
    let some = h.1 in
    (omega arith, omega arith)
descend_among bound (x ∷ xs) (suc k) b p h at =
    let first = h.0 in
    let t = descend_among x.1 xs k b p h.2 at in
    let less = t.0 in
    (omega arith, t.1)

-- by cases on a test
either_way : (t : Bool) → (t ≡ true) ⊎ (t ≡ false)
either_way true = inl refl
either_way false = inr refl

-- what a test chooses
chosen : (t : Bool) (x y : ℕ) → t ≡ true → (if t then x else y) ≡ x
chosen true x y h = refl
chosen false x y h = absurd (cc h)

other : (t : Bool) (x y : ℕ) → t ≡ false → (if t then x else y) ≡ y
other true x y h = absurd (cc h)
other false x y h = refl

-- one in front is still among them
among_more : (x : ℕ × ℕ) (xs : List (ℕ × ℕ)) (b p : ℕ) → IsAmong xs b p → IsAmong (x ∷ xs) b p
among_more x xs b p h = record { at = suc h.at; there = h.there }

-- none is after the first
first_most : (bound : ℕ) (x : ℕ × ℕ) (xs : List (ℕ × ℕ)) (b q k : ℕ) → Descend bound (x ∷ xs) → slice_get (x ∷ xs) k ≡ Some (b, q) → q ≤ x.1
first_most bound x xs b q zero h at =
    let place : x.1 ≡ q = ap (λ (z : ℕ × ℕ). z.1) (same_Some x (b, q) at) in omega arith
first_most bound x xs b q (suc k) h at = (let less = (descend_among x.1 xs k b q h.2 at).0 in omega arith)

-- one of another bucket than the first comes after it
rest_most : (x : ℕ × ℕ) (xs : List (ℕ × ℕ)) (b q k p : ℕ) → (x.0 ≡ b → ⊥) → IsNewestPlace xs b p → slice_get (x ∷ xs) k ≡ Some (b, q)
    → q ≤ p
rest_most x xs b q zero p apart h at = absurd (apart (ap (λ (z : ℕ × ℕ). z.0) (same_Some x (b, q) at)))
rest_most x xs b q (suc k) p apart h at = h.most q (record { at = k; there = at })

-- the first of a bucket is the newest
head_newest : (bound : ℕ) (xs : List (ℕ × ℕ)) (b : ℕ) → Descend bound xs → IsNewestPlace xs b (head_of xs b)
head_newest bound [] b h = record {
  some = inr refl;
  most = λ q among. absurd (cc (among.there));
  above = λ q among. absurd (cc (among.there));
}
head_newest bound (x ∷ xs) b h =
    elim (either_way (x.0 == b)) [
      | inl same ↦
          let bucket : x.0 ≡ b = eqb-true x.0 b same in
          let head : head_of (x ∷ xs) b ≡ x.1 = chosen (x.0 == b) x.1 (head_of xs b) same in
          record {
            some = inl (record { at = 0; there = λ i. Some (bucket i, sym head i) });
            most = λ q among. subst (λ (n : ℕ). q ≤ n) (sym head) (first_most bound x xs b q among.at h among.there);
            above = λ q among. (descend_among bound (x ∷ xs) among.at b q h among.there).1;
          }
      | inr apart ↦
          let head : head_of (x ∷ xs) b ≡ head_of xs b = other (x.0 == b) x.1 (head_of xs b) apart in
          let rest = head_newest x.1 xs b h.2 in
          subst (IsNewestPlace (x ∷ xs) b) (sym head)
          (record {
            some = elim rest.some [ inl there ↦ inl (among_more x xs b (head_of xs b) there) | inr none ↦ inr none ];
            most = λ q among. rest_most x xs b q among.at (head_of xs b) (eqb-false x.0 b apart) rest among.there;
            above = λ q among. (descend_among bound (x ∷ xs) among.at b q h among.there).1;
          })
    ]

-- the key entries of a record come after those before it, and within its words
keys_descend : (n line c : ℕ) (ks : List KeyPart) (places : List (ℕ × ℕ)) → Descend (place_of line c) places
    → Descend (place_of line (c + length ks)) (with_keys n line c ks places)
keys_descend n line c [] places h = descend_more (place_of line c) (place_of line (c + 0)) places (omega arith) h
keys_descend n line c (k ∷ ks) places h =
    let more : Descend (place_of line (c + 1)) ((bucket_of_key n k, place_of line c) ∷ places) = (omega arith, omega arith, h) in
    let all = keys_descend n line (c + 1) ks ((bucket_of_key n k, place_of line c) ∷ places) more in
    let at : place_of line (c + 1 + length ks) ≡ place_of line (c + suc (length ks)) = omega arith in
    subst (λ (b : ℕ). Descend b (with_keys n line (c + 1) ks ((bucket_of_key n k, place_of line c) ∷ places))) at all

-- one region more
region_descends : (c : Commit) (s : Reached) (lines : ℕ) (r : List ℕ) (n : Reached) → FollowsIn c s lines r n
    → Descend (4 * s.line) s.places → Descend (4 * n.line) n.places
region_descends c s lines r n (inl v) h =
    subst (λ (z : Reached). Descend (4 * z.line) z.places) (sym v.1)
    (descend_more (4 * s.line) (4 * (s.line + lines)) s.places (omega arith) h)
region_descends c s lines r n (inr v) h =
    let size = v.1.size in
    let full = body_length v.1.body in
    let room = roomy v.0 in
    subst (λ (z : Reached). Descend (4 * z.line) z.places) (sym v.2)
    (descend_more (place_of s.line (0 + length v.0.keys)) (4 * (s.line + lines)) _ (omega arith)
    (keys_descend _ s.line 0 v.0.keys s.places (descend_more (4 * s.line) (place_of s.line 0) s.places (omega arith) h)))

-- all regions
agrees_descends : (c : Commit) (w : List ℕ) (k : ℕ) (s : Reached) → Agrees c w k s → Descend (4 * s.line) s.places
agrees_descends c w zero s h = subst (λ (z : Reached). Descend (4 * z.line) z.places) (sym h) tt
agrees_descends c w (suc k) s h = region_descends c h.0 _ _ s h.2 (agrees_descends c w k h.0 h.1)

-- the head of a bucket is its newest key entry
pub agrees_newest : (c : Commit) (w : List ℕ) (k : ℕ) (s : Reached) → Agrees c w k s → (b : ℕ)
    → IsNewestPlace s.places b (head_of s.places b)
agrees_newest c w k s h b = head_newest (4 * s.line) s.places b (agrees_descends c w k s h)

-- and all lie below what comes next
pub agrees_lower : (c : Commit) (w : List ℕ) (k : ℕ) (s : Reached) → Agrees c w k s → (b p : ℕ) → IsAmong s.places b p → p < 4 * s.line
agrees_lower c w k s h b p among = (descend_among (4 * s.line) s.places among.at b p (agrees_descends c w k s h) among.there).0

-- a head is 0 or the place of a key entry that was read
pub head_lower : (c : Commit) (w : List ℕ) (k : ℕ) (s : Reached) → Agrees c w k s → (b : ℕ) → (head_of s.places b ≡ 0 → ⊥)
    → head_of s.places b < 4 * s.line
head_lower c w k s h b some =
    elim (agrees_newest c w k s h b).some [
      | inl among ↦ agrees_lower c w k s h b (head_of s.places b) among
      | inr none ↦ absurd (some none)
    ]
