-- Key entries link to the newest of their bucket before them, so a chain passes each of the bucket's.
use Rattle.std.proofs.Common.{◌≡◌, ℕ, zero, suc, ◌+◌, ◌*◌, ◌^◌, ◌<◌, ◌⊎◌, List, [], ◌∷◌, ◌++◌, Bool, true, false}
use Rattle.std.proofs.Common.{length, get_or, inl, inr, refl, sym, ap, ◌∙◌, subst, arith, drop}
use Rattle.std.specs.Prelude.{Some, slice_get, slice_index, ◌==◌, if◌then◌else◌}
use Rattle.std.proofs.lemmas.Bool.{cases_lt, eqb-true, eqb-false}
use Rattle.std.proofs.lemmas.Option.{same_Some}
use Rattle.fish_catalog.specs.declared.commit.Commit.{Commit}
use Rattle.fish_layout.specs.declared.parts.BodyParts.{BodyParts}
use Rattle.fish_layout.specs.declared.parts.KeyPart.{KeyPart}
use Rattle.fish_image.specs.Log.{Agrees, Follows, FollowsIn, IsRecordAt, behind_record, region, region_lines}
use Rattle.fish_image.proofs.Newest.{agrees_lower}
use Rattle.fish_image.proofs.Agreement.{agrees_once, follows_once, lines_small}
use Rattle.fish_image.specs.Newest.{IsAmong}
use Rattle.fish_image.specs.Reached.{AreLinked, Reached, bucket_of_key, head_of, with_keys}
use Rattle.fish_layout.specs.Pages.{place_of}
use Rattle.fish_image.specs.Stands.{words_in}
use Rattle.fish_cold.specs.Carries.{IsPrior}
use Rattle.fish_cold.specs.Chains.{IsKeyAt, IsLink, Splits}

-- ---- down a list

chosen : (t : Bool) (x y : ℕ) → t ≡ true → (if t then x else y) ≡ x
chosen true x y h = refl
chosen false x y h = absurd (cc h)

other : (t : Bool) (x y : ℕ) → t ≡ false → (if t then x else y) ≡ y
other true x y h = absurd (cc h)
other false x y h = refl

none_here : (x : ℕ × ℕ) (before : List (ℕ × ℕ)) (b p : ℕ) → (x.0 ≡ b → ⊥) → ((q : ℕ) → IsAmong before b q → ⊥)
    → IsAmong (x ∷ before) b p → ⊥
none_here x before b p apart none h = by_place h.at h.there where
  by_place : (k : ℕ) → slice_get (x ∷ before) k ≡ Some (b, p) → ⊥
  by_place zero there = apart (ap (λ (z : ℕ × ℕ). z.0) (same_Some x (b, p) there))
  by_place (suc k) there = none p (record { at = k; there = there })

splits_by : (x : ℕ × ℕ) (xs : List (ℕ × ℕ)) (b : ℕ) (t : Bool) → (x.0 == b) ≡ t → (head_of (x ∷ xs) b ≡ 0 → ⊥)
    → ((head_of xs b ≡ 0 → ⊥) → Splits xs b) → Splits (x ∷ xs) b
splits_by x xs b true is some rest =
    let bucket : x.0 ≡ b = eqb-true x.0 b is in
    let head : head_of (x ∷ xs) b ≡ x.1 = chosen (x.0 == b) x.1 (head_of xs b) is in
    record {
      before = [];
      behind = xs;
      parted = λ i. (bucket i, sym head i) ∷ xs;
      none = λ p h. cc (h.there);
    }
splits_by x xs b false is some rest =
    let head : head_of (x ∷ xs) b ≡ head_of xs b = other (x.0 == b) x.1 (head_of xs b) is in
    let more = rest (λ none. some (head ∙ none)) in
    record {
      before = x ∷ more.before;
      behind = more.behind;
      parted = ap (λ l. x ∷ l) (more.parted ∙ ap (λ q. more.before ++ (b, q) ∷ more.behind) (sym head));
      none = λ p h. none_here x more.before b p (eqb-false x.0 b is) more.none h;
    }

pub splits : (places : List (ℕ × ℕ)) (b : ℕ) → (head_of places b ≡ 0 → ⊥) → Splits places b
splits [] b some = absurd (some refl)
splits (x ∷ xs) b some = splits_by x xs b (x.0 == b) refl some (splits xs b)

-- a head is below what all places are below
head_low_by : (x : ℕ × ℕ) (xs : List (ℕ × ℕ)) (b bound : ℕ) (t : Bool) → (x.0 == b) ≡ t → x.1 < bound → head_of xs b < bound
    → head_of (x ∷ xs) b < bound
head_low_by x xs b bound true is here rest = subst (λ q. q < bound) (sym (chosen (x.0 == b) x.1 (head_of xs b) is)) here
head_low_by x xs b bound false is here rest = subst (λ q. q < bound) (sym (other (x.0 == b) x.1 (head_of xs b) is)) rest

head_low : (places : List (ℕ × ℕ)) (b bound : ℕ) → 0 < bound → ((c q : ℕ) → IsAmong places c q → q < bound) → head_of places b < bound
head_low [] b bound some low = some
head_low (x ∷ xs) b bound some low =
    head_low_by x xs b bound (x.0 == b) refl (low x.0 x.1 (record { at = 0; there = refl }))
    (head_low xs b bound some (λ c q h. low c q (record { at = suc h.at; there = h.there })))

-- places with one more are below the next
more_low : (n line c : ℕ) (k : KeyPart) (places : List (ℕ × ℕ)) → ((b q : ℕ) → IsAmong places b q → q < place_of line c)
    → (b q : ℕ) → IsAmong ((bucket_of_key n k, place_of line c) ∷ places) b q → q < place_of line (c + 1)
more_low n line c k places low b q h = by_place h.at h.there where
  by_place : (i : ℕ) → slice_get ((bucket_of_key n k, place_of line c) ∷ places) i ≡ Some (b, q) → q < place_of line (c + 1)
  by_place zero there =
      let same = ap (λ (z : ℕ × ℕ). z.1) (same_Some (bucket_of_key n k, place_of line c) (b, q) there) in
      omega arith
  by_place (suc i) there = (let less = low b q (record { at = i; there = there }) in omega arith)

-- ---- the keys of one record

-- one of these keys, from place c on, is the entry, and links to the newest after it
pub record IsOneOf (n line c : ℕ) (ks : List KeyPart) (b q : ℕ) (behind : List (ℕ × ℕ)) : Type 0 where
  pub at : ℕ
  pub key : KeyPart
  pub within : at < length ks
  pub is : key ≡ get_or ks at key
  pub bucket : bucket_of_key n key ≡ b
  pub place : q ≡ place_of line (c + at)
  pub next : key.prev ≡ head_of behind b
  pub lower : key.prev < q

first_of : (x : ℕ × ℕ) (places taken behind : List (ℕ × ℕ)) (b q : ℕ) → x ∷ places ≡ taken ++ (b, q) ∷ behind
    → ((x ≡ (b, q)) × (places ≡ behind)) ⊎ ((others : List (ℕ × ℕ)) × (places ≡ others ++ (b, q) ∷ behind))
first_of x places [] behind b q h = inl (same_Some x (b, q) (ap (λ l. slice_get l 0) h), ap (drop 1) h)
first_of x places (y ∷ taken) behind b q h = inr (taken, ap (drop 1) h)

-- each of the keys of a record has a previous node below its own place
keys_lower : (n line c : ℕ) (ks : List KeyPart) (places : List (ℕ × ℕ)) → AreLinked n line c ks places
    → ((d r : ℕ) → IsAmong places d r → r < place_of line c) → (j : ℕ) (k : KeyPart) → j < length ks → k ≡ get_or ks j k
    → k.prev < place_of line (c + j)
keys_lower n line c [] places linked low j k within is = absurd (omega arith)
keys_lower n line c (x ∷ ks) places linked low zero k within is =
    let head = head_low places (bucket_of_key n x) (place_of line c) (omega arith) low in
    let prev = linked.0 in
    let same = ap (λ (z : KeyPart). z.prev) is in
    omega arith
keys_lower n line c (x ∷ ks) places linked low (suc j) k within is =
    let less = keys_lower n line (c + 1) ks ((bucket_of_key n x, place_of line c) ∷ places) linked.1 (more_low n line c x places low)
    j k (omega arith) is in
    omega arith

-- where the last of the keys was put, it is the entry, or the entry was there before
keys_link : (n line c : ℕ) (ks : List KeyPart) (places taken behind : List (ℕ × ℕ)) (b q : ℕ) → AreLinked n line c ks places
    → ((d r : ℕ) → IsAmong places d r → r < place_of line c)
    → with_keys n line c ks places ≡ taken ++ (b, q) ∷ behind
    → IsOneOf n line c ks b q behind ⊎ ((others : List (ℕ × ℕ)) × (places ≡ others ++ (b, q) ∷ behind))
keys_link n line c [] places taken behind b q linked low h = inr (taken, h)
keys_link n line c (k ∷ ks) places taken behind b q linked low h =
    elim (keys_link n line (c + 1) ks ((bucket_of_key n k, place_of line c) ∷ places) taken behind b q linked.1
    (more_low n line c k places low) h) [
      | inl one ↦ (
          let place = one.place in
          let within = one.within in
          let further : place_of line (c + 1 + one.at) ≡ place_of line (c + suc one.at) = omega arith in
          inl (record {
            at = suc one.at;
            key = one.key;
            within = omega arith;
            is = one.is;
            bucket = one.bucket;
            place = place ∙ further;
            next = one.next;
            lower = one.lower;
          }))
      | inr more ↦ elim (first_of (bucket_of_key n k, place_of line c) places more.0 behind b q more.1) [
        | inl this ↦ (
            let bucket : bucket_of_key n k ≡ b = ap (λ (z : ℕ × ℕ). z.0) this.0 in
            let place : place_of line c ≡ q = ap (λ (z : ℕ × ℕ). z.1) this.0 in
            let here : place_of line c ≡ place_of line (c + 0) = omega arith in
            let head = head_low places (bucket_of_key n k) (place_of line c) (omega arith) low in
            let prev = linked.0 in
            inl (record {
              at = 0;
              key = k;
              within = omega arith;
              is = refl;
              bucket = bucket;
              place = sym place ∙ here;
              next = linked.0 ∙ ap (head_of places) bucket ∙ ap (λ l. head_of l b) this.1;
              lower = omega arith;
            }))
        | inr older ↦ inr older
      ]
    ]

-- ---- all regions

module _ (commit : Commit) (w : List ℕ) where
  -- some record's key entry links so
  pub record Linked (count b q : ℕ) (behind : List (ℕ × ℕ)) : Type 0 where
    pub number : ℕ
    pub few : number < count
    pub at : Reached
    pub agrees : Agrees commit w number at
    pub parts : BodyParts
    pub is : IsRecordAt commit at (region_lines (drop (4 * at.line) w)) (region (drop (4 * at.line) w)) parts
    pub one : IsOneOf (2 ^ commit.bucket_bits) at.line 0 parts.keys b q behind

  linked_more : (n b q : ℕ) (behind : List (ℕ × ℕ)) → Linked n b q behind → Linked (suc n) b q behind
  linked_more n b q behind h = (let few = h.few in record {
    number = h.number;
    few = omega arith;
    at = h.at;
    agrees = h.agrees;
    parts = h.parts;
    is = h.is;
    one = h.one;
  })

  places_low : (n : ℕ) (t : Reached) → Agrees commit w n t → (d r : ℕ) → IsAmong t.places d r → r < place_of t.line 0
  places_low n t agrees d r h = (let low = agrees_lower commit w n t agrees d r h in omega arith)

  region_links : (n : ℕ) (t s : Reached) → Agrees commit w n t → Follows commit w t s → (taken behind : List (ℕ × ℕ)) (b q : ℕ)
      → s.places ≡ taken ++ (b, q) ∷ behind
      → Linked (suc n) b q behind ⊎ ((others : List (ℕ × ℕ)) × (t.places ≡ others ++ (b, q) ∷ behind))
  region_links n t s agrees (inl v) taken behind b q h = inr (taken, sym (ap (λ (z : Reached). z.places) v.1) ∙ h)
  region_links n t s agrees (inr v) taken behind b q h =
      elim (keys_link (2 ^ commit.bucket_bits) t.line 0 v.0.keys t.places taken behind b q v.1.kept.links (places_low n t agrees)
      (sym (ap (λ (z : Reached). z.places) v.2) ∙ h)) [
        | inl one ↦ inl (record { number = n; few = omega arith; at = t; agrees = agrees; parts = v.0; is = v.1; one = one })
        | inr older ↦ inr older
      ]

  pub all_link : (n : ℕ) (s : Reached) → Agrees commit w n s → (taken behind : List (ℕ × ℕ)) (b q : ℕ)
      → s.places ≡ taken ++ (b, q) ∷ behind → Linked n b q behind
  all_link zero s h taken behind b q parted = absurd (nothing taken (sym (ap (λ (z : Reached). z.places) h) ∙ parted)) where
    nothing : (taken : List (ℕ × ℕ)) → ◌≡◌ {A = List (ℕ × ℕ)} [] (taken ++ (b, q) ∷ behind) → ⊥
    nothing [] e = cc e
    nothing (x ∷ xs) e = cc e
  all_link (suc n) s h taken behind b q parted =
      elim (region_links n h.0 s h.1 h.2 taken behind b q parted) [
        | inl here ↦ here
        | inr older ↦ linked_more n b q behind (all_link n h.0 h.1 older.0 behind b q older.1)
      ]

-- so it is in the prior part of an image
pub prior_links : (image : List ℕ) (n : ℕ) (end : Reached) (prior : IsPrior image n end) (b place : ℕ) (taken behind : List (ℕ × ℕ))
    → end.places ≡ taken ++ (b, place) ∷ behind → IsLink prior b place behind
prior_links image n end prior b place taken behind parted =
    let found = all_link prior.commit (words_in prior.lines) n end prior.agrees taken behind b place parted in
    let one = found.one in
    let at : place_of found.at.line (0 + one.at) ≡ place_of found.at.line one.at = omega arith in
    record {
      number = found.number;
      parts = found.parts;
      place_in = one.at;
      key = one.key;
      at = record {
        stored = record { few = found.few; at = found.at; agrees = found.agrees; is = found.is };
        within = one.within;
        is = one.is;
        bucket = one.bucket;
        place_is = one.place ∙ at;
      };
      next = one.next;
      lower = one.lower;
    }

-- and its previous node is lower
pub key_lower : (image : List ℕ) (n : ℕ) (end : Reached) (prior : IsPrior image n end) (b place m : ℕ) (p : BodyParts) (j : ℕ) (k : KeyPart)
    → IsKeyAt prior b place m p j k → k.prev < place
key_lower image n end prior b place m p j k h =
    let place_is = h.place_is in
    let less = keys_lower (2 ^ prior.commit.bucket_bits) h.stored.at.line 0 p.keys h.stored.at.places h.stored.is.kept.links
    (places_low prior.commit (words_in prior.lines) m h.stored.at h.stored.agrees) j k h.within h.is in
    omega arith

-- ---- and each key entry is among the places

keys_stay : (n line c : ℕ) (ks : List KeyPart) (places : List (ℕ × ℕ)) (b q : ℕ) → IsAmong places b q
    → IsAmong (with_keys n line c ks places) b q
keys_stay n line c [] places b q h = h
keys_stay n line c (k ∷ ks) places b q h =
    keys_stay n line (c + 1) ks ((bucket_of_key n k, place_of line c) ∷ places) b q (record { at = suc h.at; there = h.there })

keys_among : (n line c : ℕ) (ks : List KeyPart) (places : List (ℕ × ℕ)) (j : ℕ) (k : KeyPart) → j < length ks → k ≡ get_or ks j k
    → IsAmong (with_keys n line c ks places) (bucket_of_key n k) (place_of line (c + j))
keys_among n line c [] places j k within is = absurd (omega arith)
keys_among n line c (x ∷ ks) places zero k within is =
    let here : place_of line c ≡ place_of line (c + 0) = omega arith in
    keys_stay n line (c + 1) ks ((bucket_of_key n x, place_of line c) ∷ places) (bucket_of_key n k) (place_of line (c + 0))
    (record { at = 0; there = λ i. Some (bucket_of_key n (sym is i), here i) })
keys_among n line c (x ∷ ks) places (suc j) k within is =
    let further : place_of line (c + 1 + j) ≡ place_of line (c + suc j) = omega arith in
    subst (IsAmong (with_keys n line (c + 1) ks ((bucket_of_key n x, place_of line c) ∷ places)) (bucket_of_key n k)) further
    (keys_among n line (c + 1) ks ((bucket_of_key n x, place_of line c) ∷ places) j k (omega arith) is)

region_stays : (c : Commit) (t s : Reached) (lines : ℕ) (r : List ℕ) (b q : ℕ) → FollowsIn c t lines r s → IsAmong t.places b q
    → IsAmong s.places b q
region_stays c t s lines r b q (inl v) h = subst (λ (z : Reached). IsAmong z.places b q) (sym v.1) h
region_stays c t s lines r b q (inr v) h =
    subst (λ (z : Reached). IsAmong z.places b q) (sym v.2) (keys_stay (2 ^ c.bucket_bits) t.line 0 v.0.keys t.places b q h)

region_among : (c : Commit) (t s : Reached) (lines : ℕ) (r : List ℕ) (p : BodyParts) (j : ℕ) (k : KeyPart) → lines < 2 ^ 16
    → FollowsIn c t lines r s
    → IsRecordAt c t lines r p → j < length p.keys → k ≡ get_or p.keys j k
    → IsAmong s.places (bucket_of_key (2 ^ c.bucket_bits) k) (place_of t.line (0 + j))
region_among c t s lines r p j k small f is within key =
    subst (λ (z : Reached). IsAmong z.places (bucket_of_key (2 ^ c.bucket_bits) k) (place_of t.line (0 + j)))
    (follows_once c t lines r (behind_record c t lines p) s small (inr (p, is, refl)) f)
    (keys_among (2 ^ c.bucket_bits) t.line 0 p.keys t.places j k within key)

all_among : (c : Commit) (w : List ℕ) (n : ℕ) (s : Reached) → Agrees c w n s → (m : ℕ) (t : Reached) (p : BodyParts) (j : ℕ) (k : KeyPart)
    → m < n → Agrees c w m t → IsRecordAt c t (region_lines (drop (4 * t.line) w)) (region (drop (4 * t.line) w)) p → j < length p.keys
    → k ≡ get_or p.keys j k → IsAmong s.places (bucket_of_key (2 ^ c.bucket_bits) k) (place_of t.line (0 + j))
all_among c w zero s h m t p j k less at is within key = absurd (omega arith)
all_among c w (suc n) s h m t p j k less at is within key =
    elim (cases_lt m n) [
      | inl before ↦ region_stays c h.0 s _ _ _ _ h.2 (all_among c w n h.0 h.1 m t p j k before at is within key)
      | inr last ↦ (
          let here : m ≡ n = omega arith in
          let one : h.0 ≡ t = agrees_once c w n h.0 t h.1 (subst (λ i. Agrees c w i t) here at) in
          region_among c t s _ _ p j k (lines_small (slice_index (drop (4 * t.line) w) 0))
          (subst (λ (z : Reached). Follows c w z s) one h.2) is within key)
    ]

pub prior_among : (image : List ℕ) (n : ℕ) (end : Reached) (prior : IsPrior image n end) (b place m : ℕ) (p : BodyParts) (j : ℕ)
    (k : KeyPart)
    → IsKeyAt prior b place m p j k → IsAmong end.places b place
prior_among image n end prior b place m p j k h =
    let at : place_of h.stored.at.line (0 + j) ≡ place_of h.stored.at.line j = omega arith in
    subst (λ x. IsAmong end.places x place) h.bucket
    (subst (IsAmong end.places (bucket_of_key (2 ^ prior.commit.bucket_bits) k)) (at ∙ sym h.place_is)
    (all_among prior.commit (words_in prior.lines) n end prior.agrees m h.stored.at p j k h.stored.few
    h.stored.agrees h.stored.is h.within h.is))
