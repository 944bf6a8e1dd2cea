-- A record's words as its key entries are linked one after the other.
use Rattle.std.proofs.Common.{◌≡◌, ℕ, suc, ◌+◌, ◌*◌, ◌/◌, ◌%◌, ◌^◌, ◌<◌, ◌≤◌, List, [], ◌∷◌, ◌++◌}
use Rattle.std.proofs.Common.{length, take, get_or, set}
use Rattle.std.proofs.Common.{refl, ap, sym, ◌∙◌, subst, arith, append_assoc, length-append, get_or-set_other}
use Rattle.std.proofs.Common.{get_or-set_same}
use Rattle.std.proofs.Math.Decide.{ℕ_discrete, dec_lt}
use Rattle.std.specs.Prelude.{Some, None, Option, slice_get, ◌==◌, if◌then◌else◌, Bool, true, false, map}
use Rattle.std.specs.List.{range_with_len}
use Rattle.std.proofs.lemmas.Bool.{eq-eqb, eqb-true}
use Rattle.std.proofs.lemmas.List.{ext_get_or, length-set, take_all, take_at}
use Rattle.std.proofs.Math.Seq.{take-append_seam}
use Rattle.fish_image.proofs.Spelling.{parted}
use Rattle.fish_image.specs.Progress.{AreHeads}
use Rattle.fish_image.specs.Reached.{AreLinked, bucket_of_key, head_of, with_keys}
use Rattle.fish_layout.specs.Pages.{place_of}
use Rattle.fish_flush.specs.within.Linking.{AreSpelled}
use Rattle.fish_layout.proofs.Buckets.{bucket_of-key}
use Rattle.fish_layout.proofs.Clearing.{head_stays}
use Rattle.fish_layout.proofs.Links.{length-relink, relink, relink-none, relink-relink, relinked, relinked_at}
use Rattle.fish_layout.proofs.Links.{relinked_key, relinked_lines, relinked_proper, unlinked_is}
use Rattle.fish_layout.proofs.Links.{AreProperKeys-relink}
use Rattle.fish_layout.proofs.Sizes.{length-body_words}
use Rattle.fish_layout.proofs.Spelled.{body_says}
use Rattle.fish_layout.specs.Body.{IsBody, body_words}
use Rattle.fish_layout.specs.Bucket.{bucket_of, byte_behind}
use Rattle.fish_layout.specs.Cleared.{IsKeyWord, Spells, entry_at, unlink, unlinked}
use Rattle.fish_layout.specs.Entry.{entry_id, value_offset, value_size}
use Rattle.fish_layout.specs.Hash.{bucket_in, fnv1a}
use Rattle.fish_layout.specs.Header.{keys_of}
use Rattle.fish_layout.specs.declared.parts.BodyParts.{BodyParts}
use Rattle.fish_layout.specs.declared.parts.KeyPart.{KeyPart}
use Rattle.std.specs.Int.{to_le_bytes}
use Rattle.std.specs.Int.Width.{w16}

-- ---- buckets

-- the bucket of a key entry depends on no previous node
bucket_same : (n c : ℕ) (e f : ℕ → ℕ) → e 0 ≡ f 0 → e (entry_at c + 1) ≡ f (entry_at c + 1) → e (entry_at c + 2) ≡ f (entry_at c + 2)
    → ((i : ℕ) → e (entry_at (keys_of (f 0)) + i) ≡ f (entry_at (keys_of (f 0)) + i)) → bucket_of n e c ≡ bucket_of n f c
unfolding bucket_of
bucket_same n c e f head second third rest =
    let bytes : (ℕ → ℕ) → ℕ → ℕ → ℕ → List ℕ =
    λ g keys offset size. map (λ j. byte_behind g (entry_at keys) (offset + j)) (range_with_len 0 size) in
    let one : bytes e (keys_of (e 0)) (value_offset (e (entry_at c + 2))) (value_size (e (entry_at c + 2)))
    ≡ bytes e (keys_of (f 0)) (value_offset (f (entry_at c + 2))) (value_size (f (entry_at c + 2))) =
    λ i. bytes e (keys_of (head i)) (value_offset (third i)) (value_size (third i)) in
    let two : bytes e (keys_of (f 0)) (value_offset (f (entry_at c + 2))) (value_size (f (entry_at c + 2)))
    ≡ bytes f (keys_of (f 0)) (value_offset (f (entry_at c + 2))) (value_size (f (entry_at c + 2))) =
    λ i. map (λ j. rest ((value_offset (f (entry_at c + 2)) + j) / 8) i / 256 ^ ((value_offset (f (entry_at c + 2)) + j) % 8) % 256)
    (range_with_len 0 (value_size (f (entry_at c + 2)))) in
    (λ i. bucket_in (fnv1a (to_le_bytes w16 (entry_id (second i)) ++ (one ∙ two) i)) n)

-- ---- key entries

-- key entries of two lists of keys, one after the other
with_more : (n line c : ℕ) (xs : List KeyPart) (k : KeyPart) (places : List (ℕ × ℕ))
    → with_keys n line c (xs ++ k ∷ []) places ≡ (bucket_of_key n k, place_of line (c + length xs)) ∷ with_keys n line c xs places
with_more n line c [] k places =
    let same : c ≡ c + 0 = omega arith in
    ap (λ (z : ℕ). (bucket_of_key n k, place_of line z) ∷ places) same
with_more n line c (x ∷ xs) k places =
    let same : c + 1 + length xs ≡ c + suc (length xs) = omega arith in
    with_more n line (c + 1) xs k ((bucket_of_key n x, place_of line c) ∷ places)
    ∙ ap (λ (z : ℕ). (bucket_of_key n k, place_of line z)
    ∷ with_keys n line (c + 1) xs ((bucket_of_key n x, place_of line c) ∷ places)) same

-- previous nodes don't change what keys are there
with_relinked : (r : ℕ → ℕ) (n line c d : ℕ) (ks : List KeyPart) (places : List (ℕ × ℕ))
    → with_keys n line c (relink r d ks) places ≡ with_keys n line c ks places
with_relinked r n line c d [] places = refl
with_relinked r n line c d (k ∷ ks) places =
    with_relinked r n line (c + 1) (d + 1) ks ((bucket_of_key n k, place_of line c) ∷ places)

-- the previous node of a key, where it is there, after these key entries
abbrev pub prev_in : ℕ → List (ℕ × ℕ) → Option KeyPart → ℕ
prev_in n places None = 0
prev_in n places (Some k) = head_of places (bucket_of_key n k)

-- the previous nodes that a record's keys have in an image
abbrev pub prevs : ℕ → ℕ → List KeyPart → List (ℕ × ℕ) → ℕ → ℕ
prevs n line keys places c = prev_in n (with_keys n line 0 (take c keys) places) (slice_get keys c)

-- the first ones of a list
front_of : (xs ks : List KeyPart) (c : ℕ) → length xs ≡ c → take c (xs ++ ks) ≡ xs
front_of xs ks c size = ap (λ (z : ℕ). take z (xs ++ ks)) (sym size) ∙ take-append_seam xs ks

-- a key entry is at the place that those before it end
there_of : (xs : List KeyPart) (k : KeyPart) (ks : List KeyPart) → slice_get (xs ++ k ∷ ks) (length xs) ≡ Some k
there_of [] k ks = refl
there_of (x ∷ xs) k ks = there_of xs k ks

-- so they are linked
linked_from : (n line : ℕ) (all xs ks : List KeyPart) (places : List (ℕ × ℕ)) → all ≡ xs ++ ks
    → AreLinked n line (length xs) (relink (prevs n line all places) (length xs) ks) (with_keys n line 0 xs places)
linked_from n line all xs [] places is = tt
linked_from n line all xs (k ∷ ks) places is =
    let front : take (length xs) all ≡ xs = ap (λ (l : List KeyPart). take (length xs) l) is ∙ front_of xs (k ∷ ks) (length xs) refl in
    let there : slice_get all (length xs) ≡ Some k = ap (λ (l : List KeyPart). slice_get l (length xs)) is ∙ there_of xs k ks in
    let prev : prevs n line all places (length xs) ≡ head_of (with_keys n line 0 xs places) (bucket_of_key n k) =
    λ i. prev_in n (with_keys n line 0 (front i) places) (there i) in
    let size : length (xs ++ k ∷ []) ≡ length xs + 1 = length-append xs (k ∷ []) in
    let rest = linked_from n line all (xs ++ k ∷ []) ks places (is ∙ sym (append_assoc xs (k ∷ []) ks)) in
    let zero_ : 0 + length xs ≡ length xs = omega arith in
    let more : with_keys n line 0 (xs ++ k ∷ []) places
    ≡ (bucket_of_key n k, place_of line (length xs)) ∷ with_keys n line 0 xs places =
    with_more n line 0 xs k places
    ∙ ap (λ (z : ℕ). (bucket_of_key n k, place_of line z) ∷ with_keys n line 0 xs places) zero_ in (
      prev,
      subst (λ (z : ℕ × List (ℕ × ℕ)). AreLinked n line z.0 (relink (prevs n line all places) z.0 ks) z.1) (λ i. (size i, more i)) rest,
    )

-- ---- heads

-- one key entry more
first_of_two : (t : Bool) (x y : ℕ) → t ≡ true → (if t then x else y) ≡ x
first_of_two true x y h = refl
first_of_two false x y h = absurd (cc)

-- where the test fails it is the second
second_of_two : (t : Bool) (x y : ℕ) → (t ≡ true → ⊥) → (if t then x else y) ≡ y
second_of_two true x y h = absurd (h refl)
second_of_two false x y h = refl

-- with one more place, the head of its bucket is that place
heads_more : (n : ℕ) (places : List (ℕ × ℕ)) (heads : List ℕ) (b p : ℕ) → AreHeads n places heads → b < n
    → AreHeads n ((b, p) ∷ places) (set heads b p)
heads_more n places heads b p h less = record {
  size = length-set heads b p ∙ h.size;
  each = λ other within. elim (ℕ_discrete other b) as (λ _. get_or (set heads b p) other 0 ≡ head_of ((b, p) ∷ places) other) [
    | yes same ↦ ap (λ (k : ℕ). get_or (set heads b p) k 0) same
        ∙ get_or-set_same heads b p 0 (let size = h.size in omega arith)
        ∙ sym (first_of_two (b == b) p (head_of places b) (eq-eqb b b refl)) ∙ ap (head_of ((b, p) ∷ places)) (sym same)
    | no apart ↦ get_or-set_other heads b other p 0 apart ∙ h.each other within
        ∙ sym (second_of_two (b == other) p (head_of places other) (λ same. apart (sym (eqb-true b other same))))
  ];
}

-- ---- words

-- a record with its keys linked
abbrev pub linked_parts : ℕ → ℕ → BodyParts → List (ℕ × ℕ) → BodyParts
linked_parts n line q places = relinked (prevs n line q.keys places) q

-- those of the linked record up to its key entry c, and the rest as they were; the heads have the first c key entries
pub record HasLinkedTo (line c : ℕ) (q : BodyParts) (words heads heads' out : List ℕ) (places : List (ℕ × ℕ)) : Type 0 where
  pub done : (i : ℕ) → i < 1 + 3 * c → get_or out i 0 ≡ get_or (body_words (linked_parts (length heads) line q places)) i 0
  pub rest : (i : ℕ) → 1 + 3 * c ≤ i → get_or out i 0 ≡ get_or words i 0
  pub heads_are : AreHeads (length heads) (with_keys (length heads) line 0 (take c q.keys) places) heads'

-- so it is where the words are a record's; and before the first nothing changed
pub record HasLinked (line c : ℕ) (words heads heads' out : List ℕ) : Type 0 where
  pub none : c ≡ 0 → (out ≡ words) × (heads' ≡ heads)
  pub size : length out ≡ length words
  pub linked : (q : BodyParts) (places : List (ℕ × ℕ)) → IsBody q words → AreHeads (length heads) places heads
      → HasLinkedTo line c q words heads heads' out places

module _ (line : ℕ) (words heads : List ℕ) where
  -- none is linked at first
  pub none_linked : HasLinked line 0 words heads heads words
  none_linked = record {
    none = λ z. (refl, refl);
    size = refl;
    linked = λ q places body are. record {
      done = λ i less.
          let first : i ≡ 0 = omega arith in
          let r = prevs (length heads) line q.keys places in
          subst (λ (j : ℕ). get_or words j 0 ≡ get_or (body_words (linked_parts (length heads) line q places)) j 0) (sym first)
          (ap (λ (l : List ℕ). get_or l 0 0) body.is ∙ sym (relinked_at r q 0 (head_stays (length q.keys))));
      rest = λ i more. refl;
      heads_are = are;
    };
  }

  -- no word has changed but the first ones of key entries
  plain_same : (q : BodyParts) (c : ℕ) (heads' out : List ℕ) (places : List (ℕ × ℕ)) → IsBody q words
      → HasLinkedTo line c q words heads heads' out places → (i : ℕ) → ¬ IsKeyWord (length q.keys) i → get_or out i 0 ≡ get_or words i 0
  plain_same q c heads' out places body was i plain = elim (dec_lt i (1 + 3 * c)) [
    | yes before ↦ was.done i before ∙ relinked_at (prevs (length heads) line q.keys places) q i plain
        ∙ sym (ap (λ (l : List ℕ). get_or l i 0) body.is)
    | no behind ↦ was.rest i (omega arith)
  ]

  -- so the bucket of a key entry is its key's
  pub key_bucket : (q : BodyParts) (c : ℕ) (k : KeyPart) (n : ℕ) (out : List ℕ) → IsBody q words
      → ((i : ℕ) → ¬ IsKeyWord (length q.keys) i → get_or out i 0 ≡ get_or words i 0)
      → slice_get q.keys c ≡ Some k → c < length q.keys → bucket_of n (λ i. get_or out i 0) c ≡ bucket_of_key n k
  key_bucket q c k n out body stays there less =
      let e : ℕ → ℕ = λ i. get_or out i 0 in
      let p : BodyParts = relinked (λ _. 0) q in
      let f : ℕ → ℕ = λ i. get_or (body_words p) i 0 in
      let same : (i : ℕ) → ¬ IsKeyWord (length q.keys) i → e i ≡ f i =
      λ i plain. stays i plain ∙ ap (λ (l : List ℕ). get_or l i 0) body.is ∙ sym (relinked_at (λ _. 0) q i plain) in
      let keys : keys_of (f 0) ≡ length q.keys =
      ap keys_of (sym (same 0 (head_stays (length q.keys))) ∙ stays 0 (head_stays (length q.keys))) ∙ (body_says body).keys in
      let spells : Spells (unlinked q) f =
      subst (λ (z : BodyParts). Spells z f) (unlinked_is q) (record {
        proper = relinked_proper (λ _. 0) q body.proper;
        unlinked = subst (λ (z : List KeyPart). Rattle.fish_layout.specs.Cleared.AreUnlinked z) (sym (relink-none 0 q.keys))
            (Rattle.fish_layout.proofs.Links.AreUnlinked-unlink q.keys);
        words = λ i. refl;
      }) in
      bucket_same n c e f (same 0 (head_stays (length q.keys)))
      (same (entry_at c + 1) (λ key. (let m = key.1 in omega arith)))
      (same (entry_at c + 2) (λ key. (let m = key.1 in omega arith)))
      (λ i. same (entry_at (keys_of (f 0)) + i) (λ key. (let m = key.0 in omega arith)))
      ∙ bucket_of-key n c (record k { prev = 0 }) spells (Rattle.fish_flush.proofs.TableRegions.unlink_get q.keys c k there)

  module _ (c : ℕ) (heads' out : List ℕ) (h : HasLinked line c words heads heads' out) where
    -- one more is linked
    pub one_linked : (b prev at p : ℕ) → length heads' ≡ length heads → c < keys_of (get_or words 0 0)
        → b ≡ bucket_of (length heads) (λ i. get_or out i 0) c → b < length heads → prev ≡ get_or heads' b 0 → at ≡ 1 + 3 * c
        → p ≡ place_of line c → 3 * keys_of (get_or words 0 0) < length words
        → HasLinked line (c + 1) words heads (set heads' b p) (set out at prev)
    one_linked b prev at p same_size counts bucket fits prev_is at_is place room = record {
      none = λ z. absurd (omega arith);
      size = length-set out at prev ∙ h.size;
      linked = λ q places body are.
          let n : ℕ = length heads in
          let was = h.linked q places body are in
          let keys = (body_says body).keys in
          let less : c < length q.keys = omega arith in
          let t = parted q.keys c less in
          let k : KeyPart = t.0 in
          let r = prevs n line q.keys places in
          let places' = with_keys n line 0 (take c q.keys) places in
          let own : b ≡ bucket_of_key n k =
          bucket ∙ key_bucket q c k n out body (plain_same q c heads' out places body was) t.1 less in
          let value : prev ≡ r c =
          prev_is ∙ was.heads_are.each b fits ∙ ap (head_of places') own
          ∙ prev_of places' (slice_get q.keys c) k t.1 in
          let size = h.size in
          let inside : at < length out = omega arith in
          let key : IsKeyWord (length q.keys) (1 + 3 * c) = (omega arith, omega arith) in
          let third : (1 + 3 * c) / 3 ≡ c = omega arith in
          record {
            done = λ i small. elim (ℕ_discrete i at)
                as (λ _. get_or (set out at prev) i 0 ≡ get_or (body_words (linked_parts n line q places)) i 0) [
                  | yes here ↦ ap (λ (j : ℕ). get_or (set out at prev) j 0) here
                      ∙ get_or-set_same out at prev 0 inside ∙ value
                      ∙ sym (relinked_key r q (1 + 3 * c) key ∙ ap r third)
                      ∙ ap (λ (j : ℕ). get_or (body_words (linked_parts n line q places)) j 0) (sym (here ∙ at_is))
                  | no apart ↦ get_or-set_other out at i prev 0 apart ∙ (elim (dec_lt i (1 + 3 * c)) [
                    | yes before ↦ was.done i before
                    | no behind ↦ was.rest i (omega arith) ∙ ap (λ (l : List ℕ). get_or l i 0) body.is
                        ∙ sym (relinked_at r q i (λ other. (let m = other.1 in omega arith)))
                  ])
                ];
            rest = λ i more. get_or-set_other out at i prev 0 (λ e. omega arith) ∙ was.rest i (omega arith);
            heads_are = subst (λ (z : List (ℕ × ℕ)). AreHeads n z (set heads' b p))
                (sym (ap (λ (l : List KeyPart). with_keys n line 0 l places) t.3 ∙ with_more n line 0 (take c q.keys) k places
                ∙ (λ i. (sym own i, place_here q.keys less i) ∷ places')))
                (heads_more n places' heads' b p was.heads_are fits);
          };
    }
      where
        prev_of : (ps : List (ℕ × ℕ)) (o : Option KeyPart) (k : KeyPart) → o ≡ Some k
            → head_of ps (bucket_of_key (length heads) k) ≡ prev_in (length heads) ps o
        prev_of ps o k is = sym (ap (prev_in (length heads) ps) is)

        place_here : (ks : List KeyPart) → c < length ks → place_of line (0 + length (take c ks)) ≡ p
        place_here ks less =
            let size = Rattle.std.proofs.lemmas.List.length-take-le c ks (omega arith) in
            omega arith

    -- once all are, the words are those of a record that an image may have
    pub all_linked : keys_of (get_or words 0 0) ≤ c → c ≤ keys_of (get_or words 0 0) → AreSpelled line words heads heads' out
    all_linked more upto = record {
      none = λ zero_. h.none (omega arith);
      linked = λ q places body are.
          let n : ℕ = length heads in
          let was = h.linked q places body are in
          let r = prevs n line q.keys places in
          let p : BodyParts = linked_parts n line q places in
          let keys = (body_says body).keys in
          let all : take c q.keys ≡ q.keys = take_all c q.keys (omega arith) in
          let lines = relinked_lines r q in
          let size = h.size in
          let own = ap (λ (l : List ℕ). length l) body.is ∙ length-body_words q in
          let whole = length-body_words p in
          record {
            p = p;
            size = size;
            body = record {
              proper = relinked_proper r q body.proper;
              is = ext_get_or 0 out (body_words p) (omega arith) (λ i less. elim (dec_lt i (1 + 3 * c)) [
                | yes before ↦ was.done i before
                | no behind ↦ was.rest i (omega arith) ∙ ap (λ (l : List ℕ). get_or l i 0) body.is
                    ∙ sym (relinked_at r q i (λ other. (let m = other.0 in omega arith)))
              ]);
            };
            parts = sym (unlinked_is p) ∙ ap (λ (z : List KeyPart). record q { keys = z }) (relink-relink (λ _. 0) r 0 q.keys)
                ∙ unlinked_is q;
            links = linked_from n line q.keys [] q.keys places refl;
            heads_are = subst (λ (z : List (ℕ × ℕ)). AreHeads n z heads')
                (ap (λ (l : List KeyPart). with_keys n line 0 l places) all ∙ sym (with_relinked r n line 0 0 q.keys places)) was.heads_are;
          };
    }
