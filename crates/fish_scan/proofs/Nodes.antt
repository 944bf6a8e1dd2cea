-- Entries of a chain in one moment: which record each is of, and their order.
use Rattle.std.proofs.Common.{◌≡◌, ℕ, ◌+◌, ◌*◌, ◌<◌, ◌≤◌, zero, suc, List, [], ◌∷◌, length, refl, sym, ap, ◌∙◌}
use Rattle.std.proofs.Common.{subst, arith, Some, slice_get}
use Rattle.std.proofs.Math.Decide.{ℕ_discrete, dec_lt}
use Rattle.std.proofs.lemmas.Option.{same_Some, slice_get_read}
use Rattle.fish_chain.specs.Values.{HasValue, record_words_at}
use Rattle.fish_layout.proofs.Buckets.{entry_id-key, entry_number-key}
use Rattle.fish_layout.proofs.Entries.{some_element}
use Rattle.fish_layout.proofs.Spelled.{spelled_keys}
use Rattle.fish_layout.specs.Body.{AreProperKeys, IsApart}
use Rattle.fish_layout.specs.Cleared.{Spells, entry_at}
use Rattle.fish_layout.specs.Entry.{entry_id}
use Rattle.fish_layout.proofs.Once.{spelled_once}
use Rattle.fish_layout.specs.declared.parts.BodyParts.{BodyParts}
use Rattle.fish_layout.specs.declared.parts.KeyPart.{KeyPart}
use Rattle.fish_value.specs.declared.value.Value.{Value}
use Rattle.fish_rule.proofs.laws.Regions.{one_region, starts_rise}
use Rattle.fish_rule.proofs.laws.Moments.{stored_above, stored_claimed, stored_parts}
use Rattle.fish_rule.proofs.laws.ChainFacts.{within_region}
use Rattle.fish_rule.specs.Rule.{Rule}
use Rattle.fish_rule.specs.ChainFacts.{IsNodeIn}
use Rattle.fish_rule.specs.World.{World, body, low}
use Rattle.fish_rule.specs.declared.view.Key.{Key}

-- ---- ids

-- an entry that is apart from others has not the id and the value of one of them
apart_at : (k : KeyPart) (ks : List KeyPart) (j : ℕ) (b : KeyPart) → IsApart k ks → slice_get ks j ≡ Some b
    → b.id ≡ k.id → b.value ≡ k.value → ⊥
apart_at k [] j b apart at same value = cc
apart_at k (x ∷ ks) zero b apart at same value =
    let is = same_Some x b at in
    apart.0 (ap (λ (z : KeyPart). z.id) is ∙ same) (ap (λ (z : KeyPart). z.value) is ∙ value)
apart_at k (x ∷ ks) (suc j) b apart at same value = apart_at k ks j b apart.1 at same value

-- a record has one key with an id and a value
keys_once : (least : ℕ) (ks : List KeyPart) (i j : ℕ) (a b : KeyPart) → AreProperKeys least ks → slice_get ks i ≡ Some a
    → slice_get ks j ≡ Some b → a.id ≡ b.id → a.value ≡ b.value → i ≡ j
keys_once least [] i j a b proper at_a at_b same value = absurd cc
keys_once least (k ∷ ks) zero zero a b proper at_a at_b same value = refl
keys_once least (k ∷ ks) zero (suc j) a b proper at_a at_b same value =
    let is = same_Some k a at_a in
    absurd (apart_at k ks j b proper.4 at_b (sym same ∙ sym (ap (λ (z : KeyPart). z.id) is))
    (sym value ∙ sym (ap (λ (z : KeyPart). z.value) is)))
keys_once least (k ∷ ks) (suc i) zero a b proper at_a at_b same value =
    let is = same_Some k b at_b in
    absurd (apart_at k ks i a proper.4 at_a (same ∙ sym (ap (λ (z : KeyPart). z.id) is))
    (value ∙ sym (ap (λ (z : KeyPart). z.value) is)))
keys_once least (k ∷ ks) (suc i) (suc j) a b proper at_a at_b same value =
    ap suc (keys_once k.id ks i j a b proper.3 at_a at_b same value)

-- ---- places

module _ {k : Key} {w : World} (r : Rule k w) where
  -- the value of an entry, by the parts that the words spell
  value_at : (n c : ℕ) (value : Value) (key : KeyPart) (q : BodyParts) → (s : Spells q (record_words_at n w)) → slice_get q.keys c
      ≡ Some key
      → HasValue n c value k w → key.value ≡ value
  value_at n c value key q s there has =
      let number : has.parts.number ≡ q.number = sym (entry_number-key c has.key has.spells has.there) ∙ entry_number-key c key s there in
      let own : has.parts ≡ q = spelled_once has.spells s number in
      let same : Some has.key ≡ Some key = sym has.there ∙ ap (λ (z : BodyParts). slice_get z.keys c) own ∙ there in
      sym (ap (λ (z : KeyPart). z.value) (same_Some has.key key same)) ∙ has.is

  -- an entry lies within its record's region
  node_within : (b n c p id : ℕ) → IsNodeIn b n c p id k w → (r.start n * 4 ≤ p) × (p < r.start (suc n) * 4)
  node_within b n c p id h = within_region r b n c p (stored_claimed r n h.entry.stored) h.entry

  -- at one place is one entry
  pub node_once : (b n c b' n' c' p id id' : ℕ) → IsNodeIn b n c p id k w → IsNodeIn b' n' c' p id' k w
      → (n ≡ n') × (c ≡ c') × (id ≡ id')
  node_once b n c b' n' c' p id id' h h' =
      let here = node_within b n c p id h in
      let there = node_within b' n' c' p id' h' in
      let same : n ≡ n' = one_region k w.count w.line r.start r.space.regions n n' p
      (stored_above r n h.entry.stored) (stored_claimed r n h.entry.stored)
      (stored_above r n' h'.entry.stored) (stored_claimed r n' h'.entry.stored) here.0 here.1 there.0 there.1 in
      let place = h.entry.is.is in
      let place' = h'.entry.is.is in
      let line = ap (λ (z : ℕ). low (w.dir z)) same in
      let entry : c ≡ c' = omega arith in (
        same,
        entry,
        sym h.definition ∙ ap (λ (z : ℕ × ℕ). entry_id
            (body w.log (low (w.dir z.0)) (entry_at z.1 + 1)))
            (λ i. (same i, entry i)) ∙ h'.definition,
      )

  -- a record has one entry of a definition with a value
  node_alone : (b n c p b' c' p' id : ℕ) (value : Value) → IsNodeIn b n c p id k w → IsNodeIn b' n c' p' id k w
      → HasValue n c value k w → HasValue n c' value k w → c ≡ c'
  node_alone b n c p b' c' p' id value h h' has has' =
      let t = stored_parts r n h.entry.stored in
      let keys = spelled_keys t.1.spells in
      let counts = h.entry.is.counts in
      let counts' = h'.entry.is.counts in
      let a = some_element t.0.keys c (omega arith) in
      let b = some_element t.0.keys c' (omega arith) in
      let at_a = slice_get_read t.0.keys (length t.0.keys) c a.0 refl (omega arith) a.1 in
      let at_b = slice_get_read t.0.keys (length t.0.keys) c' b.0 refl (omega arith) b.1 in
      keys_once 0 t.0.keys c c' a.0 b.0 t.1.spells.proper.keys at_a at_b
      (sym (entry_id-key c a.0 t.1.spells at_a) ∙ h.definition ∙ sym h'.definition ∙ entry_id-key c' b.0 t.1.spells at_b)
      (value_at n c value a.0 t.0 t.1.spells at_a has ∙ sym (value_at n c' value b.0 t.0 t.1.spells at_b has'))

  -- of two entries of one definition with one value the lower one is that of an older record
  pub node_older : (b n c p b' n' c' p' id : ℕ) (value : Value) → IsNodeIn b n c p id k w → IsNodeIn b' n' c' p' id k w
      → HasValue n c value k w → HasValue n' c' value k w → p < p' → n < n'
  node_older b n c p b' n' c' p' id value h h' has has' below = pick (dec_lt n n') (ℕ_discrete n n')
    where
      here : (r.start n * 4 ≤ p) × (p < r.start (suc n) * 4)
      here = node_within b n c p id h

      there : (r.start n' * 4 ≤ p') × (p' < r.start (suc n') * 4)
      there = node_within b' n' c' p' id h'

      pick : Dec (n < n') → Dec (n ≡ n') → n < n'
      pick (yes less) d = less
      pick (no more) (yes same) =
          let entry : c ≡ c' = node_alone b n c p b' c' p' id value h (subst (λ (z : ℕ). IsNodeIn b' z c' p' id k w) (sym same) h')
          has (subst (λ (z : ℕ). HasValue z c' value k w) (sym same) has') in
          let place = h.entry.is.is in
          let place' = h'.entry.is.is in
          let line = ap (λ (z : ℕ). low (w.dir z)) same in
          absurd (omega arith)
      pick (no more) (no other) =
          let above = stored_above r n' h'.entry.stored in
          let claimed = stored_claimed r n h.entry.stored in
          let rises = starts_rise k w.count w.line r.start r.space.regions (suc n') n (omega arith) (omega arith) (omega arith) in
          let a = here.0 in
          let b = there.1 in
          absurd (omega arith)
