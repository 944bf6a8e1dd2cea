-- Records and key entries below the base, in the order of their numbers.
use Rattle.std.proofs.Common.{◌≡◌, ℕ, ◌*◌, ◌<◌, ◌≤◌, List, inl, inr, refl, sym, ap, ◌∙◌, subst, arith, drop}
use Rattle.std.specs.Prelude.{Some, slice_get, true}
use Rattle.std.proofs.lemmas.Bool.{cases_lt}
use Rattle.std.proofs.lemmas.Option.{same_Some, slice_get-get_or}
use Rattle.fish_catalog.specs.declared.entry.Entry.{Entry}
use Rattle.fish_catalog.specs.declared.entry.Entry.TheVariants.{Stored, Void}
use Rattle.fish_cold.proofs.Priors.{entry_at, entry_in, line_grows}
use Rattle.fish_cold.specs.Carries.{IsPrior, IsPriorRecord}
use Rattle.fish_cold.specs.Chains.{IsKeyAt}
use Rattle.fish_image.proofs.Agreement.{agrees_first, agrees_number, agrees_once}
use Rattle.fish_image.specs.Log.{Agrees, Follows, IsRecordAt, behind_record, region, region_lines}
use Rattle.fish_image.specs.Reached.{Reached}
use Rattle.fish_image.specs.Stands.{words_in}
use Rattle.fish_layout.proofs.Once.{body_once}
use Rattle.fish_layout.proofs.Outlines.{body_length}
use Rattle.fish_layout.proofs.Sizes.{roomy}
use Rattle.fish_layout.specs.declared.parts.BodyParts.{BodyParts}
use Rattle.fish_layout.specs.declared.parts.KeyPart.{KeyPart}
use Rattle.fish_psf.specs.Records.{is_record}
use Rattle.fish_scan.specs.within.Reading.{IsParsable}
use Rattle.fish_value.specs.declared.field.Form.{Form}

module _ {image : List ℕ} {count : ℕ} {end : Reached} (prior : IsPrior image count end) where
  -- a record has its number
  pub prior_number : (n : ℕ) (p : BodyParts) → IsPriorRecord prior n p → p.number ≡ n
  prior_number n p h = h.is.number ∙ agrees_number prior.commit (words_in prior.lines) n h.at h.agrees

  -- and is the entry there
  pub prior_stored : (n : ℕ) (p : BodyParts) → IsPriorRecord prior n p
      → slice_get end.entries n ≡ Some (Stored p.lane p.form p.payload)
  prior_stored n p h =
      let w = words_in prior.lines in
      let u = behind_record prior.commit h.at (region_lines (drop (4 * h.at.line) w)) p in
      let f : Follows prior.commit w h.at u = inr (p, h.is, refl) in
      entry_at prior.commit w count end prior.agrees n h.at u h.few h.agrees f

  -- the record that an entry is
  pub record IsRecordOf (n lane : ℕ) (form : Form) (payload : List ℕ) : Type 0 where
    pub parts : BodyParts
    pub stored : IsPriorRecord prior n parts
    pub form_is : parts.form ≡ form
    pub payload_is : parts.payload ≡ payload

  record_of : (n lane : ℕ) (form : Form) (payload : List ℕ) (less : n < count) (t u : Reached)
      → Agrees prior.commit (words_in prior.lines) n t
      → (f : Follows prior.commit (words_in prior.lines) t u) → entry_in f ≡ Stored lane form payload → IsRecordOf n lane form payload
  record_of n lane form payload less t u at (inl v) is = absurd cc
  record_of n lane form payload less t u at (inr v) is = record {
    parts = v.0;
    stored = record { few = less; at = t; agrees = at; is = v.1 };
    form_is = cc;
    payload_is = cc;
  }

  -- an entry that is a record is one of the prior part
  pub stored_prior : (n lane : ℕ) (form : Form) (payload : List ℕ) → n < count
      → slice_get end.entries n ≡ Some (Stored lane form payload) → IsRecordOf n lane form payload
  stored_prior n lane form payload less there =
      let w = words_in prior.lines in
      let found = agrees_first prior.commit w n count end less prior.agrees in
      record_of n lane form payload less found.0 found.2.0 found.1 found.2.1
      (same_Some _ _ (sym (entry_at prior.commit w count end prior.agrees n found.0 found.2.0 less found.1 found.2.1) ∙ there))

  -- so its payload is a record of its form
  pub prior_parsable : (n : ℕ) (entry : Entry) → n < count → slice_get end.entries n ≡ Some entry → IsParsable entry
  prior_parsable n Void less there = tt
  prior_parsable n (Stored lane form payload) less there =
      let r = stored_prior n lane form payload less there in
      subst (λ (z : Form × List ℕ). is_record z.0 z.1 ≡ true) (λ i. (r.form_is i, r.payload_is i)) r.stored.is.kept.reads

  -- a number has one record
  pub record_once : (n : ℕ) (p q : BodyParts) → IsPriorRecord prior n p → IsPriorRecord prior n q → p ≡ q
  record_once n p q h g =
      let w = words_in prior.lines in
      let same : g.at ≡ h.at = agrees_once prior.commit w n g.at h.at g.agrees h.agrees in
      let is : IsRecordAt prior.commit h.at (region_lines (drop (4 * h.at.line) w)) (region (drop (4 * h.at.line) w)) q =
      subst (λ (z : Reached). IsRecordAt prior.commit z (region_lines (drop (4 * z.line) w)) (region (drop (4 * z.line) w)) q) same g.is in
      body_once h.is.body is.body (h.is.number ∙ sym is.number)

  -- a lower key entry is of no newer record
  pub key_order : (b c q r n m : ℕ) (p s : BodyParts) (j i : ℕ) (key other : KeyPart) → IsKeyAt prior b q n p j key
      → IsKeyAt prior c r m s i other → r ≤ q → m ≤ n
  key_order b c q r n m p s j i key other h g less =
      elim (cases_lt n m) [
        | inl newer ↦ (
            let w = words_in prior.lines in
            let t = h.stored.at in
            let lines = region_lines (drop (4 * t.line) w) in
            let u = behind_record prior.commit t lines p in
            let f : Follows prior.commit w t u = inr (p, h.stored.is, refl) in
            let grows = line_grows prior.commit w m g.stored.at g.stored.agrees n t u newer h.stored.agrees f in
            let size = h.stored.is.size in
            let full = body_length h.stored.is.body in
            let keys = roomy p in
            let within = h.within in
            let here = h.place_is in
            let there = g.place_is in
            absurd (omega arith))
        | inr same ↦ same
      ]

  -- at one place there is one key entry
  pub key_once : (b c q n m : ℕ) (p s : BodyParts) (j i : ℕ) (key other : KeyPart) → IsKeyAt prior b q n p j key
      → IsKeyAt prior c q m s i other → (n ≡ m) × (p ≡ s) × (key ≡ other)
  key_once b c q n m p s j i key other h g =
      let below = key_order b c q q n m p s j i key other h g (omega arith) in
      let above = key_order c b q q m n s p i j other key g h (omega arith) in
      let same : m ≡ n = omega arith in
      let stored : IsPriorRecord prior n s = subst (λ (z : ℕ). IsPriorRecord prior z s) same g.stored in
      let parts = record_once n p s h.stored stored in
      let late = agrees_once prior.commit (words_in prior.lines) n h.stored.at g.stored.at h.stored.agrees
      (subst (λ (z : ℕ). Agrees prior.commit (words_in prior.lines) z g.stored.at) same g.stored.agrees) in
      let line = ap (λ (z : Reached). z.line) late in
      let here = h.place_is in
      let there = g.place_is in
      let place : j ≡ i = omega arith in
      let one : slice_get p.keys j ≡ Some key = slice_get-get_or p.keys j key h.within ∙ ap Some (sym h.is) in
      let two : slice_get s.keys i ≡ Some other = slice_get-get_or s.keys i other g.within ∙ ap Some (sym g.is) in
      (sym same, parts, same_Some key other (sym one ∙ (λ k. slice_get (parts k).keys (place k)) ∙ two))
