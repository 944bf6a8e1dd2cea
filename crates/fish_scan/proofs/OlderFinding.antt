-- What is found down a chain below the base: the records of a range that have a value in an entry that was passed.
use Rattle.std.proofs.Common.{◌≡◌, ℕ, ◌+◌, ◌^◌, ◌<◌, ◌≤◌, ◌⊎◌, List, [], ◌∷◌, ◌++◌, inl, inr, refl, sym, ap, ◌∙◌, subst, arith}
use Rattle.std.specs.Prelude.{Contains, Some, slice_get}
use Rattle.std.proofs.lemmas.Bool.{cases_lt}
use Rattle.std.proofs.lemmas.Option.{same_Some}
use Rattle.fish_catalog.specs.declared.entry.Entry.TheVariants.{Stored}
use Rattle.fish_cold.proofs.ChainLemmas.{prior_among}
use Rattle.fish_cold.specs.Carries.{IsPrior, IsPriorRecord}
use Rattle.fish_cold.specs.Chains.{IsKeyAt}
use Rattle.fish_image.specs.Log.{values_under}
use Rattle.fish_image.specs.Newest.{IsAmong}
use Rattle.fish_image.specs.Reached.{Reached}
use Rattle.fish_lang.specs.Definition.{Definition}
use Rattle.fish_layout.specs.Hash.{bucket_in, key_hash_of}
use Rattle.fish_layout.specs.Pages.{place_of}
use Rattle.fish_layout.specs.declared.parts.BodyParts.{BodyParts}
use Rattle.fish_layout.specs.declared.parts.KeyPart.{KeyPart}
use Rattle.fish_psf.specs.Records.{evaluation}
use Rattle.fish_psf.specs.SelectLaw.{FallsBelow}
use Rattle.fish_rule.proofs.laws.Lists.{among_left, among_right}
use Rattle.fish_rule.specs.Views.{Among}
use Rattle.fish_scan.proofs.Finding.{falls_both}
use Rattle.fish_scan.proofs.Lists.{among_contains, among_last, contains_among}
use Rattle.fish_scan.proofs.PriorChains.{IsHere, IsOn}
use Rattle.fish_scan.proofs.PriorRecords.{key_once, prior_stored, stored_prior}
use Rattle.fish_scan.proofs.UnderValues.{has_under, under_has}
use Rattle.fish_scan.specs.within.Older.{FindsOlder, IsOlderMatch}
use Rattle.fish_value.specs.declared.field.Form.{Form}
use Rattle.fish_value.specs.declared.row.Row.{Row}
use Rattle.fish_value.specs.declared.value.Value.{Value}

-- the row of a record
abbrev pub row_of : ℕ → List ℕ → Row
row_of n payload = record { number = n; payload = payload }

module _ {image : List ℕ} {count : ℕ} {end : Reached} (prior : IsPrior image count end) (b id : ℕ) (def : Definition) (value : Value)
    (from to : ℕ) where
  -- each record of the range has its key entries by the definition
  abbrev pub AreCovered : Type 0
  AreCovered = (n : ℕ) (p : BodyParts) → IsPriorRecord prior n p → from ≤ n → n < to
      → values_under id p.keys ≡ evaluation def p.form p.payload

  -- these rows were found, the last at a number; the others of the range are of entries that are left
  pub record IsFinding (rest : List (ℕ × ℕ)) (below top : ℕ) (rows : List Row) : Type 0 where
    pub falls : FallsBelow to rows
    pub above : (row : Row) → Among row rows → top ≤ row.number
    pub least : (row : Row) → Among row rows → from ≤ row.number
    pub sound : (row : Row) → Among row rows → IsOlderMatch end.entries def value row
    pub most : top ≤ to
    pub last : top < to → (row : Row) × Among row rows × (row.number ≡ top) × (below ≤ top + 1)
    pub complete : (q n : ℕ) (p : BodyParts) (j : ℕ) (key : KeyPart) → IsKeyAt prior b q n p j key → key.id ≡ id → key.value ≡ value
        → from ≤ n → n < to → Among (row_of n p.payload) rows ⊎ IsAmong rest b q

  -- none yet
  pub find_start : (below : ℕ) → IsFinding end.places below to []
  find_start below = record {
    falls = tt;
    above = λ row m. elim m [ ];
    least = λ row m. elim m [ ];
    sound = λ row m. elim m [ ];
    most = omega arith;
    last = λ less. absurd (omega arith);
    complete = λ q n p j key at own is after before. inr (prior_among image count end prior b q n p j key at);
  }

  -- a record that isn't below the last one that was found was found
  found_before : (rest : List (ℕ × ℕ)) (below top n : ℕ) (p : BodyParts) (rows : List Row) → IsFinding rest below top rows
      → IsPriorRecord prior n p → n < below → n < to → top ≤ n → Among (row_of n p.payload) rows
  found_before rest below top n p rows h stored less before more =
      let t = h.last (omega arith) in
      let r : Row = t.0 in
      let is = t.2 in
      let under = t.3 in
      let same : r.number ≡ n = omega arith in
      let m = h.sound r t.1 in
      let there : slice_get end.entries r.number ≡ Some (Stored p.lane p.form p.payload) =
      subst (λ (z : ℕ). slice_get end.entries z ≡ Some (Stored p.lane p.form p.payload)) (sym same) (prior_stored prior n p stored) in
      let both : Stored m.0 m.1 r.payload ≡ Stored p.lane p.form p.payload = same_Some _ _ (sym m.2 ∙ there) in
      let payload : r.payload ≡ p.payload = cc in
      subst (λ (z : Row). Among z rows) (λ i. row_of (same i) (payload i)) t.1

  module _ (place below top : ℕ) (on : IsOn prior b place below) (here : IsHere prior b place below on) where
    -- an entry that was passed gives no row: what is left is after it
    pub find_pass : (rows : List Row) → IsFinding on.rest below top rows
        → (here.number < top → here.key.id ≡ id → here.key.value ≡ value → ⊥)
        → IsFinding here.next.rest (here.number + 1) top rows
    find_pass rows h other = record {
      falls = h.falls;
      above = h.above;
      least = h.least;
      sound = h.sound;
      most = h.most;
      last = λ less. let t = h.last less in let under = t.3 in let less_ = here.less in (t.0, t.1, t.2, omega arith);
      complete = λ q n p j key at own is after before. elim (h.complete q n p j key at own is after before) [
        | inl m ↦ inl m
        | inr left ↦ elim (here.split q left) [
          | inl same ↦ inl (passed q n p j key at own is before same)
          | inr more ↦ inr more
        ]
      ];
    }
      where
        passed : (q n : ℕ) (p : BodyParts) (j : ℕ) (key : KeyPart) → IsKeyAt prior b q n p j key → key.id ≡ id → key.value ≡ value
            → n < to → q ≡ place → Among (row_of n p.payload) rows
        passed q n p j key at own is before same =
            let one = key_once prior b b place n here.number p here.parts j here.place_in key here.key
            (subst (λ (z : ℕ). IsKeyAt prior b z n p j key) same at) here.at in
            let number = one.0 in
            let less = here.less in
            elim (cases_lt n top) [
              | inl lower ↦ absurd (other (omega arith) (sym (ap (λ (z : KeyPart). z.id) one.2) ∙ own)
                  (sym (ap (λ (z : KeyPart). z.value) one.2) ∙ is))
              | inr higher ↦ found_before on.rest below top n p rows h at.stored (omega arith) before higher
            ]

    -- an entry of the definition that has the value gives its record's row
    pub find_take : AreCovered → (rows after : List Row) (payload : List ℕ) → IsFinding on.rest below top rows
        → here.number < top → from ≤ here.number → here.key.id ≡ id → here.key.value ≡ value → payload ≡ here.parts.payload
        → after ≡ rows ++ row_of here.number payload ∷ [] → IsFinding here.next.rest (here.number + 1) here.number after
    find_take covered rows after payload h lower least own is payload_is added =
        subst (IsFinding here.next.rest (here.number + 1) here.number) (sym added) (record {
          falls = falls_both to top rows (new ∷ []) h.falls h.above h.most (lower, tt);
          above = λ row m. elim (among_last row new rows m) [
            | inl before ↦ (let more = h.above row before in omega arith)
            | inr last ↦ (let same : new.number ≡ row.number = ap (λ (z : Row). z.number) last in omega arith)
          ];
          least = λ row m. elim (among_last row new rows m) [
            | inl before ↦ h.least row before
            | inr last ↦ (let same : new.number ≡ row.number = ap (λ (z : Row). z.number) last in omega arith)
          ];
          sound = λ row m. elim (among_last row new rows m) [
            | inl before ↦ h.sound row before
            | inr last ↦ subst (IsOlderMatch end.entries def value) last matches
          ];
          most = (let most = h.most in omega arith);
          last = λ less. (new, among_right new rows (new ∷ []) (inl refl), refl, omega arith);
          complete = λ q n p j key at own_ is_ after_ before. elim (h.complete q n p j key at own_ is_ after_ before) [
            | inl m ↦ inl (among_left (row_of n p.payload) rows (new ∷ []) m)
            | inr left ↦ elim (here.split q left) [
              | inl same ↦ (
                  let one = key_once prior b b place n here.number p here.parts j here.place_in key here.key
                  (subst (λ (z : ℕ). IsKeyAt prior b z n p j key) same at) here.at in
                  inl (among_right (row_of n p.payload) rows (new ∷ [])
                  (inl (λ i. row_of (sym one.0 i) ((payload_is ∙ sym (ap (λ (z : BodyParts). z.payload) one.1)) i)))))
              | inr more ↦ inr more
            ]
          ];
        })
      where
        new : Row
        new = row_of here.number payload

        -- its record has the value
        matches : IsOlderMatch end.entries def value new
        matches =
            let p = here.parts in
            let most = h.most in
            let under = under_has id p.keys here.place_in here.key here.at.within here.at.is own in
            let gives : Among here.key.value (evaluation def p.form p.payload) =
            subst (Among here.key.value) (covered here.number p here.at.stored least (omega arith)) under in (
              p.lane,
              p.form,
              subst (λ (z : List ℕ). slice_get end.entries here.number ≡ Some (Stored p.lane p.form z)) (sym payload_is)
                  (prior_stored prior here.number p here.at.stored),
              subst (λ (z : Value × List ℕ). Contains (evaluation def p.form z.1) z.0)
                  (λ i. (is i, sym payload_is i)) (among_contains (evaluation def p.form p.payload) here.key.value gives),
            )

  -- where no entry of the range is left, the rows are all
  pub find_end : AreCovered → b ≡ bucket_in (key_hash_of id value) (2 ^ prior.commit.bucket_bits) → to ≤ count
      → (rest : List (ℕ × ℕ)) (below top : ℕ) (rows : List Row)
      → IsFinding rest below top rows
      → ((q n : ℕ) (p : BodyParts) (j : ℕ) (key : KeyPart) → IsKeyAt prior b q n p j key → IsAmong rest b q → from ≤ n → ⊥)
      → FindsOlder end.entries def value from to rows
  find_end covered bucket few rest below top rows h none = record {
    falls = h.falls;
    above = h.least;
    sound = h.sound;
    complete = λ row after before m. all row after before m;
  }
    where
      all : (row : Row) → from ≤ row.number → row.number < to → IsOlderMatch end.entries def value row → Among row rows
      all row after before m =
          let r = stored_prior prior row.number m.0 m.1 row.payload (omega arith) m.2 in
          let p = r.parts in
          let gives : Among value (evaluation def p.form p.payload) =
          contains_among (evaluation def p.form p.payload) value
          (subst (λ (z : Form × List ℕ). Contains (evaluation def z.0 z.1) value)
          (λ i. (sym r.form_is i, sym r.payload_is i)) m.3) in
          let u = has_under id p.keys value (subst (Among value) (sym (covered row.number p r.stored after before)) gives) in
          let at : IsKeyAt prior b (place_of r.stored.at.line u.at) row.number p u.at u.key = record {
            stored = r.stored;
            within = u.within;
            is = u.is;
            bucket = (λ i. bucket_in (key_hash_of (u.own i) (u.value i)) (2 ^ prior.commit.bucket_bits)) ∙ sym bucket;
            place_is = refl;
          } in
          elim (h.complete (place_of r.stored.at.line u.at) row.number p u.at u.key at u.own u.value after before) [
            | inl found ↦ subst (λ (z : List ℕ). Among (row_of row.number z) rows) r.payload_is found
            | inr left ↦ absurd (none (place_of r.stored.at.line u.at) row.number p u.at u.key at left after)
          ]
