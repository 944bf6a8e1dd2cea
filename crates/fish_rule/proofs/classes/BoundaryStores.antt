-- The control pass stores a boundary of a row, and every other boundary stays.
use Rattle.std.proofs.Common.{◌≡◌, ◌≢◌, ℕ, ◌<◌, ◌≤◌, ◌∷◌, suc, length, sym, refl, ap, ◌∙◌, subst, inl, inr, arith}
use Rattle.std.proofs.Math.Decide.{ℕ_discrete}
use Rattle.fish_rule.proofs.basics.Context.{Key, Rule, View, World, get_elem?, some}
use Rattle.fish_rule.proofs.classes.BoundariesStay.{listed_later, lists_later, open_later, same_length}
use Rattle.fish_rule.proofs.classes.ControlStores.{store_endures, store_read, store_still}
use Rattle.fish_rule.proofs.basics.Worlds.{put-else, put-here}
use Rattle.fish_rule.specs.Boundaries.{Boundaries, IsFirstBoundary, IsOpenIn, Lists}
use Rattle.fish_rule.specs.Registry.{Endures, HasBoundary, IsLasting, IsRegistered, definitions_at, row_at, version_in}
use Rattle.fish_rule.specs.Views.{AllOf}
use Rattle.fish_rule.specs.World.{put}

module _ {k : Key} {w : World} (r : Rule k w) (id : ℕ) {v : View} (at : get_elem? w.views id ≡ some v)
    (control : v.lane ≡ 1) (row j n : ℕ) (few : row < 256) (bound : j < 2) (unset : w.registry (row_at row j) ≡ 0) where
  -- the index of the boundary
  abbrev place : ℕ
  place = row_at row j

  -- it is none of the words of the version and of epochs
  pub place_far : 20 ≤ place
  place_far = omega arith

  -- no word that lasts is there
  pub place_away : (q : ℕ) → IsLasting k w.registry q → q ≢ place
  place_away q (inl h) e = omega arith
  place_away q (inr (inl h)) e = (let a = h.2 in let b = h.3 in let f = r.registry.versions.few in omega arith)
  place_away q (inr (inr (inl h))) e = (let a = h.3 in let b = h.4 in let c = h.5 in omega arith)
  place_away q (inr (inr (inr h))) e = h.1 (ap w.registry e ∙ unset)

  -- the words afterwards
  abbrev set_words : ℕ → ℕ
  set_words = put w.registry place (suc n)

  -- the version stays
  set_still : version_in set_words ≡ version_in w.registry
  set_still = store_still r id at control place (suc n) place_far place_away

  -- and so does what lasts
  pub set_endures : Endures k w.registry set_words
  set_endures = store_endures r id at control place (suc n) place_far place_away

  -- this one is the number, and lasts
  this_bound : set_words (row_at row j) ≡ suc n
  this_bound = put-here w.registry place (suc n)

  -- what the pass had read is so, and so is this word
  pub set_read : AllOf (IsRegistered k set_words) (record { index = place; value = suc n } ∷ v.learned.words)
  set_read = (
    record {
      lasts = inr (inr (inr ((row, j, few, bound, refl), λ e. absurd (let is = this_bound in omega arith))));
      word = this_bound;
    },
    store_read r id at control place (suc n) place_far place_away,
  )

  -- another boundary is as it was
  pub other_bound : (m i : ℕ) → i < 2 → ¬ ((m ≡ row) × (i ≡ j)) → set_words (row_at m i) ≡ w.registry (row_at m i)
  other_bound m i small ne = put-else w.registry place (suc n) (row_at m i) (λ e. ne (omega arith, omega arith))

  -- the boundaries stay right, where the new one is
  module _ (above_ : k.number ≤ n) (within : n ≤ w.count)
      (made_ : row < length (definitions_at k w.registry (version_in w.registry)))
      (ordered : j ≡ 1 → w.registry (row_at row 0) ≢ 0)
      (after_ : j ≡ 1 → (from : ℕ) → HasBoundary w.registry row 0 from → from ≤ n)
      (entered_ : j ≡ 0 → (l : ℕ) → 1 ≤ l → l ≤ 16 → Lists k w.registry row (r.state l))
      (begun_ : j ≡ 0 → (m : ℕ) → k.number ≤ m → n ≤ m → m < w.count
      → row < length (definitions_at k w.registry (r.version_of m)))
      (unended_ : j ≡ 1 → (m : ℕ) → k.number ≤ m → m < n → m < w.count
      → IsOpenIn (definitions_at k w.registry (r.version_of m)) row) where
    -- what boundaries mean stays so
    pub set_boundaries : Boundaries k w.count set_words r.state r.version_of
    set_boundaries =
        let h = r.registry.boundaries in
        let versions = r.registry.versions in
        record {
          unmade = λ m i more small small_i.
              (let size = same_length k w.registry set_words set_endures (version_in w.registry) (omega arith) in
              let now : length (definitions_at k set_words (version_in set_words))
              ≡ length (definitions_at k set_words (version_in w.registry)) =
              ap (λ (z : ℕ). length (definitions_at k set_words z)) set_still in
              other_bound m i small_i (λ e. let a = e.0 in omega arith) ∙ h.unmade m i (omega arith) small small_i);
          in_order = λ m small none. keeps_order m small none (ℕ_discrete m row) (ℕ_discrete j 0);
          claimed = λ m i x small small_i is. upto m i x small small_i is (ℕ_discrete m row) (ℕ_discrete i j);
          after = λ m from to small begins ends. ends_after m from to small begins ends (ℕ_discrete m row) (ℕ_discrete j 0);
          opened = λ m first small there. let o = h.opened m first small there in record {
            clamped = o.clamped;
            stays = λ i x small_i e. still m i x small_i (o.stays i x small_i e);
          };
          early = λ m i x small small_i is less. is_first m i x small small_i is less (ℕ_discrete m row)
              (ℕ_discrete i j);
          entered = λ m x l small is above below. lists_later k w.registry set_words set_endures m (r.state l)
              (r.registry.epochs.past l above below)
              (enters m x l small is above below (ℕ_discrete m row) (ℕ_discrete j 0));
          begun = λ m from p small is above after below.
              listed_later k w.registry set_words set_endures m (r.version_of p) (versions.upto p above below)
              (begins m from p small is above after below (ℕ_discrete m row) (ℕ_discrete j 0));
          unended = λ m to p small is above before below.
              open_later k w.registry set_words set_endures m (r.version_of p) (versions.upto p above below)
              (ends m to p small is above before below (ℕ_discrete m row) (ℕ_discrete j 1));
          running = λ m u small none reached. open_later k w.registry set_words set_endures m u
              (let e = set_still in omega arith)
              (h.running m u small (still_none m small none (ℕ_discrete m row) (ℕ_discrete j 1))
              (let e = set_still in omega arith));
        }
      where
        keeps_order : (m : ℕ) → m < 256 → set_words (row_at m 0) ≡ 0 → Dec (m ≡ row) → Dec (j ≡ 0)
            → set_words (row_at m 1) ≡ 0
        keeps_order m small none (no ne) d = other_bound m 1 (omega arith) (λ e. ne e.0)
            ∙ r.registry.boundaries.in_order m small (sym (other_bound m 0 (omega arith) (λ e. ne e.0)) ∙ none)
        keeps_order m small none (yes e) (yes z) =
            (let is = this_bound in let same : row_at m 0 ≡ row_at row j = omega arith in
            let word = ap set_words same in absurd (omega arith))
        keeps_order m small none (yes e) (no nz) = absurd (ordered (omega arith)
            (ap (λ (z : ℕ). w.registry (row_at z 0)) (sym e)
            ∙ sym (other_bound m 0 (omega arith) (λ p. nz (sym p.1))) ∙ none))

        upto : (m i x : ℕ) → m < 256 → i < 2 → HasBoundary set_words m i x → Dec (m ≡ row) → Dec (i ≡ j) → x ≤ w.count
        upto m i x small small_i is (no ne) d = r.registry.boundaries.claimed m i x small small_i
            (sym (other_bound m i small_i (λ e. ne e.0)) ∙ is)
        upto m i x small small_i is (yes e) (no ne) = r.registry.boundaries.claimed m i x small small_i
            (sym (other_bound m i small_i (λ p. ne p.1)) ∙ is)
        upto m i x small small_i is (yes e) (yes same) =
            (let word = this_bound in let there : row_at m i ≡ row_at row j = omega arith in
            let both = ap set_words there in omega arith)

        still : (m i x : ℕ) → i < 2 → HasBoundary w.registry m i x → HasBoundary set_words m i x
        still m i x small_i is = other_bound m i small_i (λ e.
            let there : row_at m i ≡ row_at row j = omega arith in
            let both = ap w.registry there in
            absurd (omega arith)) ∙ is

        ends_after : (m from to : ℕ) → m < 256 → HasBoundary set_words m 0 from → HasBoundary set_words m 1 to
            → Dec (m ≡ row) → Dec (j ≡ 0) → from ≤ to
        ends_after m from to small begins ends (no ne) d = r.registry.boundaries.after m from to small
            (sym (other_bound m 0 (omega arith) (λ e. ne e.0)) ∙ begins)
            (sym (other_bound m 1 (omega arith) (λ e. ne e.0)) ∙ ends)
        ends_after m from to small begins ends (yes e) (yes z) =
            let there : row_at m 0 ≡ row_at row j = omega arith in
            let endless = r.registry.boundaries.in_order m small (ap w.registry there ∙ unset) in
            let same = other_bound m 1 (omega arith) (λ p. let one = p.1 in omega arith) in
            absurd (omega arith)
        ends_after m from to small begins ends (yes e) (no nz) =
            let word = this_bound in
            let there : row_at m 1 ≡ row_at row j = omega arith in
            let both = ap set_words there in
            let least = after_ (omega arith) from (ap (λ (z : ℕ). w.registry (row_at z 0)) (sym e)
            ∙ sym (other_bound m 0 (omega arith) (λ p. nz (sym p.1))) ∙ begins) in
            omega arith

        is_first : (m i x : ℕ) → m < 256 → i < 2 → HasBoundary set_words m i x → x < k.number → Dec (m ≡ row)
            → Dec (i ≡ j) → IsFirstBoundary k m i x
        is_first m i x small small_i is less (no ne) d = r.registry.boundaries.early m i x small small_i
            (sym (other_bound m i small_i (λ e. ne e.0)) ∙ is) less
        is_first m i x small small_i is less (yes e) (no ne) = r.registry.boundaries.early m i x small small_i
            (sym (other_bound m i small_i (λ p. ne p.1)) ∙ is) less
        is_first m i x small small_i is less (yes e) (yes same) =
            (let word = this_bound in let there : row_at m i ≡ row_at row j = omega arith in
            let both = ap set_words there in absurd (omega arith))

        enters : (m x l : ℕ) → m < 256 → HasBoundary set_words m 0 x → 1 ≤ l → l ≤ 16 → Dec (m ≡ row) → Dec (j ≡ 0)
            → Lists k w.registry m (r.state l)
        enters m x l small is above below (no ne) d = r.registry.boundaries.entered m x l small
            (sym (other_bound m 0 (omega arith) (λ e. ne e.0)) ∙ is) above below
        enters m x l small is above below (yes e) (no nz) = r.registry.boundaries.entered m x l small
            (sym (other_bound m 0 (omega arith) (λ p. nz (sym p.1))) ∙ is) above below
        enters m x l small is above below (yes e) (yes z) =
            subst (λ (y : ℕ). Lists k w.registry y (r.state l)) (sym e) (entered_ z l above below)

        begins : (m from p : ℕ) → m < 256 → HasBoundary set_words m 0 from → k.number ≤ p → from ≤ p → p < w.count
            → Dec (m ≡ row) → Dec (j ≡ 0) → m < length (definitions_at k w.registry (r.version_of p))
        begins m from p small is above after below (no ne) d = r.registry.boundaries.begun m from p small
            (sym (other_bound m 0 (omega arith) (λ e. ne e.0)) ∙ is) above after below
        begins m from p small is above after below (yes e) (no nz) = r.registry.boundaries.begun m from p small
            (sym (other_bound m 0 (omega arith) (λ q. nz (sym q.1))) ∙ is) above after below
        begins m from p small is above after below (yes e) (yes z) =
            let word = this_bound in
            let there : row_at m 0 ≡ row_at row j = omega arith in
            let both = ap set_words there in
            subst (λ (y : ℕ). y < length (definitions_at k w.registry (r.version_of p))) (sym e)
            (begun_ z p above (omega arith) below)

        ends : (m to p : ℕ) → m < 256 → HasBoundary set_words m 1 to → k.number ≤ p → p < to → p < w.count
            → Dec (m ≡ row) → Dec (j ≡ 1) → IsOpenIn (definitions_at k w.registry (r.version_of p)) m
        ends m to p small is above before below (no ne) d = r.registry.boundaries.unended m to p small
            (sym (other_bound m 1 (omega arith) (λ e. ne e.0)) ∙ is) above before below
        ends m to p small is above before below (yes e) (no n1) = r.registry.boundaries.unended m to p small
            (sym (other_bound m 1 (omega arith) (λ q. n1 (sym q.1))) ∙ is) above before below
        ends m to p small is above before below (yes e) (yes one) =
            let word = this_bound in
            let there : row_at m 1 ≡ row_at row j = omega arith in
            let both = ap set_words there in
            subst (IsOpenIn (definitions_at k w.registry (r.version_of p))) (sym e)
            (unended_ one p above (omega arith) below)

        still_none : (m : ℕ) → m < 256 → set_words (row_at m 1) ≡ 0 → Dec (m ≡ row) → Dec (j ≡ 1)
            → w.registry (row_at m 1) ≡ 0
        still_none m small none (no ne) d = sym (other_bound m 1 (omega arith) (λ e. ne e.0)) ∙ none
        still_none m small none (yes e) (no n1) = sym (other_bound m 1 (omega arith) (λ q. n1 (sym q.1))) ∙ none
        still_none m small none (yes e) (yes one) =
            (let word = this_bound in let there : row_at m 1 ≡ row_at row j = omega arith in
            let both = ap set_words there in absurd (omega arith))
