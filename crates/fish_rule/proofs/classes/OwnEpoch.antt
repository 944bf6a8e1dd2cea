-- A step that changes how far the pass is entered, and no other word than its own epoch's.
use Rattle.std.proofs.Common.{◌≡◌, ◌≢◌, ℕ, ◌<◌, ◌≤◌, length, set, sym, refl, ap, ◌∙◌, subst, inl, inr, arith, None}
use Rattle.std.proofs.Common.{Option}
use Rattle.std.proofs.Math.Decide.{ℕ_discrete, dec_lt}
use Rattle.fish_rule.proofs.basics.Context.{Clock, Epoch, Flight, Key, Rule, View, World, get_elem?, some}
use Rattle.fish_rule.proofs.classes.BoundariesStay.{boundaries_later, lists_later, unended_later, waits_later}
use Rattle.fish_rule.proofs.basics.Lists.{each_set, has_own}
use Rattle.fish_rule.proofs.classes.OnRegistry.{carries_later, control_later, owned_far, read_later, register_lasts}
use Rattle.fish_rule.proofs.classes.OnRegistry.{registers, versions_later}
use Rattle.fish_rule.proofs.basics.Worlds.{put-else, put-here}
use Rattle.fish_rule.proofs.basics.Lasts.{Lasts}
use Rattle.fish_rule.specs.Boundaries.{Lists}
use Rattle.fish_rule.specs.Epochs.{Carries, Epochs, IsAtMost, IsOwned, RegistryHolds, Stays, StaysWith, epoch_word}
use Rattle.fish_rule.specs.Registry.{Endures, HasBoundary, IsLasting, definitions_at, epoch_at, row_at, version_in}
use Rattle.fish_rule.specs.Rounds.{IsSince}
use Rattle.fish_rule.specs.Views.{Has}
use Rattle.fish_rule.specs.World.{put}

module _ {k : Key} {w : World} (r : Rule k w) (id : ℕ) {v : View} (at : get_elem? w.views id ≡ some v) (g' : ℕ → ℕ)
    (epoch' : Epoch) (version : ℕ) (endures : Endures k w.registry g') (still : version_in g' ≡ version_in w.registry)
    (others : (p : ℕ) → p ≢ epoch_at v.lane → g' p ≡ w.registry p)
    (own : 1 ≤ v.lane → v.lane ≤ 16 → g' (epoch_at v.lane) ≡ epoch_word epoch')
    (from_ : 1 ≤ v.lane → k.version ≤ version)
    (since_ : (s : ℕ) → s ≤ version_in w.registry → IsSince s v.epoch → IsSince s epoch')
    (lists_ : (id : ℕ) → id < length (definitions_at k w.registry (version_in w.registry))
    → Lists k w.registry id v.epoch → Lists k w.registry id epoch')
    (past : 1 ≤ v.lane → v.lane ≤ 16 → IsAtMost (version_in w.registry) epoch')
    (reached : version ≤ version_in w.registry) (control : v.lane ≡ 1 → version ≡ version_in w.registry)
    (carries : Carries k w.registry r.version_of v.lane epoch' v.flight) where
  -- how far each lane is entered afterwards
  abbrev pub state' : ℕ → Epoch
  state' = put r.state v.lane epoch'

  -- the words of epochs say how far each lane is entered
  pub epochs : Epochs g' state'
  epochs = record {
    words = λ l above below. (pick l above below (ℕ_discrete l v.lane)).0;
    past = λ l above below. (pick l above below (ℕ_discrete l v.lane)).1;
  }
    where
      pick : (l : ℕ) → 1 ≤ l → l ≤ 16 → Dec (l ≡ v.lane) → (g' (epoch_at l) ≡ epoch_word (state' l))
          × IsAtMost (version_in g') (state' l)
      pick l above below (yes e) =
          let state : state' l ≡ epoch' = ap state' e ∙ put-here r.state v.lane epoch' in
          let a : 1 ≤ v.lane = subst (λ (z : ℕ). 1 ≤ z) e above in
          let b : v.lane ≤ 16 = subst (λ (z : ℕ). z ≤ 16) e below in (
            ap (λ (z : ℕ). g' (epoch_at z)) e ∙ own a b ∙ ap epoch_word (sym state),
            subst (λ (z : ℕ × Epoch). IsAtMost z.0 z.1) (λ i. (sym still i, sym state i)) (past a b),
          )
      pick l above below (no ne) =
          let state : state' l ≡ r.state l = put-else r.state v.lane epoch' l ne in (
            others (epoch_at l) (λ e. ne (omega arith)) ∙ r.registry.epochs.words l above below
                ∙ ap epoch_word (sym state),
            subst (λ (z : ℕ × Epoch). IsAtMost z.0 z.1) (λ i. (sym still i, sym state i))
                (r.registry.epochs.past l above below),
          )

  -- a word after the epochs stays
  far_else : (p : ℕ) → 20 ≤ p → v.lane ≤ 16 → g' p ≡ w.registry p
  far_else p above few = others p (λ e. omega arith)

  -- so does one that only the control pass stores
  owned_else : (p : ℕ) → v.lane ≤ 16 → IsOwned k w.registry p → g' p ≡ w.registry p
  owned_else p few h = far_else p (owned_far k w.registry p h) few

  -- and a boundary
  boundary_else : (n i : ℕ) → n < 256 → i < 2 → g' (row_at n i) ≡ w.registry (row_at n i)
  boundary_else n i below bound = far_else (row_at n i) (omega arith) (r.seats.few id v at)

  -- a lane is confirmed at no version before one before which it was confirmed at none
  since_later : (l s : ℕ) → 1 ≤ l → l ≤ 16 → s ≤ version_in w.registry → IsSince s (r.state l) → IsSince s (state' l)
  since_later l s above below reached h = pick (ℕ_discrete l v.lane)
    where
      pick : Dec (l ≡ v.lane) → IsSince s (state' l)
      pick (yes e) =
          let state : state' l ≡ epoch' = ap state' e ∙ put-here r.state v.lane epoch' in
          let live : 1 ≤ v.lane = subst (λ (z : ℕ). 1 ≤ z) e above in
          let here : r.state l ≡ v.epoch = ap r.state e
          ∙ ((r.registry.each id v at).tied v.lane (has_own w.views id v at live r.seats)).0 refl in
          subst (IsSince s) (sym state) (since_ s reached (subst (IsSince s) here h))
      pick (no ne) = subst (IsSince s) (sym (put-else r.state v.lane epoch' l ne)) h

  -- an index that has begun is that of a definition which each confirmed version lists
  lists_then : (n i l : ℕ) → n < 256 → HasBoundary w.registry n 0 i → 1 ≤ l → l ≤ 16 → Lists k g' n (state' l)
  lists_then n i l few is above below = pick (ℕ_discrete l v.lane)
    where
      now : ℕ
      now = length (definitions_at k w.registry (version_in w.registry))

      made : Dec (n < now) → n < now
      made (yes h) = h
      made (no h) = (let z = r.registry.boundaries.unmade n 0 (omega arith) few (omega arith) in absurd (omega arith))

      old : Lists k w.registry n (r.state l)
      old = r.registry.boundaries.entered n i l few is above below

      pick : Dec (l ≡ v.lane) → Lists k g' n (state' l)
      pick (yes e) =
          let state : state' l ≡ epoch' = ap state' e ∙ put-here r.state v.lane epoch' in
          let live : 1 ≤ v.lane = subst (λ (z : ℕ). 1 ≤ z) e above in
          let low : v.lane ≤ 16 = subst (λ (z : ℕ). z ≤ 16) e below in
          let here : r.state l ≡ v.epoch = ap r.state e
          ∙ ((r.registry.each id v at).tied v.lane (has_own w.views id v at live r.seats)).0 refl in
          subst (Lists k g' n) (sym state) (lists_later k w.registry g' endures n epoch' (past live low)
          (lists_ n (made (dec_lt n now)) (subst (Lists k w.registry n) here old)))
      pick (no ne) = subst (Lists k g' n) (sym (put-else r.state v.lane epoch' l ne))
          (lists_later k w.registry g' endures n (r.state l) (r.registry.epochs.past l above below) old)

  -- what the other passes know
  pub other_stays : (j : ℕ) (u : View) → j ≢ id → get_elem? w.views j ≡ some u
      → Stays k w.count g' state' r.version_of u
  other_stays j u ne at_u =
      let h = r.registry.each j u at_u in
      let few = r.seats.few id v at in
      record {
        tied = λ l has. let other : l ≢ v.lane = λ e. ne (r.seats.apart j id u v l at_u at has
            (subst (Has v.lane v.out) (sym e) (has_own w.views id v at (let a = has.0 in omega arith) r.seats))) in
            let state : state' l ≡ r.state l = put-else r.state v.lane epoch' l other in
            ((λ e. state ∙ (h.tied l has).0 e), (λ e. state ∙ (h.tied l has).1 e));
        from = h.from;
        since = h.since;
        reached = (let a = h.reached in omega arith);
        read = read_later k w.registry g' endures u.learned.words h.read;
        unended = unended_later k w.registry g' endures w.count r.version_of r.registry.versions u.learned.unended h.unended;
        control = λ e. control_later k w.registry g' endures u.learned.version u.rows u.control_words still
            (λ p owned. owned_else p few owned) (h.control e);
        waits = waits_later k w.registry g' endures w.count r.state state' r.version_of u.lane
            (λ n below. boundary_else n 0 below (omega arith)) since_later u.round h.waits;
      }

  -- and what the pass itself knows
  pub own_stays : StaysWith k w.count g' state' r.version_of v.lane v.out epoch' version v.learned.words v.learned.unended
      v.rows v.control_words v.round
  own_stays =
      let h = r.registry.each id v at in
      let few = r.seats.few id v at in
      record {
        tied = λ l has. (
          (λ e. ap state' e ∙ put-here r.state v.lane epoch'),
          (λ ne. put-else r.state v.lane epoch' l ne ∙ (h.tied l has).1 ne),
        );
        from = from_;
        since = since_ k.version r.registry.versions.from h.since;
        reached = (let a = h.reached in omega arith);
        read = read_later k w.registry g' endures v.learned.words h.read;
        unended = unended_later k w.registry g' endures w.count r.version_of r.registry.versions v.learned.unended h.unended;
        control = λ e. let m = control_later k w.registry g' endures v.learned.version v.rows v.control_words still
            (λ p owned. owned_else p few owned) (h.control e) in
            record { version = control e ∙ sym still; definitions = m.definitions; owned = m.owned };
        waits = waits_later k w.registry g' endures w.count r.state state' r.version_of v.lane
            (λ n below. boundary_else n 0 below (omega arith)) since_later v.round h.waits;
      }

  module _ (clock : Clock) where
    -- the view afterwards
    abbrev pub mover : View
    mover = record v { epoch = epoch'; learned = record v.learned { version = version }; clock = clock }

    -- the registry's part afterwards
    pub move_registry : RegistryHolds k w.count g' state' r.version_of (set w.views id mover)
    move_registry = record {
      epochs = epochs;
      versions = versions_later k w.registry g' endures w.count r.version_of still r.registry.versions;
      boundaries = boundaries_later k w.registry g' endures w.count r.state state' r.version_of still boundary_else
          lists_then r.registry.versions r.registry.boundaries;
      each = each_set _ w.views id mover other_stays own_stays;
      flights = each_set _ w.views id mover
          (λ j u ne at_u. carries_later k w.registry g' endures r.version_of u.lane u.epoch u.flight
          (r.registry.flights j u at_u))
          (carries_later k w.registry g' endures r.version_of v.lane epoch' v.flight carries);
    }

    -- the step keeps the rule, and all that lasts
    pub moves_last : Lasts r (record w { registry = g'; views = set w.views id mover })
    moves_last = (
      registers r id at g' epoch' version v.learned.words v.rows v.control_words v.round clock endures state' move_registry,
      register_lasts r id at g' epoch' version v.learned.words v.rows v.control_words v.round clock endures state'
          move_registry,
    )

-- ---- stores of the own epoch word

-- a word that lasts is no epoch
lasting_else : (k : Key) (g : ℕ → ℕ) (lane x p : ℕ) → 1 ≤ lane → lane ≤ 16 → IsLasting k g p
    → put g (epoch_at lane) x p ≡ g p
lasting_else k g lane x p live few (inl e) = put-else g (epoch_at lane) x p (λ h. omega arith)
lasting_else k g lane x p live few (inr (inl m)) = (let q = m.3 in put-else g (epoch_at lane) x p (λ h. omega arith))
lasting_else k g lane x p live few (inr (inr (inl m))) = (let q = m.5 in put-else g (epoch_at lane) x p (λ h. omega arith))
lasting_else k g lane x p live few (inr (inr (inr m))) = (let q = m.0.4 in put-else g (epoch_at lane) x p (λ h. omega arith))

-- so it stays
pub epoch_endures : (k : Key) (g : ℕ → ℕ) (lane x : ℕ) → 1 ≤ lane → lane ≤ 16
    → Endures k g (put g (epoch_at lane) x)
epoch_endures k g lane x live few = record {
  rises = (let e = put-else g (epoch_at lane) x 2 (λ h. omega arith) in omega arith);
  same = λ p h. lasting_else k g lane x p live few h;
}

-- nothing in flight carries nothing
pub carries_none : (k : Key) (g : ℕ → ℕ) (version_of : ℕ → ℕ) (lane : ℕ) (epoch : Epoch) (o : Option Flight) → o ≡ None
    → Carries k g version_of lane epoch o
carries_none k g version_of lane epoch o e = subst (Carries k g version_of lane epoch) (sym e) tt
