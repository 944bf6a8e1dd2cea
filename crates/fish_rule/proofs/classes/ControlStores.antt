-- A store of the control pass to a word of the registry that only it stores.
use Rattle.std.proofs.Common.{◌≡◌, ◌≢◌, ℕ, ◌≤◌, ◌∷◌, List, set, sym, ap, ◌∙◌, subst, arith, Some, None, Option}
use Rattle.std.proofs.Math.Decide.{ℕ_discrete}
use Rattle.fish_rule.proofs.basics.Context.{Epoch, Final, Key, Rule, View, World, get_elem?, some}
use Rattle.fish_layout.proofs.Clearing.{choose_first, choose_second}
use Rattle.fish_rule.proofs.classes.BoundariesStay.{unended_later}
use Rattle.fish_rule.proofs.basics.Lists.{each_set, has_own}
use Rattle.fish_rule.proofs.basics.RegistryWords.{definitions_later}
use Rattle.fish_rule.proofs.classes.OnRegistry.{carries_later, owned_before, read_later, register_lasts, registers}
use Rattle.fish_rule.proofs.classes.OnRegistry.{versions_later}
use Rattle.fish_rule.proofs.basics.Worlds.{put-else, put-here}
use Rattle.fish_rule.specs.Boundaries.{Boundaries}
use Rattle.fish_rule.specs.Epochs.{IsAtMost, IsControl, IsOwned, RegistryHolds, Stays}
use Rattle.fish_rule.specs.Registry.{Endures, IsLasting, IsRegistered, definitions_at, control_word, epoch_at, version_in}
use Rattle.fish_rule.specs.Rounds.{Waits}
use Rattle.fish_rule.specs.SpaceSteps.{ticked}
use Rattle.fish_rule.specs.Views.{AllOf, Has}
use Rattle.fish_rule.specs.World.{put}
use Rattle.fish_rule.specs.declared.view.RegistryWord.{RegistryWord}
use Rattle.fish_rule.specs.declared.view.Round.{Round}

-- no registration waits in another pass than the control pass
waits_else : (k : Key) (count : ℕ) (g g' : ℕ → ℕ) (state : ℕ → Epoch) (version_of : ℕ → ℕ) (lane : ℕ) (o : Option Round)
    → lane ≢ 1 → Waits k count g state version_of lane o → Waits k count g' state version_of lane o
waits_else k count g g' state version_of lane None ne h = tt
waits_else k count g g' state version_of lane (Some o) ne h = absurd (ne h.control)

module _ {k : Key} {w : World} (r : Rule k w) (id : ℕ) {v : View} (at : get_elem? w.views id ≡ some v)
    (control : v.lane ≡ 1) where
  -- the control pass knows the registry as it is
  pub its : IsControl k w.registry v.learned.version v.rows v.control_words
  its = (r.registry.each id v at).control control

  -- another pass isn't the control pass
  pub not_control : (j : ℕ) (u : View) → j ≢ id → get_elem? w.views j ≡ some u → u.lane ≢ 1
  not_control j u ne at_u e =
      let mine : Has v.lane v.out 1 = subst (λ (z : ℕ). Has v.lane v.out z) control
      (has_own w.views id v at (omega arith) r.seats) in
      let others : Has u.lane u.out 1 = subst (λ (z : ℕ). Has u.lane u.out z) e
      (has_own w.views j u at_u (omega arith) r.seats) in
      ne (r.seats.apart j id u v 1 at_u at others mine)

  -- what another pass knows stays so, whatever words the control pass changes
  pub others_stay : (g' : ℕ → ℕ) → Endures k w.registry g' → (j : ℕ) (u : View) → j ≢ id → get_elem? w.views j ≡ some u
      → Stays k w.count g' r.state r.version_of u
  others_stay g' endures j u ne at_u =
      let h = r.registry.each j u at_u in
      record {
        tied = h.tied;
        from = h.from;
        since = h.since;
        reached = (let e = endures.rises in let a = h.reached in omega arith);
        read = read_later k w.registry g' endures u.learned.words h.read;
        unended = unended_later k w.registry g' endures w.count r.version_of r.registry.versions u.learned.unended h.unended;
        control = λ e. absurd (not_control j u ne at_u e);
        waits = waits_else k w.count w.registry g' r.state r.version_of u.lane u.round (not_control j u ne at_u) h.waits;
      }

  module _ (p x : ℕ) (far : 20 ≤ p) (away : (q : ℕ) → IsLasting k w.registry q → q ≢ p) where
    -- the words afterwards
    abbrev pub stored : ℕ → ℕ
    stored = put w.registry p x

    -- the version stays
    pub store_still : version_in stored ≡ version_in w.registry
    store_still = put-else w.registry p x 2 (λ e. omega arith)

    -- and so does what lasts
    pub store_endures : Endures k w.registry stored
    store_endures = record {
      rises = (let e = store_still in omega arith);
      same = λ q h. put-else w.registry p x q (away q h);
    }

    -- words that were read stay so
    pub store_read : AllOf (IsRegistered k stored) v.learned.words
    store_read = read_later k w.registry stored store_endures v.learned.words (r.registry.each id v at).read

    module _ (round : Option Round) (words : List RegistryWord) (read : AllOf (IsRegistered k stored) words)
        (boundaries : Boundaries k w.count stored r.state r.version_of)
        (waits : Waits k w.count stored r.state r.version_of v.lane round) where
      -- the view afterwards
      abbrev pub storer : View
      storer = record v {
        control_words = record { index = p; value = x } ∷ v.control_words;
        round = round;
        learned = record v.learned { words = words };
        clock = ticked v.clock;
      }

      -- what the control pass knows is so
      storer_stays : Stays k w.count stored r.state r.version_of storer
      storer_stays =
          let h = r.registry.each id v at in
          record {
            tied = h.tied;
            from = h.from;
            since = h.since;
            reached = (let e = store_still in let a = h.reached in omega arith);
            read = read;
            unended = unended_later k w.registry stored store_endures w.count r.version_of r.registry.versions
                v.learned.unended h.unended;
            control = λ _. record {
              version = its.version ∙ sym store_still;
              definitions = ap (definitions_at k stored) store_still
                  ∙ definitions_later k w.registry stored store_endures (version_in w.registry) (omega arith)
                  ∙ its.definitions;
              owned = λ q u. pick q (owned_before k w.registry stored store_endures store_still q u) (ℕ_discrete q p);
            };
            waits = waits;
          }
        where
          pick : (q : ℕ) → IsOwned k w.registry q → Dec (q ≡ p) → stored q ≡ control_word storer.control_words q
          pick q u (yes e) = ap stored e ∙ put-here w.registry p x
              ∙ sym (choose_first (ℕ_discrete q p) x (control_word v.control_words q) e)
          pick q u (no ne) = put-else w.registry p x q ne ∙ its.owned q u
              ∙ sym (choose_second (ℕ_discrete q p) x (control_word v.control_words q) ne)

      -- the registry's part afterwards
      storer_registry : RegistryHolds k w.count stored r.state r.version_of (set w.views id storer)
      storer_registry = record {
        epochs = record {
          words = λ l above below. put-else w.registry p x (epoch_at l) (λ e. omega arith)
              ∙ r.registry.epochs.words l above below;
          past = λ l above below. subst (λ (z : ℕ). IsAtMost z (r.state l)) (sym store_still)
              (r.registry.epochs.past l above below);
        };
        versions = versions_later k w.registry stored store_endures w.count r.version_of store_still r.registry.versions;
        boundaries = boundaries;
        each = each_set _ w.views id storer (others_stay stored store_endures) storer_stays;
        flights = each_set _ w.views id storer
            (λ j u ne at_u. carries_later k w.registry stored store_endures r.version_of u.lane u.epoch u.flight
            (r.registry.flights j u at_u))
            (carries_later k w.registry stored store_endures r.version_of v.lane v.epoch v.flight
            (r.registry.flights id v at));
      }

      -- the store keeps the rule, and all that lasts
      pub stores : (s : Rule k (record w { registry = stored; views = set w.views id storer }))
          × Final k r.start s.start r.lane_of s.lane_of w (record w { registry = stored; views = set w.views id storer })
      stores = (
        registers r id at stored v.epoch v.learned.version words v.rows storer.control_words round
            (ticked v.clock) store_endures r.state storer_registry,
        register_lasts r id at stored v.epoch v.learned.version words v.rows storer.control_words round
            (ticked v.clock) store_endures r.state storer_registry,
      )
