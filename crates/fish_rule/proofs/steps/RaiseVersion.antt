-- `raise_version`: the control pass stores the version plus one, and the next operation is made.
use Rattle.fish_rule.proofs.steps.VersionMade.{bump_endures, bump_versions, else_, made_known, made_now, op_is}
use Rattle.fish_rule.proofs.steps.VersionMade.{open_made, operation, up}
use Rattle.std.proofs.Common.{◌≡◌, ◌≢◌, ℕ, ◌<◌, ◌≤◌, suc, List, [], ◌∷◌, length, set, sym, refl, ◌+◌, ap, ◌∙◌}
use Rattle.std.proofs.Common.{subst, inl, inr, ⊎_elim, arith, Some, None}
use Rattle.std.proofs.Math.Decide.{dec_le, dec_lt}
use Rattle.fish_rule.proofs.basics.Context.{Epoch, Key, Rule, View, World, get_elem?, none, some}
use Rattle.fish_catalog.specs.declared.listed.Listed.{Listed}
use Rattle.fish_layout.specs.Cleared.{choose}
use Rattle.fish_rule.proofs.classes.BoundariesStay.{listed_later, lists_later, open_later, unended_later}
use Rattle.fish_rule.proofs.basics.Lists.{each_set, has_own}
use Rattle.fish_rule.proofs.classes.ControlStores.{its, others_stay}
use Rattle.fish_rule.proofs.basics.RegistryWords.{length_made, length_registered}
use Rattle.fish_rule.proofs.classes.OnRegistry.{carries_later, owned_far, read_later, register_lasts, registers}
use Rattle.fish_rule.proofs.basics.Worlds.{world-registry}
use Rattle.fish_rule.proofs.basics.Lasts.{Lasts}
use Rattle.fish_rule.specs.Boundaries.{Boundaries, IsOpenIn}
use Rattle.fish_rule.specs.RegistrySteps.{CanRaiseVersion, after_raise_version, next_operation, round_after}
use Rattle.fish_rule.specs.Epochs.{IsAtMost, IsOwned, IsUnmade, RegistryHolds, Stays}
use Rattle.fish_rule.specs.Registry.{definitions_at, epoch_at, made, op_at, row_at, version_in}
use Rattle.fish_rule.specs.Rounds.{IsSince, Waits}
use Rattle.fish_rule.specs.SpaceSteps.{ticked}
use Rattle.fish_rule.specs.World.{put, world}
use Rattle.fish_rule.specs.declared.view.Epoch.TheVariants.{Announced, Confirmed, Out}
use Rattle.fish_rule.proofs.classes.Allowed.{Allows, Ruled, Sat, allowed, stands, step, there}
use Rattle.fish_rule.specs.Told.{told_raise_version}

-- what is at most a version is at most a later one
most_later : (v v' : ℕ) (e : Epoch) → v ≤ v' → IsAtMost v e → IsAtMost v' e
most_later v v' Out less h = h
most_later v v' (Announced u) less h = omega arith
most_later v v' (Confirmed u) less h = omega arith

module _ {k : Key} {w : World} (r : Rule k w) (id : ℕ) {v : View} (at : get_elem? w.views id ≡ some v)
    (control : v.lane ≡ 1) (can : CanRaiseVersion v) where
  -- the words afterwards
  abbrev pub bumped : ℕ → ℕ
  bumped = put w.registry 2 (suc v.learned.version)

  -- the definitions before
  abbrev before : List Listed
  before = definitions_at k w.registry (version_in w.registry)

  -- the view afterwards
  abbrev pub bumper : View
  bumper = after_raise_version v

  -- the index of a row that the operation ends has its end
  has_end : (n : ℕ) → n < 256 → w.registry (op_at (suc (version_in w.registry))) ≡ 512 + n → w.registry (row_at n 1) ≢ 0
  has_end n few is endless = can.ends n (sym (op_is r id at control can) ∙ is)
      (sym ((its r id at control).owned (row_at n 1) (inr (n, 1, few, omega arith, refl))) ∙ endless)

  -- what has no end had not ended, and the operation ends it not
  open_then : (n : ℕ) → n < 256 → w.registry (row_at n 1) ≡ 0
      → IsOpenIn (made w.registry (w.registry (op_at (suc (version_in w.registry)))) before) n
  open_then n few endless = open_made w.registry (w.registry (op_at (suc (version_in w.registry)))) before n
      (operation r id at control can)
      (r.registry.versions.listings (version_in w.registry) (omega arith))
      (λ is. has_end n few is endless) (r.registry.boundaries.running n (version_in w.registry) few endless (omega arith))

  -- boundaries stay
  same_bound : (n i : ℕ) → n < 256 → i < 2 → bumped (row_at n i) ≡ w.registry (row_at n i)
  same_bound n i few bound = else_ r id at control can (row_at n i) (λ e. omega arith)

  -- what boundaries mean stays so
  bump_boundaries : Boundaries k w.count bumped r.state r.version_of
  bump_boundaries =
      let h = r.registry.boundaries in
      let versions = r.registry.versions in
      record {
        unmade = λ n i more few bound. same_bound n i few bound ∙ h.unmade n i (fewer n more) few bound;
        in_order = λ n few endless. same_bound n 1 few (omega arith)
            ∙ h.in_order n few (sym (same_bound n 0 few (omega arith)) ∙ endless);
        claimed = λ n i x few bound is. h.claimed n i x few bound (sym (same_bound n i few bound) ∙ is);
        after = λ n from to few begins ends. h.after n from to few (sym (same_bound n 0 few (omega arith)) ∙ begins)
            (sym (same_bound n 1 few (omega arith)) ∙ ends);
        opened = λ n row few there. let o = h.opened n row few there in record {
          clamped = o.clamped;
          stays = λ i x bound e. same_bound n i few bound ∙ o.stays i x bound e;
        };
        early = λ n i x few bound is. h.early n i x few bound (sym (same_bound n i few bound) ∙ is);
        entered = λ n x l few is above below. lists_later k w.registry bumped (bump_endures r id at control can) n
            (r.state l)
            (r.registry.epochs.past l above below)
            (h.entered n x l few (sym (same_bound n 0 few (omega arith)) ∙ is) above below);
        begun = λ n from m few is above after below. listed_later k w.registry bumped
            (bump_endures r id at control can) n (r.version_of m)
            (versions.upto m above below)
            (h.begun n from m few (sym (same_bound n 0 few (omega arith)) ∙ is) above after below);
        unended = λ n to m few is above before_ below. open_later k w.registry bumped
            (bump_endures r id at control can) n (r.version_of m)
            (versions.upto m above below)
            (h.unended n to m few (sym (same_bound n 1 few (omega arith)) ∙ is) above before_ below);
        running = λ n u few endless reached. opened_at n u few (sym (same_bound n 1 few (omega arith)) ∙ endless) reached
            (dec_le u (version_in w.registry));
      }
    where
      fewer : (n : ℕ) → length (definitions_at k bumped (version_in bumped)) ≤ n → length before ≤ n
      fewer n more =
          let size : length (definitions_at k bumped (version_in bumped)) ≡ length
          (made w.registry (w.registry (op_at (suc (version_in w.registry)))) before) =
          ap (λ (z : List Listed). length z) (ap (definitions_at k bumped) (up r id at control can) ∙
          (made_now r id at control can)) in
          let grows = length_made w.registry (w.registry (op_at (suc (version_in w.registry)))) before in
          omega arith

      opened_at : (n u : ℕ) → n < 256 → w.registry (row_at n 1) ≡ 0 → u ≤ version_in bumped
          → Dec (u ≤ version_in w.registry) → IsOpenIn (definitions_at k bumped u) n
      opened_at n u few endless reached (yes old) = open_later k w.registry bumped
          (bump_endures r id at control can) n u old
          (r.registry.boundaries.running n u few endless old)
      opened_at n u few endless reached (no new) =
          let rise = up r id at control can in
          let e : suc (version_in w.registry) ≡ u = omega arith in
          subst (λ (z : ℕ). IsOpenIn (definitions_at k bumped z) n) e
          (subst (λ (z : List Listed). IsOpenIn z n) (sym (made_now r id at control can)) (open_then n few endless))

  -- a registration waits from here on
  bump_waits : Waits k w.count bumped r.state r.version_of v.lane
      (round_after (next_operation v) (length v.rows) (suc v.learned.version))
  bump_waits = by (dec_lt (next_operation v) 512)
    where
      size : length before ≡ length v.rows
      size = ap (λ (z : List Listed). length z) (its r id at control).definitions

      room : next_operation v < 512 → length v.rows < 256
      room less = ⊎_elim (λ h. let q = h.1.room in omega arith) (λ h. let q = h.1 in absurd (omega arith)) can.operation

      here : r.state 1 ≡ Out
      here = ap r.state (sym control)
          ∙ ((r.registry.each id v at).tied v.lane (has_own w.views id v at (omega arith) r.seats)).0 refl ∙ can.outside

      by : (d : Dec (next_operation v < 512)) → Waits k w.count bumped r.state r.version_of v.lane
          (choose d (Some (record {
            id = length v.rows;
            version = suc v.learned.version;
            checked = 1 ∷ [];
            bound = None;
          })) None)
      by (no h) = tt
      by (yes less) =
          let seen = (its r id at control).version in
          let rise = up r id at control can in
          let op = op_is r id at control can in
          let grown = length_registered w.registry (w.registry (op_at (suc (version_in w.registry)))) before
          (omega arith) in
          let now : length (definitions_at k bumped (suc (version_in w.registry))) ≡ length
          (made w.registry (w.registry (op_at (suc (version_in w.registry)))) before) =
          ap (λ (z : List Listed). length z) (made_now r id at control can) in
          let e : suc (version_in w.registry) ≡ suc v.learned.version = omega arith in
          let sized = size in
          record {
            control = control;
            few = room less;
            reached = omega arith;
            listed = subst (λ (z : ℕ). length v.rows < length (definitions_at k bumped z)) e (omega arith);
            unset = same_bound (length v.rows) 0 (room less) (omega arith)
                ∙ r.registry.boundaries.unmade (length v.rows) 0 (omega arith) (room less) (omega arith);
            clear = λ l above below among. ⊎_elim
                (λ (t : 1 ≡ l). subst (IsSince (suc v.learned.version)) (sym (ap r.state (sym t) ∙ here)) tt)
                (λ t. elim t [ ]) among;
            bound = λ n is. absurd cc;
          }

  -- what the pass knows is so
  bump_stays : Stays k w.count bumped r.state r.version_of bumper
  bump_stays =
      let h = r.registry.each id v at in
      let rise = up r id at control can in
      let seen = (its r id at control).version in
      record {
        tied = h.tied;
        from = λ live. (let a = h.from live in omega arith);
        since = h.since;
        reached = omega arith;
        read = read_later k w.registry bumped (bump_endures r id at control can) v.learned.words h.read;
        unended = unended_later k w.registry bumped (bump_endures r id at control can) w.count r.version_of
            r.registry.versions
            v.learned.unended h.unended;
        control = λ _. record {
          version = ap suc (its r id at control).version ∙ sym (up r id at control can);
          definitions = made_known r id at control can;
          owned = λ q u. let b = owned_then q u in else_ r id at control can q (away q b) ∙
              (its r id at control).owned q b;
        };
        waits = bump_waits;
      }
    where
      unmade_then : (q : ℕ) → IsUnmade k bumped q → IsUnmade k w.registry q
      unmade_then q (inl h) = (let rise = up r id at control can in let a = h.1 in inl
          (h.0, (omega arith), h.2, h.3))
      unmade_then q (inr h) =
          let size : length (definitions_at k bumped (version_in bumped)) ≡ length
          (made w.registry (w.registry (op_at (suc (version_in w.registry)))) before) =
          ap (λ (z : List Listed). length z) (ap (definitions_at k bumped) (up r id at control can) ∙
          (made_now r id at control can)) in
          let grows = length_made w.registry (w.registry (op_at (suc (version_in w.registry)))) before in
          let a = h.2 in
          inr (h.0, h.1, (omega arith), h.3, h.4, h.5)

      owned_then : (q : ℕ) → IsOwned k bumped q → IsOwned k w.registry q
      owned_then q (inl h) = inl (unmade_then q h)
      owned_then q (inr h) = inr h

      away : (q : ℕ) → IsOwned k w.registry q → q ≢ 2
      away q h e = (let far = owned_far k w.registry q h in omega arith)

  -- the registry's part afterwards
  bump_registry : RegistryHolds k w.count bumped r.state r.version_of (set w.views id bumper)
  bump_registry = record {
    epochs = record {
      words = λ l above below. else_ r id at control can (epoch_at l) (λ e. omega arith) ∙ r.registry.epochs.words
          l above below;
      past = λ l above below. most_later (version_in w.registry) (version_in bumped) (r.state l)
          (let rise = up r id at control can in omega arith) (r.registry.epochs.past l above below);
    };
    versions = bump_versions r id at control can;
    boundaries = bump_boundaries;
    each = each_set _ w.views id bumper (others_stay r id at control bumped (bump_endures r id at control can))
        bump_stays;
    flights = each_set _ w.views id bumper
        (λ j u ne at_u. carries_later k w.registry bumped (bump_endures r id at control can) r.version_of u.lane
        u.epoch u.flight
        (r.registry.flights j u at_u))
        (carries_later k w.registry bumped (bump_endures r id at control can) r.version_of v.lane v.epoch v.flight
        (r.registry.flights id v at));
  }

  -- a bump keeps the rule, and all that lasts
  pub raise_version_lasts : Lasts r (record w { registry = bumped; views = set w.views id bumper })
  raise_version_lasts = (
    registers r id at bumped v.epoch (suc v.learned.version) v.learned.words bumper.rows v.control_words bumper.round
        (ticked v.clock) (bump_endures r id at control can) r.state bump_registry,
    register_lasts r id at bumped v.epoch (suc v.learned.version) v.learned.words bumper.rows v.control_words
        bumper.round (ticked v.clock) (bump_endures r id at control can) r.state bump_registry,
  )

-- a store of the version plus one
pub raise_version_allowed : (given k : Key) → given ≡ k → (size id : ℕ) (me : Sat) (x : ℕ) → me.0.about ≡ k
    → CanRaiseVersion me.0 → x ≡ suc me.0.learned.version
    → Allows (Ruled given) size id me 2 (λ _. x) (λ _. told_raise_version (step size 2 x 0 none) me x)
raise_version_allowed given k same size id me x about can is =
    allowed given k same size id me 2 (λ _. x) (λ _. told_raise_version (step size 2 x 0 none) me x) (λ ws vs wide r at.
    let w : World = world k ws vs in
    let v' : View = after_raise_version me.0 in
    let kept : Rule k (record w { registry = put w.registry 2 x; views = set vs id v' }) =
    subst (λ (z : ℕ). Rule k (record w { registry = put w.registry 2 z; views = set vs id v' })) (sym is)
    (raise_version_lasts r id at can.control can).0 in
    let moved = world-registry k ws vs (set vs id v') 2 x (omega arith) (omega arith) wide in (
      v',
      subst (Rule k) (sym moved) kept,
      record { view = refl; held = refl; stands = stands k _ id v' kept about (there vs id me.0 v' at) },
    ))
