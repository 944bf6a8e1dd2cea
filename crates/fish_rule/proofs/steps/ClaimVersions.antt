-- What a claim leaves of the registry's part: the new record is of the version at which its pass is entered.
use Rattle.std.proofs.Common.{◌≡◌, ◌≢◌, ℕ, ◌<◌, ◌≤◌, suc, length, sym, refl, ap, ◌∙◌, subst, arith, Some, None, Option}
use Rattle.std.proofs.Math.Decide.{ℕ_discrete, dec_lt}
use Rattle.fish_rule.proofs.basics.Context.{Epoch, Flight, Key, Rule, View, World, get_elem?, some}
use Rattle.fish_rule.proofs.basics.Lists.{all_map, has_own}
use Rattle.fish_rule.proofs.basics.Bodies.{published}
use Rattle.fish_rule.proofs.basics.Worlds.{put-else, put-here}
use Rattle.fish_rule.specs.Parts.{Flies}
use Rattle.fish_rule.specs.SpaceSteps.{CanClaimLines}
use Rattle.fish_rule.specs.World.{high, put}
use Rattle.fish_rule.specs.declared.view.Kind.TheVariants.{Stored}
use Rattle.fish_layout.specs.Cleared.{body_of}
use Rattle.fish_rule.specs.Boundaries.{Boundaries, IsOpenIn, IsUnended, Lists}
use Rattle.fish_rule.specs.Epochs.{Carries, IsAtMost, Stays, Versions}
use Rattle.fish_rule.specs.Keys.{IsKeyed}
use Rattle.fish_rule.specs.Regions.{code}
use Rattle.fish_rule.specs.Registry.{AreActiveAt, HasBoundary, definitions_at, version_in}
use Rattle.fish_rule.specs.Rounds.{IsSince, Waits}
use Rattle.fish_rule.specs.declared.view.Round.{Round}
use Rattle.fish_rule.specs.declared.view.Epoch.TheVariants.{Confirmed}

module _ {k : Key} {w : World} (r : Rule k w) (id : ℕ) {v : View} (at : get_elem? w.views id ≡ some v)
    (can : CanClaimLines v) where
  -- the new record is of the version at which the pass is entered
  abbrev pub version_of' : ℕ → ℕ
  version_of' = put r.version_of w.count can.version

  -- up to the old count nothing moves
  pub old_version : (n : ℕ) → n < w.count → version_of' n ≡ r.version_of n
  old_version n h = put-else r.version_of w.count can.version n (λ e. omega arith)

  -- a number with a record was published before
  pub keyed_old : (n : ℕ) → high (w.dir n) ≡ code Stored → (n < w.count) × (w.dir n ≢ 0)
  keyed_old n stored = pick (dec_lt n w.count)
    where
      set_ : w.dir n ≢ 0
      set_ = published (w.dir n) Stored stored

      pick : Dec (n < w.count) → (n < w.count) × (w.dir n ≢ 0)
      pick (yes less) = (less, set_)
      pick (no more) = absurd (set_ (r.space.dir_beyond n (omega arith)))

  -- the version is one that the registry has reached
  version_reached : can.version ≤ version_in w.registry
  version_reached =
      let has = has_own w.views id v at can.live r.seats in
      let state : r.state v.lane ≡ v.epoch = ((r.registry.each id v at).tied v.lane has).0 refl in
      subst (IsAtMost (version_in w.registry)) (state ∙ can.entered)
      (r.registry.epochs.past v.lane has.0 has.1)

  -- the versions of records, the new one among them
  pub versions : Versions k (suc w.count) w.registry version_of'
  versions =
      let h = r.registry.versions in
      record {
        from = h.from;
        few = h.few;
        since = λ n above below. first n above below (ℕ_discrete n w.count);
        upto = λ n above below. pick n above below (ℕ_discrete n w.count);
        listings = h.listings;
        operations = h.operations;
        opened = h.opened;
        rows = h.rows;
      }
    where
      mine : k.version ≤ can.version
      mine = subst (IsSince k.version) can.entered (r.registry.each id v at).since

      first : (n : ℕ) → k.number ≤ n → n < suc w.count → Dec (n ≡ w.count) → k.version ≤ version_of' n
      first n above below (yes e) = subst (λ (z : ℕ). k.version ≤ z)
          (sym (ap version_of' e ∙ put-here r.version_of w.count can.version)) mine
      first n above below (no ne) = (let less : n < w.count = omega arith in
          subst (λ (z : ℕ). k.version ≤ z) (sym (old_version n less)) (r.registry.versions.since n above less))

      pick : (n : ℕ) → k.number ≤ n → n < suc w.count → Dec (n ≡ w.count) → version_of' n ≤ version_in w.registry
      pick n above below (yes e) = subst (λ (z : ℕ). z ≤ version_in w.registry)
          (sym (ap version_of' e ∙ put-here r.version_of w.count can.version)) version_reached
      pick n above below (no ne) = (let less : n < w.count = omega arith in
          subst (λ (z : ℕ). z ≤ version_in w.registry) (sym (old_version n less))
          (r.registry.versions.upto n above less))

  -- the records in flight keep their versions
  pub others_carry : (lane : ℕ) (epoch : Epoch) (o : Option Flight)
      → Flies k w.count w.dir w.log r.start r.lane_of lane o → Carries k w.registry r.version_of lane epoch o
      → Carries k w.registry version_of' lane epoch o
  others_carry lane epoch None flies h = h
  others_carry lane epoch (Some g) flies h =
      let e : version_of' g.number ≡ r.version_of g.number = old_version g.number flies.below in
      record {
        entered = h.entered ∙ ap Confirmed (sym e);
        keyed = λ some_. subst (λ (z : ℕ). IsKeyed (AreActiveAt k w.registry) z lane g.number g.lines
            (body_of g.words)) (sym e) (h.keyed some_);
      }

  -- the lane is as far entered as the pass
  own_state : r.state v.lane ≡ Confirmed can.version
  own_state = ((r.registry.each id v at).tied v.lane (has_own w.views id v at can.live r.seats)).0 refl ∙ can.entered

  -- where an index has begun, the new record's version has the definition
  pub boundaries : Boundaries k (suc w.count) w.registry r.state version_of'
  boundaries =
      let h = r.registry.boundaries in
      record {
        unmade = h.unmade;
        in_order = h.in_order;
        after = h.after;
        claimed = λ n i x few bound is. (let a = h.claimed n i x few bound is in omega arith);
        opened = h.opened;
        early = h.early;
        entered = h.entered;
        begun = λ n from m few is above after below. begins n from m few is above after below (ℕ_discrete m w.count);
        unended = λ n to m few is above before below.
            (let most = h.claimed n 1 to few (omega arith) is in
            let less : m < w.count = omega arith in
            subst (λ (z : ℕ). IsOpenIn (definitions_at k w.registry z) n) (sym (old_version m less))
            (h.unended n to m few is above before less));
        running = h.running;
      }
    where
      begins : (n from m : ℕ) → n < 256 → HasBoundary w.registry n 0 from → k.number ≤ m → from ≤ m
          → m < suc w.count → Dec (m ≡ w.count) → n < length (definitions_at k w.registry (version_of' m))
      begins n from m few is above after below (yes e) =
          let has = has_own w.views id v at can.live r.seats in
          let lists = subst (Lists k w.registry n) own_state
          (r.registry.boundaries.entered n from v.lane few is has.0 has.1) in
          subst (λ (z : ℕ). n < length (definitions_at k w.registry z))
          (sym (ap version_of' e ∙ put-here r.version_of w.count can.version)) lists
      begins n from m few is above after below (no ne) = (let less : m < w.count = omega arith in
          subst (λ (z : ℕ). n < length (definitions_at k w.registry z)) (sym (old_version m less))
          (r.registry.boundaries.begun n from m few is above after less))

  -- a registration waits on: once all lanes were looked at, the new record has at least its version
  waiting : (lane : ℕ) (o : Option Round) → Waits k w.count w.registry r.state r.version_of lane o
      → Waits k (suc w.count) w.registry r.state version_of' lane o
  waiting lane None h = h
  waiting lane (Some o) h = record {
    control = h.control;
    few = h.few;
    reached = h.reached;
    listed = h.listed;
    unset = h.unset;
    clear = h.clear;
    bound = λ n is. let b = h.bound n is in
        record {
          all = b.all;
          above = b.above;
          within = (let a = b.within in omega arith);
          since = λ m above after below. (after_load_bound n is m above after below (ℕ_discrete m w.count));
        };
  }
    where
      after_load_bound : (n : ℕ) → o.bound ≡ Some n → (m : ℕ) → k.number ≤ m → n ≤ m → m < suc w.count → Dec (m ≡ w.count)
          → o.version ≤ version_of' m
      after_load_bound n is m above after below (yes e) =
          let has = has_own w.views id v at can.live r.seats in
          let since = subst (IsSince o.version) own_state
          (h.clear v.lane has.0 has.1 ((h.bound n is).all v.lane has.0 has.1)) in
          subst (λ (z : ℕ). o.version ≤ z) (sym (ap version_of' e ∙ put-here r.version_of w.count can.version)) since
      after_load_bound n is m above after below (no ne) = (let less : m < w.count = omega arith in
          subst (λ (z : ℕ). o.version ≤ z) (sym (old_version m less)) ((h.bound n is).since m above after less))

  -- what a pass knows of the registry is so
  pub stays_on : (u : View) → Stays k w.count w.registry r.state r.version_of u
      → Stays k (suc w.count) w.registry r.state version_of' u
  stays_on u h =
      let old = IsUnended k w.count w.registry r.version_of in
      let new = IsUnended k (suc w.count) w.registry version_of' in
      let unended = all_map old new (λ x m. record {
        within = (let a = m.within in omega arith);
        running = λ n above below. (let a = m.within in let less : n < w.count = omega arith in
            subst (λ (z : ℕ). IsOpenIn (definitions_at k w.registry z) x.id) (sym (old_version n less))
            (m.running n above below));
        opened = m.opened;
      }) u.learned.unended h.unended in
      assumption (h, unended, waiting u.lane u.round h.waits)
