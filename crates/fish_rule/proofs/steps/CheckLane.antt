-- `check_lane`: a load of a lane's epoch word.
use Rattle.std.proofs.Common.{◌≡◌, ℕ, ◌<◌, set, sym, ◌∙◌, subst, inl, inr, ⊎_elim, ◌⊎◌, arith, Some, None, Option, ◌≢◌}
use Rattle.std.proofs.Common.{◌-◌, ◌≤◌, suc, get_or, refl, ap}
use Rattle.std.proofs.Math.Decide.{ℕ_discrete, dec_lt}
use Rattle.fish_rule.proofs.basics.Context.{Among, Epoch, Key, Rule, View, World, get_elem?, none, some}
use Rattle.fish_layout.specs.Cleared.{choose}
use Rattle.fish_rule.proofs.classes.Loads.{learn_lasts, still_chained}
use Rattle.fish_rule.proofs.basics.Lasts.{Lasts}
use Rattle.fish_rule.specs.BoundarySteps.{IsLane, after_check_lane, checked_after, with_lane}
use Rattle.fish_rule.specs.Epochs.{epoch_word, IsAtMost, Stays}
use Rattle.fish_rule.specs.Registry.{epoch_at, version_in}
use Rattle.fish_rule.specs.Rounds.{IsRound, IsSince, Waits}
use Rattle.fish_rule.specs.World.{world}
use Rattle.fish_rule.specs.declared.view.Epoch.TheVariants.{Announced, Confirmed, Out}
use Rattle.fish_rule.specs.declared.view.Round.{Round}
use Rattle.fish_rule.proofs.classes.Allowed.{Allows, Ruled, Sat, Told, allowed, loaded_words, stands, step, there, word_at}
use Rattle.fish_rule.specs.LoadSteps.{IsAlone}
use Rattle.fish_rule.specs.Told.{ToldCheckLane}

-- a lane whose epoch word is 0 is confirmed at no version
since_zero : (e : Epoch) (s : ℕ) → epoch_word e ≡ 0 → IsSince s e
since_zero Out s h = tt
since_zero (Announced u) s h = tt
since_zero (Confirmed u) s h = absurd (omega arith)

-- and one whose word is above a version at no older one
since_above : (e : Epoch) (s : ℕ) → s < epoch_word e → IsSince s e
since_above Out s h = tt
since_above (Announced u) s h = tt
since_above (Confirmed u) s h = omega arith

module _ {k : Key} {w : World} (r : Rule k w) (id : ℕ) {v : View} (at : get_elem? w.views id ≡ some v) where
  module _ (l : ℕ) (lane : IsLane l) where
    -- the word that is loaded
    abbrev word : ℕ
    word = w.registry (epoch_at l)

    -- the view afterwards
    abbrev checker : View
    checker = after_check_lane v l word

    -- the lane is confirmed at no version before the registration's, where its word tells so
    cleared_lane : (o : Round) → (word ≡ 0) ⊎ (o.version < word) → IsSince o.version (r.state l)
    cleared_lane o (inl e) = since_zero (r.state l) o.version (sym (r.registry.epochs.words l lane.some lane.few) ∙ e)
    cleared_lane o (inr less) = since_above (r.state l) o.version
        (subst (λ (z : ℕ). o.version < z) (r.registry.epochs.words l lane.some lane.few) less)

    -- one lane more was looked at
    one_more : (o : Round) → IsRound k w.count w.registry r.state r.version_of v.lane o
        → (word ≡ 0) ⊎ (o.version < word) → IsRound k w.count w.registry r.state r.version_of v.lane (with_lane l o)
    one_more o h tells = record {
      control = h.control;
      few = h.few;
      reached = h.reached;
      listed = h.listed;
      unset = h.unset;
      clear = λ m above below among. ⊎_elim
          (λ (e : l ≡ m). subst (λ (z : ℕ). IsSince o.version (r.state z)) e (cleared_lane o tells))
          (λ old. h.clear m above below old) among;
      bound = λ n is. let b = h.bound n is in
          record {
            all = λ m above below. inr (b.all m above below);
            above = b.above;
            within = b.within;
            since = b.since;
          };
    }

    -- the registration waits on
    checked_waits : (o : Option Round) → Waits k w.count w.registry r.state r.version_of v.lane o
        → Waits k w.count w.registry r.state r.version_of v.lane (checked_after l word o)
    checked_waits None h = tt
    checked_waits (Some o) h = by (ℕ_discrete word 0) (dec_lt o.version word)
      where
        by : (d : Dec (word ≡ 0)) (e : Dec (o.version < word))
            → IsRound k w.count w.registry r.state r.version_of v.lane
            (choose d (with_lane l o) (choose e (with_lane l o) o))
        by (yes z) e = one_more o h (inl z)
        by (no ne) (yes less) = one_more o h (inr less)
        by (no ne) (no more) = h

    -- a load of an epoch word keeps the rule, and all that lasts
    pub check_lane_lasts : Lasts r (record w { views = set w.views id checker })
    check_lane_lasts =
        let stays = r.registry.each id v at in
        learn_lasts r id at v.learned v.tail checker.round checker.clock (r.tails id v at) (r.facts id v at)
        (r.opens id v at) (r.floors id v at) (still_chained r id at v.learned v.tail checker.round checker.clock)
        (assumption (stays, checked_waits v.round stays.waits))

-- an epoch's word is at most one more than the version that it has reached
few_word : (e : Epoch) (v : ℕ) → IsAtMost v e → epoch_word e ≤ suc v
few_word Out v h = omega arith
few_word (Announced u) v h = omega arith
few_word (Confirmed u) v h = omega arith

-- a control pass that is alone and out has every lane, and so every lane is out
state_out : (k : Key) (count : ℕ) (g : ℕ → ℕ) (state : ℕ → Epoch) (version_of : ℕ → ℕ) (v : View) (l : ℕ) → IsLane l
    → IsAlone v → v.epoch ≡ Out → Stays k count g state version_of v → state l ≡ Out
state_out k count g state version_of v l lane alone outside stays =
    let tied = stays.tied l (
      lane.some,
      lane.few,
      inr (alone.control, λ m. elim (subst (Among l) alone.all m) [ ]),
    ) in
    pick tied (ℕ_discrete l v.lane)
  where
    pick : (l ≡ v.lane → state l ≡ v.epoch) × (l ≢ v.lane → state l ≡ Out) → Dec (l ≡ v.lane) → state l ≡ Out
    pick tied (yes same) = tied.0 same ∙ outside
    pick tied (no ne) = tied.1 ne

-- a load of a lane's epoch word
pub check_lane_allowed : (given k : Key) → given ≡ k → (size id : ℕ) (me : Sat) (l i : ℕ) → me.0.about ≡ k → IsLane l
    → i ≡ epoch_at l → Allows (Ruled given) size id me i (λ n. n) (ToldCheckLane (step size i 0 0 none) me)
check_lane_allowed given k same size id me l i about lane is =
    allowed given k same size id me i (λ n. n) (ToldCheckLane (step size i 0 0 none) me) (λ ws vs wide r at.
    let w : World = world k ws vs in
    let x : ℕ = get_or ws i 0 in
    let some_ = lane.some in
    let few = lane.few in
    let word : x ≡ w.registry (epoch_at l) = word_at k ws vs i (omega arith) (omega arith) ∙ ap w.registry is in
    let v' : View = after_check_lane me.0 l x in
    let kept : Rule k (record w { views = set vs id v' }) =
    subst (λ (z : ℕ). Rule k (record w { views = set vs id (after_check_lane me.0 l z) })) (sym word)
    (check_lane_lasts r id at l lane).0 in
    let back : i - 3 ≡ l = omega arith in
    let most = few_word (r.state l) (version_in w.registry) (r.registry.epochs.past l lane.some lane.few) in
    let epoch = r.registry.epochs.words l lane.some lane.few in
    let last = r.registry.versions.few in (
      v',
      loaded_words k ws (set vs id v') i kept,
      record {
        told = subst (λ (z : ℕ). Told me (after_check_lane me.0 z x) (v', me.1)) (sym back)
            (record { view = refl; held = refl; stands = stands k _ id v' kept about (there vs id me.0 v' at) });
        few = omega arith;
        alone = λ alone outside. word ∙ epoch
            ∙ ap epoch_word (state_out k w.count w.registry r.state r.version_of me.0 l lane alone outside (r.registry.each id me.0 at));
      },
    ))
