-- `load_version`: a load of the version, which confirms an announced one.
use Rattle.std.proofs.Common.{◌≡◌, ℕ, ◌<◌, ◌≤◌, suc, length, set, sym, refl, ap, ◌∙◌, subst, arith, Some, None, Option}
use Rattle.std.proofs.Common.{get_or}
use Rattle.std.proofs.Math.Decide.{ℕ_discrete}
use Rattle.fish_rule.proofs.basics.Context.{Epoch, Flight, Key, Rule, View, World, get_elem?, none, some}
use Rattle.fish_layout.specs.Cleared.{choose}
use Rattle.fish_rule.proofs.basics.Lists.{has_own}
use Rattle.fish_rule.proofs.basics.RegistryWords.{endures_same}
use Rattle.fish_rule.proofs.basics.Lasts.{Lasts}
use Rattle.fish_rule.specs.RegistrySteps.{after_load_version}
use Rattle.fish_rule.specs.Boundaries.{Lists}
use Rattle.fish_rule.specs.Epochs.{Carries, IsAtMost, confirmed, epoch_word}
use Rattle.fish_rule.specs.Registry.{definitions_at, version_in}
use Rattle.fish_rule.specs.Rounds.{IsSince}
use Rattle.fish_rule.specs.World.{world}
use Rattle.fish_rule.specs.declared.view.Epoch.TheVariants.{Announced, Confirmed, Out}
use Rattle.fish_rule.proofs.classes.OwnEpoch.{moves_last}
use Rattle.fish_rule.proofs.classes.Allowed.{Allows, Ruled, Sat, allowed, loaded_words, stands, step, there, word_at}
use Rattle.fish_rule.specs.Told.{ToldLoadVersion}

-- a load of the version leaves the epoch's word
confirmed_word : (e : Epoch) (x : ℕ) → epoch_word (confirmed e x) ≡ epoch_word e
confirmed_word Out x = refl
confirmed_word (Confirmed u) x = refl
confirmed_word (Announced u) x = by (ℕ_discrete x u)
  where
    by : (d : Dec (x ≡ u)) → epoch_word (choose d (Confirmed u) (Announced u)) ≡ suc u
    by (yes e) = refl
    by (no ne) = refl

-- and its version
confirmed_most : (e : Epoch) (x v : ℕ) → IsAtMost v e → IsAtMost v (confirmed e x)
confirmed_most Out x v h = h
confirmed_most (Confirmed u) x v h = h
confirmed_most (Announced u) x v h = by (ℕ_discrete x u)
  where
    by : (d : Dec (x ≡ u)) → IsAtMost v (choose d (Confirmed u) (Announced u))
    by (yes e) = h
    by (no ne) = h

-- and is confirmed at no version before one that the registry was at
confirmed_since : (e : Epoch) (x s : ℕ) → s ≤ x → IsSince s e → IsSince s (confirmed e x)
confirmed_since Out x s from h = h
confirmed_since (Confirmed u) x s from h = h
confirmed_since (Announced u) x s from h = by (ℕ_discrete x u)
  where
    by : (d : Dec (x ≡ u)) → IsSince s (choose d (Confirmed u) (Announced u))
    by (yes e) = omega arith
    by (no ne) = tt

-- which lists what the version lists
confirmed_lists : (k : Key) (g : ℕ → ℕ) (id : ℕ) (e : Epoch) (x : ℕ) → id < length (definitions_at k g x)
    → Lists k g id e → Lists k g id (confirmed e x)
confirmed_lists k g id Out x listed h = h
confirmed_lists k g id (Confirmed u) x listed h = h
confirmed_lists k g id (Announced u) x listed h = by (ℕ_discrete x u)
  where
    by : (d : Dec (x ≡ u)) → Lists k g id (choose d (Confirmed u) (Announced u))
    by (yes e) = subst (λ (z : ℕ). id < length (definitions_at k g z)) e listed
    by (no ne) = tt

-- and what the pass carries
confirmed_carries : (k : Key) (g : ℕ → ℕ) (version_of : ℕ → ℕ) (lane : ℕ) (e : Epoch) (x : ℕ) (o : Option Flight)
    → Carries k g version_of lane e o → Carries k g version_of lane (confirmed e x) o
confirmed_carries k g version_of lane e x None h = h
confirmed_carries k g version_of lane e x (Some f) h = record {
  entered = ap (λ (z : Epoch). confirmed z x) h.entered;
  keyed = h.keyed;
}

module _ {k : Key} {w : World} (r : Rule k w) (id : ℕ) {v : View} (at : get_elem? w.views id ≡ some v) where
  -- the own lane is as far entered as the pass
  own_state : 1 ≤ v.lane → r.state v.lane ≡ v.epoch
  own_state some_ = ((r.registry.each id v at).tied v.lane (has_own w.views id v at some_ r.seats)).0 refl

  -- a load of the version keeps the rule, and all that lasts
  pub load_version_lasts : Lasts r (record w { views = set w.views id (after_load_version v (w.registry 2)) })
  load_version_lasts = moves_last r id at w.registry (confirmed v.epoch (w.registry 2)) (w.registry 2)
      (endures_same k w.registry) refl (λ p ne. refl)
      (λ a b. r.registry.epochs.words v.lane a b ∙ ap epoch_word (own_state a)
      ∙ sym (confirmed_word v.epoch (w.registry 2)))
      (λ _. r.registry.versions.from)
      (λ s reached h. confirmed_since v.epoch (w.registry 2) s reached h)
      (λ n listed h. confirmed_lists k w.registry n v.epoch (w.registry 2) listed h)
      (λ a b. confirmed_most v.epoch (w.registry 2) (version_in w.registry)
      (subst (IsAtMost (version_in w.registry)) (own_state a) (r.registry.epochs.past v.lane a b)))
      (omega arith) (λ e. refl)
      (confirmed_carries k w.registry r.version_of v.lane v.epoch (w.registry 2) v.flight (r.registry.flights id v at))
      (after_load_version v (w.registry 2)).clock

  -- what is known of the version is so
  pub version_rises : v.learned.version ≤ w.registry 2
  version_rises = (r.registry.each id v at).reached

-- a load of the version
pub load_version_allowed : (given k : Key) → given ≡ k → (size id : ℕ) (me : Sat) → me.0.about ≡ k
    → Allows (Ruled given) size id me 2 (λ n. n) (ToldLoadVersion (step size 2 0 0 none) me)
load_version_allowed given k same size id me about =
    allowed given k same size id me 2 (λ n. n) (ToldLoadVersion (step size 2 0 0 none) me) (λ ws vs wide r at.
    let w : World = world k ws vs in
    let x : ℕ = get_or ws 2 0 in
    let word : x ≡ w.registry 2 = word_at k ws vs 2 (omega arith) (omega arith) in
    let v' : View = after_load_version me.0 x in
    let kept : Rule k (record w { views = set vs id v' }) =
    subst (λ (z : ℕ). Rule k (record w { views = set vs id (after_load_version me.0 z) })) (sym word)
    (load_version_lasts r id at).0 in (
      v',
      loaded_words k ws (set vs id v') 2 kept,
      record {
        told = record { view = refl; held = refl; stands = stands k _ id v' kept about (there vs id me.0 v' at) };
        rises = subst (λ (z : ℕ). me.0.learned.version ≤ z) (sym word) (version_rises r id at);
        from = subst (λ (z : ℕ). me.0.about.version ≤ z) (sym word)
            (subst (λ (z : Key). z.version ≤ w.registry 2) (sym about) r.registry.versions.from);
        few = subst (λ (z : ℕ). z ≤ 512) (sym word) r.registry.versions.few;
        control = λ e. word ∙ sym ((r.registry.each id me.0 at).control e).version;
      },
    ))
