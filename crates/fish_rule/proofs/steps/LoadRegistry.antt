-- `load_opened`, `load_operation` and `load_row`: a load of a word of the registry that lasts.
use Rattle.std.proofs.Common.{◌≡◌, ℕ, ◌<◌, length, set, refl, subst, inl, inr, arith, ◌≤◌, get_or, sym, ap, ◌∙◌}
use Rattle.std.proofs.Common.{slice_get}
use Rattle.fish_rule.proofs.basics.Context.{Key, Rule, View, World, get_elem?, none, some}
use Rattle.fish_rule.proofs.basics.RegistryWords.{has_read, length_grows}
use Rattle.fish_rule.proofs.basics.Lasts.{Lasts}
use Rattle.fish_rule.specs.RegistrySteps.{CanLoadRegistry, after_load_registry}
use Rattle.fish_rule.specs.Registry.{IsLasting, IsRegistered, definitions_at, version_in}
use Rattle.fish_rule.proofs.classes.Loads.{learn_lasts, still_chained}
use Rattle.fish_rule.specs.World.{heads_at, world}
use Rattle.fish_rule.proofs.steps.LoadVersion.{version_rises}
use Rattle.fish_rule.proofs.classes.Allowed.{Allows, Ruled, Sat, allowed, loaded_words, stands, step, there, word_at}
use Rattle.fish_rule.specs.Told.{ToldLoadRegistry}

module _ {k : Key} {w : World} (r : Rule k w) (id : ℕ) {v : View} (at : get_elem? w.views id ≡ some v) where
  module _ (about : v.about ≡ k) (p : ℕ) (can : CanLoadRegistry v p) where
    -- the word lasts
    pub lasts_there : IsLasting k w.registry p
    lasts_there = by can
      where
        by : CanLoadRegistry v p → IsLasting k w.registry p
        by (inl e) = inl e
        by (inr (inl h)) = (let a = version_rises r id at in let b = h.2 in inr (inl (
          h.0,
          subst (λ (z : Key). z.version < h.0) about h.1,
          (omega arith),
          h.3,
        )))
        by (inr (inr h)) =
            let row = h.2 in
            let stays = r.registry.each id v at in
            let a = version_rises r id at in
            let b = row.reached in
            let there : h.0 < length (definitions_at k w.registry row.version) =
            subst (λ (z : Key). h.0 < length (definitions_at z w.registry row.version)) about
            (row.there w.registry (has_read k w.registry v.learned.words stays.read)) in
            let up = length_grows k w.registry row.version (version_in w.registry) (omega arith) in
            inr (inr (inl (h.0, h.1, (omega arith), h.3, h.4, h.5)))

    -- the view afterwards
    abbrev pub registered_view : View
    registered_view = after_load_registry v p (w.registry p)

    -- a load of it keeps the rule, and all that lasts
    pub load_registry_lasts : Lasts r (record w { views = set w.views id registered_view })
    load_registry_lasts =
        let h = r.facts id v at in
        let stays = r.registry.each id v at in
        let u : View = registered_view in
        let still = still_chained r id at u.learned v.tail v.round u.clock in
        let read : IsRegistered k w.registry (record { index = p; value = w.registry p }) =
        record { lasts = lasts_there; word = refl } in
        learn_lasts r id at u.learned v.tail v.round u.clock (r.tails id v at) (assumption h) (r.opens id v at)
        (r.floors id v at) (assumption still) (assumption (stays, read))

-- a word that lasts is one of the registry's
pub lasting_within : {k : Key} {w : World} (r : Rule k w) (p : ℕ) → IsLasting k w.registry p
    → (2 ≤ p) × (p < heads_at)
lasting_within r p (inl h) = (omega arith, omega arith)
lasting_within r p (inr (inl h)) = (let a = h.2 in let b = h.3 in let f = r.registry.versions.few in
    (omega arith, omega arith))
lasting_within r p (inr (inr (inr h))) = (let a = h.0.2 in let b = h.0.3 in let c = h.0.4 in (omega arith, omega arith))
lasting_within {w = w} r p (inr (inr (inl h))) =
    let few = (r.registry.versions.listings (version_in w.registry) (omega arith)).few in
    let a = h.2 in
    let b = h.4 in
    let c = h.5 in
    (omega arith, omega arith)

-- a load of a word that lasts
pub load_registry_allowed : (given k : Key) → given ≡ k → (size id : ℕ) (me : Sat) (p : ℕ) → me.0.about ≡ k
    → CanLoadRegistry me.0 p → Allows (Ruled given) size id me p (λ n. n) (ToldLoadRegistry (step size p 0 0 none) me)
load_registry_allowed given k same size id me p about can =
    allowed given k same size id me p (λ n. n) (ToldLoadRegistry (step size p 0 0 none) me) (λ ws vs wide r at.
    let w : World = world k ws vs in
    let x : ℕ = get_or ws p 0 in
    let within = lasting_within r p (lasts_there r id at about p can) in
    let word : x ≡ w.registry p = word_at k ws vs p within.0 within.1 in
    let v' : View = after_load_registry me.0 p x in
    let kept : Rule k (record w { views = set vs id v' }) =
    subst (λ (z : ℕ). Rule k (record w { views = set vs id (after_load_registry me.0 p z) })) (sym word)
    (load_registry_lasts r id at about p can).0 in (
      v',
      loaded_words k ws (set vs id v') p kept,
      record {
        told = record { view = refl; held = refl; stands = stands k _ id v' kept about (there vs id me.0 v' at) };
        opened = λ e. word ∙ ap w.registry e ∙ r.registry.versions.opened
            ∙ ap (λ (z : Key). length z.rows.value) (sym about);
        row = λ n i row there_ a b e.
            let h = r.registry.versions.rows n row
            (ap (λ (z : Key). slice_get z.rows.value n) (sym about) ∙ there_) in
            (h.0, word ∙ ap w.registry e ∙ h.1 i a b);
      },
    ))
