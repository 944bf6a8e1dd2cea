-- The values of the key entries of a definition, entry by entry, and some values of others.
use Rattle.std.proofs.Common.{◌≡◌, ℕ, ◌<◌, ◌∙◌, List, [], ◌∷◌, arith, refl, sym, subst, inl, inr, rules}
use Rattle.fish_layout.specs.Body.{AreProperKeys}
use Rattle.std.specs.Prelude.{◌↔◌}
use Rattle.fish_value.specs.declared.value.Value.{Value}
use Rattle.fish_layout.specs.declared.parts.KeyPart.{KeyPart}
use Rattle.fish_image.specs.Log.{AreSomeOf, values_under}

-- some of a list are some of it with one more in front
some_more : (vs : List Value) (w : Value) (ws : List Value) → AreSomeOf vs ws → AreSomeOf vs (w ∷ ws)
some_more [] w ws h = tt
some_more (v ∷ vs) w ws h = inr h

-- without the first they are some of it
some_without : (v : Value) (vs ws : List Value) → AreSomeOf (v ∷ vs) ws → AreSomeOf vs ws
some_without v vs [] h = absurd h
some_without v vs (w ∷ ws) (inl e) = some_more vs w ws e.1
some_without v vs (w ∷ ws) (inr h) = some_more vs w ws (some_without v vs ws h)

-- where the first are the same, the others are some of the others
pub some_next : (v : Value) (vs : List Value) (w : Value) (ws : List Value) → w ≡ v
    → AreSomeOf (v ∷ vs) (w ∷ ws) ↔ AreSomeOf vs ws
some_next v vs w ws same = (back, λ h. inl (sym same, h))
  where
    back : AreSomeOf (v ∷ vs) (w ∷ ws) → AreSomeOf vs ws
    back (inl e) = e.1
    back (inr h) = some_without v vs ws h

-- and where they aren't, all are some of the others
pub some_skip : (v : Value) (vs : List Value) (w : Value) (ws : List Value) → (v ≡ w → ⊥)
    → AreSomeOf (v ∷ vs) (w ∷ ws) ↔ AreSomeOf (v ∷ vs) ws
some_skip v vs w ws other = (back, λ h. inr h)
  where
    back : AreSomeOf (v ∷ vs) (w ∷ ws) → AreSomeOf (v ∷ vs) ws
    back (inl e) = absurd (other e.0)
    back (inr h) = h

-- lists with the same first are the same where the others are
pub all_own : (v : Value) (vs : List Value) (w : Value) (ws : List Value) → w ≡ v → (v ∷ vs ≡ w ∷ ws) ↔ (vs ≡ ws)
all_own v vs w ws same = (λ e. cc, λ e. cc)

-- and are not where the first differ
pub all_other : (v : Value) (vs : List Value) (w : Value) (ws : List Value) → (w ≡ v → ⊥) → v ∷ vs ≡ w ∷ ws → ⊥
all_other v vs w ws other e = (let same : w ≡ v = cc in other same)

-- nor is one the empty one
pub all_end : (v : Value) (vs : List Value) → v ∷ vs ≡ [] → ⊥
all_end v vs e = cc

-- by the lists whose first they are
pub some_taken : {us gs : List Value} (v : Value) (vs : List Value) (w : Value) (ws : List Value) → w ≡ v
    → us ≡ v ∷ vs → gs ≡ w ∷ ws → AreSomeOf us gs ↔ AreSomeOf vs ws
some_taken {us} {gs} v vs w ws same u g =
    let n = some_next v vs w ws same in (
      λ h. n.0 (subst (λ (z : List Value). AreSomeOf (v ∷ vs) z) g (subst (λ (z : List Value). AreSomeOf z gs) u h)),
      λ h. subst (λ (z : List Value). AreSomeOf z gs) (sym u) (subst (λ (z : List Value). AreSomeOf (v ∷ vs) z) (sym g) (n.1 h)),
    )

-- the first entry of a definition gives its first value
pub under_own : (id : ℕ) (k : KeyPart) (ks : List KeyPart) → k.id ≡ id → values_under id (k ∷ ks) ≡ k.value ∷ values_under id ks
under_own id k ks e = search rules

-- an entry of another definition gives none
pub under_other : (id : ℕ) (k : KeyPart) (ks : List KeyPart) → (k.id ≡ id → ⊥) → values_under id (k ∷ ks) ≡ values_under id ks
under_other id k ks other = search rules

-- entries whose ids lie above another one give none under it
pub none_below : (least id : ℕ) (ks : List KeyPart) → AreProperKeys least ks → id < least → values_under id ks ≡ []
none_below least id [] h above = refl
none_below least id (k ∷ ks) h above =
    under_other id k ks (λ same. absurd (omega (arith, same, h.0, above)))
    ∙ none_below k.id id ks h.3 (omega (arith, h.0, above))

-- nor do they after one of them
pub none_from : (id : ℕ) (k : KeyPart) (ks : List KeyPart) → AreProperKeys 0 (k ∷ ks) → id < k.id → values_under id (k ∷ ks) ≡ []
none_from id k ks h above = under_other id k ks (λ same. absurd (omega arith)) ∙ none_below k.id id ks h.3 above
