-- The looks at lanes that items of pending registrations have after them, with one step or one item more.
use Rattle.std.proofs.Common.{◌≡◌, ◌⊎◌, ℕ, List, [], ◌∷◌, ◌++◌, refl, sym, ap, ◌∙◌, subst, inl, inr, ⊎_elim, Option, None, Some}
use Rattle.fish_lanes.proofs.Registrations.{after_more}
use Rattle.fish_lanes.specs.within.Controlling.{HasLooked, HasPolled, RollsBy}
use Rattle.fish_lanes.specs.Pending.{AreFound, HasFoundOlder, IsFoundBy}
use Rattle.fish_lanes.specs.Registering.{ItemFits, Registry, after, after_all, registry_of, waiting_id}
use Rattle.fish_registry.specs.declared.registrar.Registrar.{Registrar}
use Rattle.fish_registry.specs.declared.registrar.Waiting.{Waiting}
use Rattle.fish_report.specs.declared.item.DeregisterCause.TheVariants as deregister
use Rattle.fish_report.specs.declared.item.Item.{Item}
use Rattle.fish_report.specs.declared.item.Item.TheVariants as item
use Rattle.fish_report.specs.declared.item.RegisterCause.TheVariants as register
use Rattle.fish_rule.proofs.laws.Clocks.{later_both, later_self, loaded_within}
use Rattle.fish_rule.specs.Clocks.{IsLater}
use Rattle.fish_rule.specs.declared.view.Clock.{Clock}
use Rattle.fish_rule.specs.declared.view.View.{View}

-- ---- clocks that lie further apart

older_within : (a b c d : Clock) (version : ℕ) → IsLater a b → HasFoundOlder b c version → IsLater c d → HasFoundOlder a d version
older_within a b c d version p h q =
    record { lane = h.lane; older = h.older; loaded = loaded_within a b c d _ _ p h.loaded q; less = h.less }

found_before : (a b c : Clock) (r : Registry) (x : Item) → IsLater a b → IsFoundBy b c r x → IsFoundBy a c r x
found_before a b c r (item.Rolling name id def lane older) p h = loaded_within a b c c _ _ p h (later_self c)
found_before a b c r (item.RegisterRefused name (register.Rolling id)) p h = older_within a b c c r.version p h (later_self c)
found_before a b c r (item.DeregisterRefused name (deregister.Rolling id)) p h = older_within a b c c r.version p h (later_self c)
found_before a b c r x p h = h

pub found_on : (a b c : Clock) (r : Registry) (items : List Item) → AreFound a b r items → IsLater b c → AreFound a c r items
found_on a b c r [] h q = later_both a b c h q
found_on a b c r (x ∷ items) h q = (h.0, h.1, h.2, found_on h.0 b c (after r x) items h.3 q)

pub found_within : (a b c d : Clock) (r : Registry) (items : List Item) → IsLater a b → AreFound b c r items → IsLater c d
    → AreFound a d r items
found_within a b c d r [] p h q = later_both a b d p (later_both b c d h q)
found_within a b c d r (x ∷ items) p h q =
    (h.0, later_both a b h.0 p h.1, found_before a b h.0 r x p h.2, found_on h.0 c d (after r x) items h.3 q)

-- ---- one item more

found_more : (a b c : Clock) (r : Registry) (items : List Item) (x : Item) → AreFound a b r items → IsLater b c
    → IsFoundBy b c (after_all r items) x → AreFound a c r (items ++ x ∷ [])
found_more a b c r [] x h q one = (c, later_both a b c h q, found_before a b c r x h one, later_self c)
found_more a b c r (y ∷ items) x h q one = (h.0, h.1, h.2, found_more h.0 b c (after r y) items x h.3 q one)

-- what isn't there has no id
none_id : (w : Option Waiting) (id : ℕ) → w ≡ None → waiting_id w ≡ Some id → {P : Type 0} → P
none_id w id none is = (let bad : waiting_id None ≡ Some id = ap waiting_id (sym none) ∙ is in absurd cc)

none_there : (w : Option Waiting) → waiting_id w ≡ None → w ≡ None
none_there None h = refl
none_there (Some w) h = absurd (let bad : Some w.id ≡ None = h in cc)

-- a statement's item has after it what the look before the statement found, and what the statement itself did
found_by : (a : Clock) (u t : View) (s : Registrar) (low high : ℕ) (x : Item) → IsLater a u.clock → IsLater u.clock t.clock
    → (s.waiting ≡ None) ⊎ HasFoundOlder a u.clock u.learned.version → RollsBy u t x → ItemFits low high (registry_of u s) x
    → IsFoundBy a t.clock (registry_of u s) x
found_by a u t s low high (item.Rolling name id def lane older) p q looked rolls so =
    loaded_within a u.clock t.clock t.clock _ _ p rolls (later_self t.clock)
found_by a u t s low high (item.RegisterRefused name (register.Rolling id)) p q looked rolls so =
    ⊎_elim (λ (none : s.waiting ≡ None). none_id s.waiting id none so)
    (λ (h : HasFoundOlder a u.clock u.learned.version). older_within a a u.clock t.clock u.learned.version (later_self a) h q) looked
found_by a u t s low high (item.DeregisterRefused name (deregister.Rolling id)) p q looked rolls so =
    ⊎_elim (λ (none : s.waiting ≡ None). none_id s.waiting id none so)
    (λ (h : HasFoundOlder a u.clock u.learned.version). older_within a a u.clock t.clock u.learned.version (later_self a) h q) looked
found_by a u t s low high x p q looked rolls so = tt

-- ---- a look at the lanes, and a statement after it

module _ (c : Clock) (r : Registry) (v u : View) (q s : Registrar) (items items' : List Item)
    (h : AreFound c v.clock r items) (is : registry_of v q ≡ after_all r items) (on : IsLater v.clock u.clock)
    (polled : HasPolled v q u s items items') where
  -- a boundary that was found tells of none that waits
  pub found_polled : AreFound c u.clock r items'
  found_polled = by polled
    where
      by : HasPolled v q u s items items' → AreFound c u.clock r items'
      by (inl p) = subst (AreFound c u.clock r) (sym p.0) (found_on c v.clock u.clock r items h on)
      by (inr p) = subst (AreFound c u.clock r) (sym p.2)
          (found_more c v.clock u.clock r items (item.Bound p.0 p.1) h on tt)

  pub found_next : (t : View) (low high : ℕ) (x : Item) → HasLooked v u s → IsLater u.clock t.clock → RollsBy u t x
      → ItemFits low high (registry_of u s) x → AreFound c t.clock r (items' ++ x ∷ [])
  found_next t low high x looked later rolls so = by polled
    where
      by : HasPolled v q u s items items' → AreFound c t.clock r (items' ++ x ∷ [])
      by (inl p) = subst (λ (z : List Item). AreFound c t.clock r (z ++ x ∷ [])) (sym p.0)
          (found_more c v.clock t.clock r items x h (later_both v.clock u.clock t.clock on later)
          (subst (λ (z : Registry). IsFoundBy v.clock t.clock z x) (p.1 ∙ is)
          (found_by v.clock u t s low high x on later looked rolls so)))
      by (inr p) =
          let bound : Item = item.Bound p.0 p.1 in
          let behind : registry_of u s ≡ after_all r (items ++ bound ∷ []) =
          p.3.is ∙ ap (λ (z : Registry). after z bound) is ∙ sym (after_more r items bound) in
          subst (λ (z : List Item). AreFound c t.clock r (z ++ x ∷ [])) (sym p.2)
          (found_more c u.clock t.clock r (items ++ bound ∷ []) x
          (found_more c v.clock u.clock r items bound h on tt) later
          (subst (λ (z : Registry). IsFoundBy u.clock t.clock z x) behind
          (found_by u.clock u t s low high x (later_self u.clock) later
          (inl (none_there s.waiting (ap (λ (z : Registry). z.waiting) p.3.is))) rolls so)))
