-- What a registration, the end of one and a refusal do, as their items tell it.
use Rattle.std.proofs.Common.{◌≡◌, ◌↔◌, ℕ, ◌<◌, ◌≤◌, List, length, sym, ap, ◌∙◌, subst, inl, inr, arith}
use Rattle.std.proofs.Common.{Some, None, Result, Ok, Err, count_by}
use Rattle.std.specs.Prelude.{IfErr, IfOk}
use Rattle.std.proofs.lemmas.Option.{same_Some}
use Rattle.std.proofs.Math.Decide.{dec_lt}
use Rattle.fish_catalog.specs.Limits.{most_active}
use Rattle.fish_catalog.specs.Rows.{HasActive, is_active}
use Rattle.fish_lanes.proofs.Registrations.{begun_is, few_versions, none_id, none_waits, waits_id}
use Rattle.fish_lanes.specs.within.Controlling.{Does, RollsBy, SaysBegun, SaysTail, deregister_cause, register_cause}
use Rattle.fish_lanes.specs.Registering.{IsDeregisterCause, IsRegisterCause, KnowsRegistry, MayAlter, MayRegister}
use Rattle.fish_lanes.specs.Registering.{Registry, begun, bound, registry_of, waiting_id}
use Rattle.fish_lang.specs.Canonical.{definition_text}
use Rattle.fish_lang.specs.Definition.{definition_of}
use Rattle.fish_lang.specs.declared.definition.Def.{Def}
use Rattle.fish_registry.proofs.Changing.{same_tail}
use Rattle.fish_registry.specs.Changing.{OnlyLoads}
use Rattle.fish_registry.specs.Knowing.{IsWaiting}
use Rattle.fish_registry.specs.Refusing as registry
use Rattle.fish_registry.specs.Refusing.{HasBegunChange}
use Rattle.fish_registry.specs.declared.outcome.RegRefusal.{RegRefusal}
use Rattle.fish_registry.specs.declared.outcome.RegRefusal.TheVariants as refusal
use Rattle.fish_registry.specs.declared.registrar.Registrar.{Registrar}
use Rattle.fish_report.specs.declared.item.DeregisterCause.{DeregisterCause}
use Rattle.fish_report.specs.declared.item.Item.{Item}
use Rattle.fish_report.specs.declared.item.Item.TheVariants as item
use Rattle.fish_report.specs.declared.item.RegisterCause.{RegisterCause}
use Rattle.fish_rule.proofs.laws.Clocks.{later_self, loaded_within}
use Rattle.fish_rule.specs.Clocks.{IsLater}
use Rattle.fish_rule.specs.declared.view.View.{View}

-- what follows of each result
pub ok_then : {A E : Type 0} {P Q : A → Type 0} (r : Result A E) → ((a : A) → P a → Q a) → IfOk r P → IfOk r Q
ok_then (Ok a) f p = f a p
ok_then (Err e) f p = tt

-- and so it does of an error
pub err_then : {A E : Type 0} {P Q : E → Type 0} (r : Result A E) → ((e : E) → P e → Q e) → IfErr r P → IfErr r Q
err_then (Ok a) f p = tt
err_then (Err e) f p = f e p

-- a result isn't both
ok_or_err : {A E : Type 0} (r : Result A E) (a : A) (e : E) → r ≡ Ok a → r ≡ Err e → ⊥
ok_or_err r a e is err = (let bad : Ok a ≡ Err e = sym is ∙ err in absurd cc)

module _ {A : Type 0} (v : View) (r : Registrar) (result : Result A RegRefusal)
    (rolling : (id : ℕ) → (result ≡ Err (refusal.Rolling id)) ↔ IsWaiting r id)
    (versions : (result ≡ Err refusal.TooManyVersions) ↔ ((r.waiting ≡ None) × (512 ≤ v.learned.version))) where
  -- where a definition may come or go
  pub may_change : registry.MayChange r v → MayAlter (registry_of v r)
  may_change may = record { settled = none_id r.waiting may.settled; few = may.few }

  change_here : (a : A) → result ≡ Ok a → registry.MayChange r v
  change_here a is =
      let none = none_waits r.waiting (λ id w. ok_or_err result a (refusal.Rolling id) is ((rolling id).1 w)) in
      record {
        settled = none;
        few = few_versions r.waiting v.learned.version none
            (λ many. ok_or_err result a refusal.TooManyVersions is (versions.1 many));
      }

  pub changed_here : (a : A) → result ≡ Ok a → MayAlter (registry_of v r)
  changed_here a is = may_change (change_here a is)

  module _ (name : List ℕ)
      (active : (result ≡ Err refusal.NameActive) ↔ (registry.MayChange r v × HasActive r.catalog name))
      (many_active : (result ≡ Err refusal.TooManyActive)
      ↔ (registry.MayChange r v × (¬ HasActive r.catalog name) × (most_active ≤ count_by is_active r.catalog)))
      (many : (result ≡ Err refusal.TooManyDefinitions)
      ↔ (registry.MayChange r v × (¬ HasActive r.catalog name) × (count_by is_active r.catalog < most_active) × (256 ≤ length r.catalog)))
    where
      -- a definition was registered
      pub registered_here : (a : A) → result ≡ Ok a → MayRegister (registry_of v r) name
      registered_here a is =
          let may = change_here a is in
          let free : ¬ HasActive r.catalog name = λ h. ok_or_err result a refusal.NameActive is (active.1 (may, h)) in
          let few_active : count_by is_active r.catalog < most_active =
          active_few may free (dec_lt (count_by is_active r.catalog) most_active) in
          record {
            change = may_change may;
            free = free;
            few_active = few_active;
            few = all_few may free few_active (dec_lt (length r.catalog) 256);
          }
        where
          active_few : registry.MayChange r v → ¬ HasActive r.catalog name → Dec (count_by is_active r.catalog < most_active)
              → count_by is_active r.catalog < most_active
          active_few may free (yes less) = less
          active_few may free (no not_less) =
              absurd (ok_or_err result a refusal.TooManyActive is (many_active.1 (may, free, omega arith)))

          all_few : registry.MayChange r v → ¬ HasActive r.catalog name → count_by is_active r.catalog < most_active
              → Dec (length r.catalog < 256) → length r.catalog < 256
          all_few may free few (yes less) = less
          all_few may free few (no not_less) =
              absurd (ok_or_err result a refusal.TooManyDefinitions is (many.1 (may, free, few, omega arith)))

      -- or none was, and this is why
      pub register_so : (e : RegRefusal) (cause : RegisterCause) → result ≡ Err e → register_cause e ≡ Some cause
          → IsRegisterCause (registry_of v r) name cause
      register_so (refusal.Rolling id) cause is because =
          subst (IsRegisterCause (registry_of v r) name) (same_Some _ _ because) (waits_id r.waiting id ((rolling id).0 is))
      register_so refusal.TooManyVersions cause is because =
          let h = versions.0 is in
          subst (IsRegisterCause (registry_of v r) name) (same_Some _ _ because) (none_id r.waiting h.0, h.1)
      register_so refusal.NameActive cause is because =
          let h = active.0 is in
          subst (IsRegisterCause (registry_of v r) name) (same_Some _ _ because) (may_change h.0, h.1)
      register_so refusal.TooManyActive cause is because =
          let h = many_active.0 is in
          subst (IsRegisterCause (registry_of v r) name) (same_Some _ _ because) (may_change h.0, h.1, h.2)
      register_so refusal.TooManyDefinitions cause is because =
          let h = many.0 is in
          subst (IsRegisterCause (registry_of v r) name) (same_Some _ _ because) (may_change h.0, h.1, h.2, h.3)
      register_so refusal.OutOfMemory cause is because = absurd cc
      register_so refusal.UnknownName cause is because = absurd cc

  -- and why none was ended
  pub deregister_so : (name : List ℕ)
      → ((result ≡ Err refusal.UnknownName) ↔ (registry.MayChange r v × (¬ HasActive r.catalog name)))
      → (e : RegRefusal) (cause : DeregisterCause) → result ≡ Err e → deregister_cause e ≡ Some cause
      → IsDeregisterCause (registry_of v r) name cause
  deregister_so name unknown (refusal.Rolling id) cause is because =
      subst (IsDeregisterCause (registry_of v r) name) (same_Some _ _ because) (waits_id r.waiting id ((rolling id).0 is))
  deregister_so name unknown refusal.TooManyVersions cause is because =
      let h = versions.0 is in
      subst (IsDeregisterCause (registry_of v r) name) (same_Some _ _ because) (none_id r.waiting h.0, h.1)
  deregister_so name unknown refusal.UnknownName cause is because =
      let h = unknown.0 is in
      subst (IsDeregisterCause (registry_of v r) name) (same_Some _ _ because) (may_change h.0, h.1)
  deregister_so name unknown refusal.NameActive cause is because = absurd cc
  deregister_so name unknown refusal.TooManyActive cause is because = absurd cc
  deregister_so name unknown refusal.TooManyDefinitions cause is because = absurd cc
  deregister_so name unknown refusal.OutOfMemory cause is because = absurd cc

-- where the tail was the same before, a boundary is at it
pub tail_before : (v u : View) (x : Item) → u.tail ≡ v.tail → SaysTail u x → SaysTail v x
tail_before v u (item.Registered name id from def) same h = same_tail v u from same h
tail_before v u (item.Deregistered name id to) same h = same_tail v u to same h
tail_before v u x same h = tt

-- what was loaded since was loaded since an earlier moment
pub rolls_before : (v u t : View) (x : Item) → IsLater v.clock u.clock → RollsBy u t x → RollsBy v t x
rolls_before v u t (item.Rolling name id def lane older) on h = loaded_within v.clock u.clock t.clock t.clock _ _ on h (later_self t.clock)
rolls_before v u t x on h = tt

-- a refusal changes nothing
pub registry_stays : (v t : View) (r s : Registrar) → s ≡ r → OnlyLoads v t → registry_of t s ≡ registry_of v r
registry_stays v t r s same stays i =
    record {
      rows = (same i).catalog;
      waiting = waiting_id (same i).waiting;
      version = (ap (λ (z : View). z.learned.version) stays.frame) i;
    }

-- ---- what was begun

module _ (v u t : View) (r q s : Registrar) (name text : List ℕ) (def : Def) (id : ℕ) (x : Item)
    (begins : HasBegunChange v r name def u q id) (is_text : text ≡ definition_text (definition_of def))
    (may : MayRegister (registry_of v r) name) (count : v.learned.count ≤ u.learned.count) where
  -- its item does what it tells
  pub does_begun : SaysBegun u q t s name id text x → Does v r t s x
  does_begun (known, inl (seat, older, is, less, same)) =
      let version = begins.version in
      let begun_here : registry_of t s ≡ begun (registry_of v r) id name text =
      same ∙ begun_is v u r q name def id begins ∙ ap (begun (registry_of v r) id name) (sym is_text) in
      subst (Does v r t s) (sym is) (record {
        so = (may, begins.is_id, omega arith);
        is = begun_here;
        knows = λ h. subst (KnowsRegistry t) begun_here known;
      })
  does_begun (known, inr (from, is, between, same)) =
      let begun_here : registry_of u q ≡ begun (registry_of v r) id name text =
      begun_is v u r q name def id begins ∙ ap (begun (registry_of v r) id name) (sym is_text) in
      let bound_here : registry_of t s ≡ bound (begun (registry_of v r) id name text) id from =
      same ∙ ap (λ (z : Registry). bound z id from) begun_here in
      let low = between.0 in
      subst (Does v r t s) (sym is) (record {
        so = (may, begins.is_id, (omega arith, between.1));
        is = bound_here;
        knows = λ h. subst (KnowsRegistry t) bound_here known;
      })
