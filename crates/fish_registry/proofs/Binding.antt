-- An index begins at the count that was loaded after the last lane.
use Rattle.std.proofs.Common.{◌≡◌, ℕ, ◌≤◌, suc, List, ◌∷◌, Some, None, refl, sym, ap, ◌∙◌, subst, inl, inr, arith}
use Rattle.fish_registry.proofs.Changing.{changes_from}
use Rattle.fish_registry.specs.Knowing.{IsAwaited}
use Rattle.fish_registry.specs.Looking.{at_lane}
use Rattle.fish_registry.specs.within.Looking.{HasBound}
use Rattle.fish_registry.specs.declared.registrar.Waiting.{Waiting}
use Rattle.fish_rule.proofs.laws.Clocks.{later_both, later_noted, later_self, later_ticked, loaded_within, noted_load}
use Rattle.fish_rule.specs.BoundarySteps.{CanLoadBound, CanStoreFrom, after_load_bound, after_store_from}
use Rattle.fish_rule.specs.Clocks.{HasLoaded}
use Rattle.fish_rule.specs.Registry.{row_at}
use Rattle.fish_rule.specs.Views.{Among}
use Rattle.fish_rule.specs.World.{high}
use Rattle.fish_rule.specs.declared.view.Clock.{Clock}
use Rattle.fish_rule.specs.declared.view.Noted.TheVariants.{Tail}
use Rattle.fish_rule.specs.declared.view.RegistryWord.{RegistryWord}
use Rattle.fish_rule.specs.declared.view.Round.{Round}
use Rattle.fish_rule.specs.declared.view.View.{View}

-- all lanes were looked at
pub can_bound : (v : View) (w : Waiting) (h : IsAwaited v (at_lane w 17)) → CanLoadBound v h.round
can_bound v w h = record { waits = h.waits; all = λ l above below. h.checked l above (omega arith) }

-- where the index begins may be stored
pub can_from : (v u : View) (w : Waiting) (x from id : ℕ) → v.lane ≡ 1 → (h : IsAwaited v (at_lane w 17))
    → u ≡ after_load_bound v h.round x → from ≡ high x → id ≡ w.id → (o : Round) × CanStoreFrom u o from × (o.id ≡ id)
can_from v u w x from id control h is same is_id = (
  record h.round { bound = Some (high x) },
  record {
    control = ap (λ (z : View). z.lane) is ∙ control;
    waits = ap (λ (z : View). z.round) is;
    bound = ap (λ (n : ℕ). Some n) (sym same);
  },
  h.id ∙ sym is_id,
)

-- and then the index begins there
pub bound_at : (v u z : View) (w : Waiting) (x from : ℕ) (h : IsAwaited v (at_lane w 17)) → u ≡ after_load_bound v h.round x
    → from ≡ high x → v.learned.count ≤ from
    → ((o : Round) → u.round ≡ Some o → z ≡ after_store_from u o from) → HasBound v w z from
bound_at v u z w x from h is same more stored =
    let o : Round = record h.round { bound = Some (high x) } in
    let is_z : z ≡ after_store_from u o from = stored o (ap (λ (y : View). y.round) is) in
    let whole : z ≡ after_store_from (after_load_bound v h.round x) o from = is_z ∙ ap (λ (y : View). after_store_from y o from) is in
    let last : View = after_store_from (after_load_bound v h.round x) o from in
    let clock : z.clock ≡ last.clock = ap (λ (y : View). y.clock) whole in
    record {
      changes = changes_from v z v.rows last.control_words None last.tail (high x) v.learned.version last.learned.words
          v.learned.opens last.clock whole (omega arith) (omega arith) (λ y m. inr m) (λ o m. m)
          (later_both v.clock _ last.clock (later_noted v.clock Tail x)
          (later_ticked (Rattle.fish_rule.specs.SpaceSteps.noted v.clock Tail x))) refl;
      counted = record {
        tail = x;
        loaded = subst (λ (y : Clock). HasLoaded v.clock y Tail x) (sym clock)
            (loaded_within v.clock v.clock _ last.clock Tail x (later_self v.clock) (noted_load v.clock Tail x)
            (later_ticked (Rattle.fish_rule.specs.SpaceSteps.noted v.clock Tail x)));
        is = same;
      };
      control_words = ap (λ (y : View). y.control_words) whole
          ∙ ap (λ (n : ℕ). record { index = row_at n 0; value = suc from } ∷ v.control_words) h.id;
      read = subst (λ (ws : List RegistryWord). Among (record { index = row_at w.id 0; value = suc from }) ws)
          (sym (ap (λ (y : View). y.learned.words) whole))
          (inl (ap (λ (n : ℕ). let q : RegistryWord = record { index = row_at n 0; value = suc from } in q) h.id));
      rows = ap (λ (y : View). y.rows) whole;
      round = ap (λ (y : View). y.round) whole;
      count = ap (λ (y : View). y.learned.count) whole ∙ sym same;
    }
