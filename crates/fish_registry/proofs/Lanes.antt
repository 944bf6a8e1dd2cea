-- The control pass looks at one lane more.
use Rattle.std.proofs.Common.{◌≡◌, ◌≢◌, ◌⊎◌, ℕ, ◌+◌, ◌-◌, ◌<◌, ◌≤◌, suc, Some, refl, sym, ap, ◌∙◌, subst, inl, inr, arith}
use Rattle.std.proofs.Math.Decide.{ℕ_discrete, dec_lt}
use Rattle.fish_layout.proofs.Clearing.{choose_second}
use Rattle.fish_layout.specs.Cleared.{choose}
use Rattle.fish_registry.specs.Knowing.{IsAwaited}
use Rattle.fish_registry.specs.Looking.{at_lane}
use Rattle.fish_registry.specs.within.Looking.{IsOlderLane, Looks}
use Rattle.fish_registry.specs.declared.registrar.Waiting.{Waiting}
use Rattle.fish_rule.proofs.laws.Clocks.{later_both, later_noted, later_self, loaded_within, noted_load}
use Rattle.fish_rule.specs.BoundarySteps.{after_check_lane, checked_after, with_lane}
use Rattle.fish_rule.specs.Clocks.{HasLoaded, IsLater}
use Rattle.fish_rule.specs.Views.{Among}
use Rattle.fish_rule.specs.declared.view.Clock.{Clock}
use Rattle.fish_rule.specs.declared.view.Noted.TheVariants.{Epoch}
use Rattle.fish_rule.specs.declared.view.Round.{Round}
use Rattle.fish_rule.specs.declared.view.View.{View}

module _ (v u z : View) (w : Waiting) (l x : ℕ) (looks : Looks v u) (is : z ≡ after_check_lane u l x) where
  clock_is : z.clock ≡ Rattle.fish_rule.specs.SpaceSteps.noted u.clock (Epoch l) x
  clock_is = ap (λ (y : View). y.clock) is

  -- nothing but the look and the clock changed
  pub looks_once : Looks v z
  looks_once = record {
    frame = is ∙ (λ i. record u {
      round = ap (λ (y : View). y.round) (sym is) i;
      clock = ap (λ (y : View). y.clock) (sym is) i;
    }) ∙ ap (λ (y : View). record y { round = z.round; clock = z.clock }) looks.frame;
    clock = later_both v.clock u.clock z.clock looks.clock
        (subst (IsLater u.clock) (sym clock_is) (later_noted u.clock (Epoch l) x));
    loads = ap (λ (y : Clock). y.loads) clock_is ∙ looks.loads;
  }

  module _ (awaited : IsAwaited u (at_lane w l)) where
    round_is : z.round ≡ checked_after l x (Some awaited.round)
    round_is = ap (λ (y : View). y.round) is ∙ ap (checked_after l x) awaited.waits

    -- the lane is at an older version
    pub older_here : x ≢ 0 → x ≤ w.version → IsOlderLane v w z (record { lane = l; version = x - 1 })
    older_here some_ less =
        let same = awaited.version in
        let back : suc (x - 1) ≡ x = omega arith in
        record {
          awaited = record {
            round = awaited.round;
            waits = round_is ∙ ap (λ (o : Round). Some o) (choose_second (ℕ_discrete x 0) (with_lane l awaited.round) _ some_
                ∙ choose_second (dec_lt awaited.round.version x) (with_lane l awaited.round) awaited.round
                (λ more. omega arith));
            id = awaited.id;
            version = awaited.version;
            checked = awaited.checked;
            some = awaited.some;
            few = awaited.few;
          };
          loaded = subst (λ (y : Clock × ℕ). HasLoaded v.clock y.0 (Epoch l) y.1) (λ i. (sym clock_is i, sym back i))
              (loaded_within v.clock u.clock _ _ (Epoch l) x looks.clock (noted_load u.clock (Epoch l) x)
              (later_self (Rattle.fish_rule.specs.SpaceSteps.noted u.clock (Epoch l) x)));
          less = omega arith;
        }

    -- or it is clear
    pub clear_here : (x ≡ 0) ⊎ (w.version < x) → l ≤ 16 → IsAwaited z (at_lane w (l + 1))
    clear_here tells few =
        let low = awaited.some in
        record {
          round = with_lane l awaited.round;
          waits = round_is ∙ ap (λ (o : Round). Some o) (by tells (ℕ_discrete x 0) (dec_lt awaited.round.version x));
          id = awaited.id;
          version = awaited.version;
          checked = λ m above below. pick m above below (ℕ_discrete m l);
          some = omega arith;
          few = omega arith;
        }
      where
        by : (x ≡ 0) ⊎ (w.version < x) → (d : Dec (x ≡ 0)) (e : Dec (awaited.round.version < x))
            → choose d (with_lane l awaited.round) (choose e (with_lane l awaited.round) awaited.round)
            ≡ with_lane l awaited.round
        by t (yes z) e = refl
        by t (no nz) (yes more) = refl
        by (inl z) (no nz) (no less) = absurd (nz z)
        by (inr more) (no nz) (no less) = (let same = awaited.version in absurd (omega arith))

        pick : (m : ℕ) → 1 ≤ m → m < l + 1 → Dec (m ≡ l) → Among m (with_lane l awaited.round).checked
        pick m above below (yes e) = inl (sym e)
        pick m above below (no ne) = inr (awaited.checked m above (omega arith))
