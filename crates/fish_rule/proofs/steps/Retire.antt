-- `retire`: a store of 0 in the own epoch word.
use Rattle.std.proofs.Common.{◌≡◌, ℕ, ◌≤◌, set, arith, sym, refl, subst}
use Rattle.fish_rule.proofs.basics.Context.{Key, Rule, View, World, get_elem?, none, some}
use Rattle.fish_rule.proofs.basics.Worlds.{put-else, put-here, world-registry}
use Rattle.fish_rule.proofs.basics.Lasts.{Lasts}
use Rattle.fish_rule.specs.RegistrySteps.{CanEnter, after_retire}
use Rattle.fish_rule.specs.Registry.{epoch_at}
use Rattle.fish_rule.specs.SpaceSteps.{ticked}
use Rattle.fish_rule.specs.World.{put, world}
use Rattle.fish_rule.specs.declared.view.Epoch.TheVariants.{Out}
use Rattle.fish_rule.proofs.classes.OwnEpoch.{moves_last, epoch_endures, carries_none}
use Rattle.fish_rule.proofs.classes.Allowed.{Allows, Ruled, Sat, allowed, stands, step, there}
use Rattle.fish_rule.specs.Told.{told_retire}

module _ {k : Key} {w : World} (r : Rule k w) (id : ℕ) {v : View} (at : get_elem? w.views id ≡ some v) where
  -- the lane is one of 1 to 16
  few : v.lane ≤ 16
  few = r.seats.few id v at

  module _ (can : CanEnter v) where
    -- a retirement keeps the rule, and all that lasts
    pub retire_lasts : Lasts r (record w {
      registry = put w.registry (epoch_at v.lane) 0;
      views = set w.views id (after_retire v);
    })
    retire_lasts = moves_last r id at (put w.registry (epoch_at v.lane) 0) Out v.learned.version
        (epoch_endures k w.registry v.lane 0 can.live few)
        (let some_ = can.live in put-else w.registry (epoch_at v.lane) 0 2 (λ h. omega arith))
        (λ p ne. put-else w.registry (epoch_at v.lane) 0 p ne)
        (λ _ _. put-here w.registry (epoch_at v.lane) 0) (r.registry.each id v at).from
        (λ s a b. tt) (λ n a b. tt) (λ _ _. tt)
        (r.registry.each id v at).reached (λ e. ((r.registry.each id v at).control e).version)
        (carries_none k w.registry r.version_of v.lane Out v.flight can.idle) (ticked v.clock)

-- a store of 0 there
pub retire_allowed : (given k : Key) → given ≡ k → (size id : ℕ) (me : Sat) (i : ℕ) → me.0.about ≡ k
    → CanEnter me.0 → i ≡ epoch_at me.0.lane
    → Allows (Ruled given) size id me i (λ _. 0) (λ _. told_retire (step size i 0 0 none) me 0)
retire_allowed given k same size id me i about can is =
    allowed given k same size id me i (λ _. 0) (λ _. told_retire (step size i 0 0 none) me 0) (λ ws vs wide r at.
    let w : World = world k ws vs in
    let v' : View = after_retire me.0 in
    let few = r.seats.few id me.0 at in
    let some_ = can.live in
    let kept : Rule k (record w { registry = put w.registry i 0; views = set vs id v' }) =
    subst (λ (z : ℕ). Rule k (record w { registry = put w.registry z 0; views = set vs id v' })) (sym is)
    (retire_lasts r id at can).0 in
    let moved = world-registry k ws vs (set vs id v') i 0 (omega arith) (omega arith) wide in (
      v',
      subst (Rule k) (sym moved) kept,
      record { view = refl; held = refl; stands = stands k _ id v' kept about (there vs id me.0 v' at) },
    ))
