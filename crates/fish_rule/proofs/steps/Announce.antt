-- `announce`: a store of a version in the own epoch word.
use Rattle.std.proofs.Common.{◌≡◌, ℕ, ◌≤◌, suc, set, arith, ◌-◌, sym, refl, subst}
use Rattle.fish_rule.proofs.basics.Context.{Key, Rule, View, World, get_elem?, none, some}
use Rattle.fish_rule.proofs.basics.Worlds.{put-else, put-here, world-registry}
use Rattle.fish_rule.proofs.basics.Lasts.{Lasts}
use Rattle.fish_rule.specs.RegistrySteps.{CanAnnounce, after_announce}
use Rattle.fish_rule.specs.Registry.{epoch_at}
use Rattle.fish_rule.specs.SpaceSteps.{ticked}
use Rattle.fish_rule.specs.World.{put, world}
use Rattle.fish_rule.specs.declared.view.Epoch.TheVariants.{Announced}
use Rattle.fish_rule.proofs.classes.OwnEpoch.{moves_last, epoch_endures, carries_none}
use Rattle.fish_rule.proofs.classes.Allowed.{Allows, Ruled, Sat, Told, allowed, stands, step, there}
use Rattle.fish_rule.specs.Told.{told_announce}

module _ {k : Key} {w : World} (r : Rule k w) (id : ℕ) {v : View} (at : get_elem? w.views id ≡ some v) where
  -- the lane is one of 1 to 16
  few : v.lane ≤ 16
  few = r.seats.few id v at

  module _ (u : ℕ) (can : CanAnnounce v u) where
    -- an announcement keeps the rule, and all that lasts
    pub announce_lasts : Lasts r (record w {
      registry = put w.registry (epoch_at v.lane) (suc u);
      views = set w.views id (after_announce v u);
    })
    announce_lasts = moves_last r id at (put w.registry (epoch_at v.lane) (suc u)) (Announced u) v.learned.version
        (epoch_endures k w.registry v.lane (suc u) can.can.live few)
        (let some_ = can.can.live in put-else w.registry (epoch_at v.lane) (suc u) 2 (λ h. omega arith))
        (λ p ne. put-else w.registry (epoch_at v.lane) (suc u) p ne)
        (λ _ _. put-here w.registry (epoch_at v.lane) (suc u)) (r.registry.each id v at).from
        (λ s a b. tt) (λ n a b. tt) (λ _ _. let a = can.reached in let b = (r.registry.each id v at).reached in omega arith)
        (r.registry.each id v at).reached (λ e. ((r.registry.each id v at).control e).version)
        (carries_none k w.registry r.version_of v.lane (Announced u) v.flight can.can.idle) (ticked v.clock)

-- a store of a version in the own epoch word
pub announce_allowed : (given k : Key) → given ≡ k → (size id : ℕ) (me : Sat) (u i x : ℕ) → me.0.about ≡ k
    → CanAnnounce me.0 u → i ≡ epoch_at me.0.lane → x ≡ suc u
    → Allows (Ruled given) size id me i (λ _. x) (λ _. told_announce (step size i x 0 none) me x)
announce_allowed given k same size id me u i x about can is value =
    allowed given k same size id me i (λ _. x) (λ _. told_announce (step size i x 0 none) me x) (λ ws vs wide r at.
    let w : World = world k ws vs in
    let v' : View = after_announce me.0 u in
    let few = r.seats.few id me.0 at in
    let some_ = can.can.live in
    let kept : Rule k (record w { registry = put w.registry i x; views = set vs id v' }) =
    subst (λ (z : ℕ × ℕ). Rule k (record w { registry = put w.registry z.0 z.1; views = set vs id v' }))
    (λ j. (sym is j, sym value j)) (announce_lasts r id at u can).0 in
    let moved = world-registry k ws vs (set vs id v') i x (omega arith) (omega arith) wide in
    let back : x - 1 ≡ u = omega arith in (
      v',
      subst (Rule k) (sym moved) kept,
      subst (λ (z : ℕ). Told me (after_announce me.0 z) (v', me.1)) (sym back)
          (record { view = refl; held = refl; stands = stands k _ id v' kept about (there vs id me.0 v' at) }),
    ))
