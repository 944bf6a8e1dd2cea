-- `store_from`: the control pass stores where the index of the row that waits begins.
use Rattle.std.proofs.Common.{◌≡◌, ℕ, ◌<◌, ◌≤◌, suc, length, set, subst, arith, None, ◌-◌, sym, refl}
use Rattle.fish_rule.proofs.basics.Context.{Epoch, Key, Rule, View, World, get_elem?, none, some}
use Rattle.fish_rule.proofs.classes.ControlStores.{stores}
use Rattle.fish_rule.proofs.basics.RegistryWords.{length_grows}
use Rattle.fish_rule.proofs.basics.Lasts.{Lasts}
use Rattle.fish_rule.specs.Boundaries.{Lists}
use Rattle.fish_rule.specs.BoundarySteps.{CanStoreFrom, after_store_from}
use Rattle.fish_rule.specs.Registry.{definitions_at, row_at, version_in}
use Rattle.fish_rule.specs.Rounds.{IsRound, IsSince, Waits}
use Rattle.fish_rule.specs.World.{put, world}
use Rattle.fish_rule.specs.declared.view.Epoch.TheVariants.{Announced, Confirmed, Out}
use Rattle.fish_rule.specs.declared.view.Round.{Round}
use Rattle.fish_rule.proofs.classes.BoundaryStores.{place_far, place_away, set_boundaries, set_read}
use Rattle.fish_rule.proofs.classes.Allowed.{Allows, Ruled, Sat, Told, allowed, stands, step, there}
use Rattle.fish_rule.proofs.basics.Worlds.{world-registry}
use Rattle.fish_rule.specs.Told.{told_store_from}

module _ {k : Key} {w : World} (r : Rule k w) (id : ℕ) {v : View} (at : get_elem? w.views id ≡ some v) where
  module _ (o : Round) (n : ℕ) (can : CanStoreFrom v o n) where
    -- the registration waits
    waiting : IsRound k w.count w.registry r.state r.version_of v.lane o
    waiting = subst (Waits k w.count w.registry r.state r.version_of v.lane) can.waits (r.registry.each id v at).waits

    -- a version from the registration's on has the definition
    has_it : (u : ℕ) → o.version ≤ u → o.id < length (definitions_at k w.registry u)
    has_it u more = (let h = waiting.listed in let grows = length_grows k w.registry o.version u more in omega arith)

    -- a lane that is confirmed at no older version lists it
    lists_it : (e : Epoch) → IsSince o.version e → Lists k w.registry o.id e
    lists_it Out h = tt
    lists_it (Announced u) h = tt
    lists_it (Confirmed u) h = has_it u h

    -- to set where an index begins keeps the rule, and all that lasts
    pub store_from_lasts : Lasts r (record w {
      registry = put w.registry (row_at o.id 0) (suc n);
      views = set w.views id (after_store_from v o n);
    })
    store_from_lasts =
        let h = waiting in
        let b = h.bound n can.bound in
        stores r id at can.control (row_at o.id 0) (suc n)
        (place_far r id at can.control o.id 0 n h.few (omega arith) h.unset)
        (place_away r id at can.control o.id 0 n h.few (omega arith) h.unset) None _
        (set_read r id at can.control o.id 0 n h.few (omega arith) h.unset)
        (set_boundaries r id at can.control o.id 0 n h.few (omega arith) h.unset b.above b.within
        (has_it (version_in w.registry) h.reached) (λ e. absurd (omega arith)) (λ e. absurd (omega arith))
        (λ e l above below. lists_it (r.state l) (h.clear l above below (b.all l above below)))
        (λ e m above after below. has_it (r.version_of m) (b.since m above after below)) (λ e. absurd (omega arith))) tt

-- a store of where an index begins
pub store_from_allowed : (given k : Key) → given ≡ k → (size id : ℕ) (me : Sat) (o : Round) (n i x : ℕ) → me.0.about ≡ k
    → CanStoreFrom me.0 o n → o.id < 256 → i ≡ row_at o.id 0 → x ≡ suc n
    → Allows (Ruled given) size id me i (λ _. x) (λ _. told_store_from (step size i x 0 none) me x)
store_from_allowed given k same size id me o n i x about can few is value =
    allowed given k same size id me i (λ _. x) (λ _. told_store_from (step size i x 0 none) me x) (λ ws vs wide r at.
    let w : World = world k ws vs in
    let v' : View = after_store_from me.0 o n in
    let kept : Rule k (record w { registry = put w.registry i x; views = set vs id v' }) =
    subst (λ (z : ℕ × ℕ). Rule k (record w { registry = put w.registry z.0 z.1; views = set vs id v' }))
    (λ j. (sym is j, sym value j)) (store_from_lasts r id at o n can).0 in
    let moved = world-registry k ws vs (set vs id v') i x (omega arith) (omega arith) wide in
    let back : x - 1 ≡ n = omega arith in (
      v',
      subst (Rule k) (sym moved) kept,
      subst (λ (z : ℕ × ℕ). Told me (Rattle.fish_rule.specs.BoundarySteps.after_store_boundary me.0 z.0 z.1 None) (v', me.1))
          (λ j. (sym is j, sym back j))
          (record { view = refl; held = refl; stands = stands k _ id v' kept about (there vs id me.0 v' at) }),
    ))
