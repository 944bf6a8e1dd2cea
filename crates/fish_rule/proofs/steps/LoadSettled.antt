-- `load_settled`: a load of the settled number.
use Rattle.std.proofs.Common.{◌≡◌, ℕ, set, refl, arith, ◌≤◌, sym, subst}
use Rattle.fish_rule.proofs.basics.Context.{Key, Rule, View, World, get_elem?, none, some}
use Rattle.fish_rule.proofs.basics.Lasts.{Lasts}
use Rattle.fish_rule.specs.LoadSteps.{after_load_settled}
use Rattle.fish_rule.specs.World.{world}
use Rattle.fish_rule.proofs.classes.Loads.{learn_lasts, still_chained}
use Rattle.fish_rule.proofs.classes.Allowed.{Allows, Ruled, Sat, allowed, loaded_words, stands, step, there}
use Rattle.fish_rule.specs.Told.{ToldLoadSettled}

module _ {k : Key} {w : World} (r : Rule k w) (id : ℕ) {v : View} (at : get_elem? w.views id ≡ some v) where
  -- a load of the settled number
  pub load_settled_lasts : Lasts r (record w { views = set w.views id (after_load_settled v w.settled) })
  load_settled_lasts =
      let h = r.facts id v at in
      let u : View = after_load_settled v w.settled in
      let still = still_chained r id at u.learned v.tail v.round u.clock in
      learn_lasts r id at u.learned v.tail v.round u.clock
      (r.tails id v at) (assumption h) (r.opens id v at) (omega arith)
      (assumption still) (r.registry.each id v at)

-- a load of the settled number
pub load_settled_allowed : (given k : Key) → given ≡ k → (size id : ℕ) (me : Sat) → me.0.about ≡ k
    → Allows (Ruled given) size id me 1 (λ n. n) (ToldLoadSettled (step size 1 0 0 none) me)
load_settled_allowed given k same size id me about =
    allowed given k same size id me 1 (λ n. n) (ToldLoadSettled (step size 1 0 0 none) me) (λ ws vs wide r at.
    let w : World = world k ws vs in
    let v' : View = after_load_settled me.0 w.settled in
    let kept = (load_settled_lasts r id at).0 in (
      v',
      loaded_words k ws (set vs id v') 1 kept,
      record {
        told = record { view = refl; held = refl; stands = stands k _ id v' kept about (there vs id me.0 v' at) };
        rises = r.floors id me.0 at;
        from = subst (λ (z : Key). z.number ≤ w.settled) (sym about) r.settling.from;
      },
    ))
