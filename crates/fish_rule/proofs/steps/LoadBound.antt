-- `load_bound`: a load of the tail after the last lane.
use Rattle.std.proofs.Common.{◌≡◌, ℕ, ◌≤◌, set, sym, subst, arith, get_or, refl, ◌∙◌}
use Rattle.fish_rule.proofs.basics.Context.{Key, Rule, View, World, get_elem?, none, some}
use Rattle.fish_rule.proofs.classes.Loads.{learn_lasts, still_chained}
use Rattle.fish_rule.proofs.basics.Lasts.{Lasts}
use Rattle.fish_rule.specs.BoundarySteps.{CanLoadBound, after_load_bound}
use Rattle.fish_rule.specs.Rounds.{IsRound, Waits}
use Rattle.fish_rule.specs.World.{high, low, world}
use Rattle.fish_rule.specs.declared.view.Round.{Round}
use Rattle.std.proofs.lemmas.Option.{same_Some}
use Rattle.fish_rule.proofs.classes.Allowed.{Allows, Ruled, Sat, Told, allowed, loaded_words, stands, step, there}
use Rattle.fish_rule.proofs.steps.LoadTail.{end_counted, end_rests}
use Rattle.fish_rule.specs.Told.{ToldLoadBound}

module _ {k : Key} {w : World} (r : Rule k w) (id : ℕ) {v : View} (at : get_elem? w.views id ≡ some v) where
  module _ (o : Round) (x : ℕ) (can : CanLoadBound v o) (count : high x ≡ w.count) (line : low x ≡ w.line) where
    -- the view afterwards
    abbrev bounder : View
    bounder = after_load_bound v o x

    -- nothing is claimed from the count on
    bound_waits : Waits k w.count w.registry r.state r.version_of v.lane bounder.round
    bound_waits =
        let stays = r.registry.each id v at in
        let from = r.settling.from in
        let settled = r.settling.within in
        let h : IsRound k w.count w.registry r.state r.version_of v.lane o =
        subst (Waits k w.count w.registry r.state r.version_of v.lane) can.waits stays.waits in
        record {
          control = h.control;
          few = h.few;
          reached = h.reached;
          listed = h.listed;
          unset = h.unset;
          clear = h.clear;
          bound = λ n is.
              let e : high x ≡ n = Rattle.std.proofs.lemmas.Option.same_Some (high x) n is in
              record {
                all = can.all;
                above = omega arith;
                within = omega arith;
                since = λ m above after below. absurd (omega arith);
              };
        }

    -- a load of the tail after the last lane keeps the rule, and all that lasts
    pub load_bound_lasts : Lasts r (record w { views = set w.views id bounder })
    load_bound_lasts =
        let h = r.facts id v at in
        let stays = r.registry.each id v at in
        let u : View = bounder in
        let still = still_chained r id at u.learned u.tail u.round u.clock in
        let counted : high x ≤ w.count = subst (λ (z : ℕ). z ≤ w.count) (sym count) (omega arith) in
        learn_lasts r id at u.learned u.tail u.round u.clock (λ control all. (count, line)) (assumption (h, counted))
        (r.opens id v at) (r.floors id v at) (assumption still) (assumption (stays, bound_waits))

-- a load of the tail after the last lane
pub load_bound_allowed : (given k : Key) → given ≡ k → (size id : ℕ) (me : Sat) (o : Round) → me.0.about ≡ k
    → CanLoadBound me.0 o → Allows (Ruled given) size id me 0 (λ n. n) (ToldLoadBound (step size 0 0 0 none) me)
load_bound_allowed given k same size id me o about can =
    allowed given k same size id me 0 (λ n. n) (ToldLoadBound (step size 0 0 0 none) me) (λ ws vs wide r at.
    let w : World = world k ws vs in
    let x : ℕ = get_or ws 0 0 in
    let v' : View = after_load_bound me.0 o x in
    let kept = (load_bound_lasts r id at o x can refl refl).0 in (
      v',
      loaded_words k ws (set vs id v') 0 kept,
      record {
        told = λ p waits.
            let e : o ≡ p = same_Some o p (sym can.waits ∙ waits) in
            subst (λ (z : Round). Told me (after_load_bound me.0 z x) (v', me.1)) e
            (record { view = refl; held = refl; stands = stands k _ id v' kept about (there vs id me.0 v' at) });
        counted = end_counted r id at x refl;
        rests = end_rests r id at x refl refl;
      },
    ))
