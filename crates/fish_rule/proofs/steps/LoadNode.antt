-- `load_node`: a load of the second word of a linked entry.
use Rattle.std.proofs.Common.{◌≡◌, ℕ, ◌+◌, ◌-◌, ◌*◌, ◌<◌, ◌≤◌, suc, get_or, set, sym, refl, ap, ◌∙◌, subst, arith}
use Rattle.fish_rule.proofs.basics.Context.{Key, Rule, View, World, get_elem?, none, some}
use Rattle.fish_rule.proofs.classes.Allowed.{Allows, Ruled, Sat, Told, allowed, loaded_words, stands, step, there}
use Rattle.fish_rule.proofs.basics.Gaps.{label_there, second_inside}
use Rattle.fish_rule.proofs.classes.Loads.{learn_lasts, still_chained}
use Rattle.fish_rule.proofs.basics.Places.{lies_inside, record_at}
use Rattle.fish_rule.proofs.basics.Regions.{starts_above}
use Rattle.fish_rule.proofs.basics.Bodies.{kind-inside}
use Rattle.fish_rule.proofs.basics.Worlds.{area-in}
use Rattle.fish_rule.proofs.basics.Lasts.{Lasts}
use Rattle.fish_rule.specs.Chains.{Linked}
use Rattle.fish_rule.specs.ChainSteps.{HasNode, after_load_node}
use Rattle.fish_rule.specs.Told.{place_at, told_load_node}
use Rattle.fish_rule.specs.World.{log_at, log_size, world}
use Rattle.fish_rule.specs.declared.view.Kind.TheVariants.{Mark, Stored}
use Rattle.fish_rule.proofs.steps.LoadPrevious.{node_linked}

module _ {k : Key} {w : World} (r : Rule k w) (id : ℕ) {v : View} (at : get_elem? w.views id ≡ some v) (b p : ℕ)
    (node : HasNode v b p) where
  -- the view afterwards
  abbrev pub node_seer : View
  node_seer = after_load_node v p (w.log (suc p))

  -- a load of a second word keeps the rule, and all that lasts
  pub load_node_lasts : Lasts r (record w { views = set w.views id node_seer })
  load_node_lasts =
      let h = r.facts id v at in
      let still = still_chained r id at node_seer.learned v.tail v.round node_seer.clock in
      learn_lasts r id at node_seer.learned v.tail v.round node_seer.clock (r.tails id v at)
      (assumption (h, label_there r b p v.learned.settled (r.floors id v at) (node_linked r id at b p node)))
      (r.opens id v at) (r.floors id v at)
      (assumption still) (r.registry.each id v at)

-- a linked place's second word is within the log's words
pub second_within : {k : Key} {w : World} (r : Rule k w) (b p : ℕ) → Linked k w.dir w.log w.views b p
    → (k.line * 4 ≤ suc p) × (suc p < k.line * 4 + log_size k)
second_within {k} {w} r b p h =
    let s = record_at r h.line h.entry h.shows in
    let inside = second_inside r b p h s in
    let from = starts_above k w.count w.line r.start r.space.regions s.number s.above
    (let q = s.below in omega arith) in
    let end = kind-inside k.end (r.start s.number) (r.start (suc s.number))
    (λ e. let q : Stored ≡ Mark = sym s.kind ∙ e in cc) in
    let low_ = lies_inside r b p h s in
    (omega arith, omega arith)

-- a load of the second word of a linked entry
pub load_node_allowed : (given k : Key) → given ≡ k → (size id : ℕ) (me : Sat) (b p i : ℕ) → me.0.about ≡ k
    → HasNode me.0 b p → i ≡ log_at k + (suc p - k.line * 4)
    → Allows (Ruled given) size id me i (λ n. n) (told_load_node (step size i 0 0 none) me)
load_node_allowed given k same size id me b p i about node is =
    allowed given k same size id me i (λ n. n) (told_load_node (step size i 0 0 none) me) (λ ws vs wide r at.
    let w : World = world k ws vs in
    let x : ℕ = get_or ws i 0 in
    let within = second_within r b p (node_linked r id at b p node) in
    let word : x ≡ w.log (suc p) = ap (λ (z : ℕ). get_or ws z 0) is
    ∙ sym (area-in ws (log_at k) (k.line * 4) (log_size k) (suc p) within.0 within.1) in
    let index : place_at me.0.about i - 1 ≡ p = ap (λ (z : Key). place_at z i - 1) about ∙ (omega arith) in
    let v' : View = after_load_node me.0 p x in
    let kept : Rule k (record w { views = set vs id v' }) =
    subst (λ (z : ℕ). Rule k (record w { views = set vs id (after_load_node me.0 p z) })) (sym word)
    (load_node_lasts r id at b p node).0 in (
      v',
      loaded_words k ws (set vs id v') i kept,
      subst (λ (z : ℕ). Told me (after_load_node me.0 z x) (v', me.1)) (sym index)
          (record { view = refl; held = refl; stands = stands k _ id v' kept about (there vs id me.0 v' at) }),
    ))
