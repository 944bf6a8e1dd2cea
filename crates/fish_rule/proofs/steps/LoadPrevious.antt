-- `load_previous`: a load of the first word of a linked entry.
use Rattle.std.proofs.Common.{◌≡◌, ℕ, ◌+◌, ◌-◌, ◌*◌, ◌<◌, ◌≤◌, suc, get_or, set, sym, refl, ap, ◌∙◌, subst, arith}
use Rattle.fish_rule.proofs.basics.Context.{Clock, Key, Rule, View, World, get_elem?, none, some}
use Rattle.fish_rule.proofs.classes.Allowed.{Allows, Ruled, Sat, Told, allowed, loaded_words, stands, step, there}
use Rattle.fish_rule.proofs.basics.Lists.{all_among}
use Rattle.fish_rule.proofs.basics.Gaps.{gap_there}
use Rattle.fish_rule.proofs.basics.Lasts.{Lasts}
use Rattle.fish_rule.specs.Gaps.{IsGap}
use Rattle.fish_rule.proofs.classes.Loads.{learn_lasts, learn_final, still_chained}
use Rattle.fish_rule.proofs.basics.Places.{lies_inside, record_at}
use Rattle.fish_rule.proofs.basics.Regions.{starts_above}
use Rattle.fish_rule.proofs.basics.Bodies.{kind-inside}
use Rattle.fish_rule.proofs.basics.Worlds.{area-in}
use Rattle.fish_rule.specs.Chains.{IsLeastPrevious, Linked}
use Rattle.fish_rule.specs.ChainSteps.{HasNode, PreviousRises, after_load_previous, gap, previous_seen}
use Rattle.fish_rule.specs.SpaceSteps.{loaded}
use Rattle.fish_rule.specs.Parts.{first_head}
use Rattle.fish_rule.specs.Told.{ToldLoadPrevious, place_at}
use Rattle.fish_rule.specs.World.{log_at, log_size, world}
use Rattle.fish_rule.specs.declared.view.Kind.TheVariants.{Mark, Stored}
use Rattle.fish_rule.proofs.basics.FirstHeads.{node_joins, first_else, linked_else}

module _ {k : Key} {w : World} (r : Rule k w) (id : ℕ) {v : View} (at : get_elem? w.views id ≡ some v) (b p : ℕ)
    (node : HasNode v b p) where
  -- the entry is linked
  pub node_linked : Linked k w.dir w.log w.views b p
  node_linked = all_among (λ x. Linked k w.dir w.log w.views x.bucket x.place) _ v.learned.nodes
      (r.chained id v at).nodes node

  -- the view afterwards, with some clock
  abbrev pub previous_seer : Clock → View
  previous_seer clock = previous_seen v b p (w.log p) clock

  -- what is known of the first word has been reached
  pub previous_rises : PreviousRises v p (w.log p)
  previous_rises t among is = (let h = all_among (IsLeastPrevious k w.dir w.log w.views) t v.learned.least_previous
      (r.chained id v at).least_previous among in subst (λ (z : ℕ). t.value ≤ w.log z) is h.low)

  -- the first word is below its place
  pub previous_less : w.log p < p
  previous_less = ((r.chains b).next p node_linked).less

  -- no linked entry lies between the place and what its first word leads to
  previous_gap : IsGap k w.count w.dir w.log r.start (gap b p (w.log p) v.learned)
  previous_gap = gap_there r b v.learned.settled p (w.log p) (r.floors id v at)
      (λ q linked under. ((r.chains b).next p node_linked).most q linked under)

  module _ (clock : Clock) (about : v.about ≡ k) where
    -- a step that sees a first word keeps the rule, and all that lasts
    pub load_previous_lasts : Lasts r (record w { views = set w.views id (previous_seer clock) })
    load_previous_lasts =
        let h = r.facts id v at in
        let still = still_chained r id at (previous_seer clock).learned v.tail v.round clock in
        let final = learn_final r id at (previous_seer clock).learned v.tail v.round clock in
        let next = (r.chains b).next p node_linked in
        learn_lasts r id at (previous_seer clock).learned v.tail v.round clock (r.tails id v at)
        (assumption (h, previous_gap))
        (r.opens id v at) (r.floors id v at) (record {
          nodes = node_joins _ v.about b (w.log p) v.learned.nodes still.nodes
              (λ more. final.links b (w.log p) (linked_else r b (w.log p) next.is
              (subst (λ (z : Key). z.line * 4 < w.log p) about more)));
          least_previous = (record { bucket = b; linked = final.links b p node_linked; low = omega arith }, still.least_previous);
          least_heads = still.least_heads;
        }) (r.registry.each id v at)

-- a linked place is within the log's words
pub place_within : {k : Key} {w : World} (r : Rule k w) (b p : ℕ) → Linked k w.dir w.log w.views b p
    → (k.line * 4 ≤ p) × (p < k.line * 4 + log_size k)
place_within {k} {w} r b p h =
    let s = record_at r h.line h.entry h.shows in
    let inside = lies_inside r b p h s in
    let from = starts_above k w.count w.line r.start r.space.regions s.number s.above
    (let q = s.below in omega arith) in
    let end = kind-inside k.end (r.start s.number) (r.start (suc s.number))
    (λ e. let q : Stored ≡ Mark = sym s.kind ∙ e in cc) in
    (omega arith, omega arith)

-- a load of the first word of a linked entry
pub load_previous_allowed : (given k : Key) → given ≡ k → (size id : ℕ) (me : Sat) (b p i : ℕ) → me.0.about ≡ k
    → HasNode me.0 b p → i ≡ log_at k + (p - k.line * 4)
    → Allows (Ruled given) size id me i (λ n. n) (ToldLoadPrevious (step size i 0 0 none) me)
load_previous_allowed given k same size id me b p i about node is =
    allowed given k same size id me i (λ n. n) (ToldLoadPrevious (step size i 0 0 none) me) (λ ws vs wide r at.
    let w : World = world k ws vs in
    let x : ℕ = get_or ws i 0 in
    let linked = node_linked r id at b p node in
    let within = place_within r b p linked in
    let word : x ≡ w.log p = ap (λ (z : ℕ). get_or ws z 0) is
    ∙ sym (area-in ws (log_at k) (k.line * 4) (log_size k) p within.0 within.1) in
    let index : place_at me.0.about i ≡ p = ap (λ (z : Key). place_at z i) about ∙ (omega arith) in
    let v' : View = after_load_previous me.0 b p x in
    let kept : Rule k (record w { views = set vs id v' }) =
    subst (λ (z : ℕ). Rule k (record w { views = set vs id (after_load_previous me.0 b p z) })) (sym word)
    (load_previous_lasts r id at b p node (loaded me.0.clock) about).0 in
    let less = previous_less r id at b p node in (
      v',
      loaded_words k ws (set vs id v') i kept,
      record {
        bucket = b;
        node = subst (HasNode me.0 b) (sym index) node;
        told = subst (λ (z : ℕ). Told me (after_load_previous me.0 b z x) (v', me.1)) (sym index)
            (record { view = refl; held = refl; stands = stands k _ id v' kept about (there vs id me.0 v' at) });
        rises = subst (λ (z : ℕ × ℕ). PreviousRises me.0 z.0 z.1) (λ j. (sym index j, sym word j))
            (previous_rises r id at b p node);
        less = subst (λ (z : ℕ × ℕ). z.0 < z.1) (λ j. (sym word j, sym index j)) less;
        first = subst (λ (z : Key). x ≤ z.line * 4 → x ≡ first_head z b) (sym about)
            (subst (λ (z : ℕ). z ≤ k.line * 4 → z ≡ first_head k b) (sym word)
            (first_else r b (w.log p) ((r.chains b).next p linked).is));
      },
    ))
