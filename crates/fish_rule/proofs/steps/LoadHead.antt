-- `load_head`: a load of a head.
use Rattle.std.proofs.Common.{◌≡◌, ℕ, ◌+◌, ◌-◌, ◌*◌, ◌<◌, ◌≤◌, get_or, set, sym, refl, ap, ◌∙◌, subst, arith}
use Rattle.fish_rule.proofs.basics.Context.{Clock, Key, Rule, View, World, get_elem?, none, some}
use Rattle.fish_rule.proofs.classes.Allowed.{Allows, Ruled, Sat, Told, allowed, loaded_words, stands, step, there}
use Rattle.fish_rule.proofs.basics.Lists.{all_among}
use Rattle.fish_rule.proofs.basics.Gaps.{gap_there}
use Rattle.fish_rule.proofs.basics.Lasts.{Lasts}
use Rattle.fish_rule.specs.Gaps.{IsGap}
use Rattle.fish_rule.proofs.classes.Loads.{learn_lasts, learn_final, still_chained}
use Rattle.fish_rule.proofs.basics.Worlds.{area-in}
use Rattle.fish_rule.specs.ChainSteps.{CanLoadHead, HeadRises, after_load_head, head_seen, gap}
use Rattle.fish_rule.specs.SpaceSteps.{loaded}
use Rattle.fish_rule.specs.Parts.{first_head}
use Rattle.fish_rule.specs.Told.{ToldLoadHead, bucket_at}
use Rattle.fish_rule.specs.World.{heads_at, world}
use Rattle.fish_rule.proofs.basics.FirstHeads.{node_joins, first_else, linked_else}

module _ {k : Key} {w : World} (r : Rule k w) (id : ℕ) {v : View} (at : get_elem? w.views id ≡ some v) (b : ℕ) where
  -- the view afterwards, with some clock
  abbrev pub head_seer : Clock → View
  head_seer clock = head_seen v b (w.head b) clock

  -- what is known of the head has been reached
  pub head_rises : HeadRises v b (w.head b)
  head_rises t among is = (let h = all_among (λ x. x.place ≤ w.head x.bucket) t v.learned.least_heads
      (r.chained id v at).least_heads among in subst (λ (z : ℕ). t.place ≤ w.head z) is h)

  -- no linked entry is above the head
  head_gap : IsGap k w.count w.dir w.log r.start (gap b (v.about.end * 4) (w.head b) v.learned)
  head_gap = gap_there r b v.learned.settled (v.about.end * 4) (w.head b) (r.floors id v at)
      (λ p linked under. (r.chains b).highest p linked)

  module _ (clock : Clock) (about : v.about ≡ k) where
    -- a step that sees a head keeps the rule, and all that lasts
    pub load_head_lasts : Lasts r (record w { views = set w.views id (head_seer clock) })
    load_head_lasts =
        let h = r.facts id v at in
        let still = still_chained r id at (head_seer clock).learned v.tail v.round clock in
        let final = learn_final r id at (head_seer clock).learned v.tail v.round clock in
        learn_lasts r id at (head_seer clock).learned v.tail v.round clock (r.tails id v at)
        (assumption (h, head_gap))
        (r.opens id v at) (r.floors id v at) (record {
          nodes = node_joins _ v.about b (w.head b) v.learned.nodes still.nodes
              (λ more. final.links b (w.head b) (linked_else r b (w.head b) (r.chains b).some
              (subst (λ (z : Key). z.line * 4 < w.head b) about more)));
          least_previous = still.least_previous;
          least_heads = (omega arith, still.least_heads);
        }) (r.registry.each id v at)

-- a load of a head
pub load_head_allowed : (given k : Key) → given ≡ k → (size id : ℕ) (me : Sat) (b i : ℕ) → me.0.about ≡ k
    → CanLoadHead me.0 b → i ≡ heads_at + b
    → Allows (Ruled given) size id me i (λ n. n) (ToldLoadHead (step size i 0 0 none) me)
load_head_allowed given k same size id me b i about can is =
    allowed given k same size id me i (λ n. n) (ToldLoadHead (step size i 0 0 none) me) (λ ws vs wide r at.
    let w : World = world k ws vs in
    let x : ℕ = get_or ws i 0 in
    let below : b < k.buckets = subst (λ (z : Key). b < z.buckets) about can.below in
    let minus : b ≡ b - 0 = omega arith in
    let word : x ≡ w.head b = ap (λ (z : ℕ). get_or ws z 0) is
    ∙ ap (λ (z : ℕ). get_or ws (heads_at + z) 0) minus
    ∙ sym (area-in ws heads_at 0 k.buckets b (omega arith) (omega arith)) in
    let index : bucket_at i ≡ b = omega arith in
    let v' : View = after_load_head me.0 b x in
    let kept : Rule k (record w { views = set vs id v' }) =
    subst (λ (z : ℕ). Rule k (record w { views = set vs id (after_load_head me.0 b z) })) (sym word)
    (load_head_lasts r id at b (loaded me.0.clock) about).0 in (
      v',
      loaded_words k ws (set vs id v') i kept,
      record {
        told = subst (λ (z : ℕ). Told me (after_load_head me.0 z x) (v', me.1)) (sym index)
            (record { view = refl; held = refl; stands = stands k _ id v' kept about (there vs id me.0 v' at) });
        rises = subst (λ (z : ℕ × ℕ). HeadRises me.0 z.0 z.1) (λ j. (sym index j, sym word j))
            (head_rises r id at b);
        first = subst (λ (z : ℕ). x ≤ me.0.about.line * 4 → x ≡ first_head me.0.about z) (sym index)
            (subst (λ (z : Key). x ≤ z.line * 4 → x ≡ first_head z b) (sym about)
            (subst (λ (z : ℕ). z ≤ k.line * 4 → z ≡ first_head k b) (sym word)
            (first_else r b (w.head b) (r.chains b).some)));
      },
    ))
