-- `swing_head`: a compare-and-exchange on a head.
use Rattle.std.proofs.Common.{◌≡◌, ◌≢◌, ℕ, ◌+◌, ◌-◌, ◌<◌, ◌≤◌, get_or, set, sym, refl, ap, ◌∙◌, subst, inl, inr, ◌⊎◌}
use Rattle.std.proofs.Common.{⊎_elim, arith, eqb, Some}
use Rattle.std.proofs.Math.Decide.{ℕ_discrete}
use Rattle.fish_rule.proofs.basics.Context.{Flight, Key, Rule, View, World, get_elem?, none, some}
use prog.Atomic.{either}
use Rattle.atomic_table.proofs.Lists.{exchanged}
use Rattle.fish_layout.proofs.Clearing.{choose_first, choose_second}
use Rattle.fish_layout.specs.Bucket.{bucket_of}
use Rattle.fish_layout.specs.Cleared.{body_of, choose, entry_at}
use Rattle.fish_rule.proofs.steps.AimEntry.{becomes, own_room}
use Rattle.fish_rule.proofs.classes.Allowed.{Allows, Ruled, Sat, Told, allowed, loaded_words, stands, step, there}
use Rattle.fish_rule.proofs.basics.ChainOrder.{chain_same, chain_swung}
use Rattle.fish_rule.proofs.basics.Flights.{one_flight, flight_is}
use Rattle.fish_rule.proofs.basics.FirstHeads.{first_low, flight_from}
use Rattle.fish_rule.proofs.steps.LoadHead.{load_head_lasts, head_rises}
use Rattle.fish_rule.proofs.classes.FactsStay.{chained_later, facts_later}
use Rattle.fish_rule.proofs.classes.LinkOne.{Leaves, link_final, link_from, link_here, link_lasts, link_to, either_way}
use Rattle.fish_rule.proofs.classes.WordsStay.{not_linked}
use Rattle.fish_rule.proofs.basics.Worlds.{area-in, put-else, put-here, world-head}
use Rattle.fish_rule.proofs.basics.Lasts.{Kept, Lasts}
use Rattle.fish_rule.specs.Chains.{Chain, Chained, Linked}
use Rattle.fish_rule.specs.ChainSteps.{CanAimEntry, CanSwingHead, HeadRises, after_swing_head, head_seen, own_place}
use Rattle.fish_rule.specs.ChainSteps.{swung}
use Rattle.fish_rule.specs.Told.{ToldSwingHead, bucket_at}
use Rattle.fish_rule.specs.Facts.{Facts}
use Rattle.fish_rule.specs.Parts.{first_head}
use Rattle.fish_rule.specs.SpaceSteps.{ticked}
use Rattle.fish_rule.specs.World.{heads_at, put, world}
use Rattle.fish_rule.specs.Flying.{region_in}

-- the place that the own entry is aimed at stands in the log
pub aimed_there : {k : Key} {w : World} (r : Rule k w) (id : ℕ) {v : View} (at : get_elem? w.views id ≡ some v)
    (f : Flight) (can : CanAimEntry v f) (x : ℕ) → get_or f.words (entry_at f.linked) 0 ≡ x → w.log (own_place f) ≡ x
aimed_there {k} {w} r id {v} at f can x aimed =
    let own = flight_is r id at f can.flying in
    let room = own_room r id at f can in
    let full = can.full in
    own.written (entry_at f.linked) (omega arith)
    (λ h. let less : h.0 < f.linked = h.1 in let e : entry_at f.linked ≡ entry_at h.0 = h.2 in
    absurd (omega arith)) ∙ aimed

module _ {k : Key} {w : World} (r : Rule k w) (id : ℕ) {v : View} (at : get_elem? w.views id ≡ some v)
    (about : v.about ≡ k) (f : Flight) (b h : ℕ) (can : CanSwingHead v f b h) (top : w.head b ≡ h) where
  -- the place of the own entry
  abbrev own_at : ℕ
  own_at = own_place f

  -- the heads afterwards
  abbrev pub head' : ℕ → ℕ
  head' = put w.head b own_at

  -- the view afterwards
  abbrev pub swinger : View
  swinger = swung v f b

  -- the world afterwards
  abbrev pub swing_world : World
  swing_world = record w { head = head'; views = set w.views id swinger }

  -- the next entry is of the bucket
  bucket : bucket_of k.buckets (body_of f.words) f.linked ≡ b
  bucket = subst (λ (z : Key). bucket_of z.buckets (body_of f.words) f.linked ≡ b) about can.bucket

  -- what a swing leaves
  leaves : Leaves r id at f can.aim b bucket head' w.log swinger.learned swinger.clock
  leaves = record {
    heads = λ c. up c (ℕ_discrete c b);
    rises = λ c p l. omega arith;
    beyond = λ p more. refl;
    regions = λ n above below lined. refl;
    below = λ p from h. refl;
    own_words = λ i less. refl;
    others = λ j u ne at_u. r.space.flights j u at_u;
  }
    where
      up : (c : ℕ) → Dec (c ≡ b) → w.head c ≤ head' c
      up c (yes e) = subst (λ (z : ℕ). w.head z ≤ head' z) (sym e)
          (let q = put-here w.head b own_at in let less = can.less in omega arith)
      up c (no ne) = (let q = put-else w.head b own_at c ne in omega arith)

  -- linked places stay linked
  to : (c p : ℕ) → Linked k w.dir w.log w.views c p → Linked k w.dir w.log swing_world.views c p
  to = link_to r id at f can.aim b bucket head' w.log swinger.learned swinger.clock leaves

  -- and the own one is the only one more
  from : (c p : ℕ) → Linked k w.dir w.log swing_world.views c p → Linked k w.dir w.log w.views c p
      ⊎ ((p ≡ own_at) × (c ≡ b))
  from = link_from r id at f can.aim b bucket head' w.log swinger.learned swinger.clock leaves

  -- which is linked
  here : Linked k w.dir w.log swing_world.views b own_at
  here = link_here r id at f can.aim b bucket head' w.log swinger.learned swinger.clock leaves

  -- it is first in its bucket's chain, and other chains stay
  chains : (c : ℕ) → Chain (Linked k w.dir w.log swing_world.views c) (first_head k c) (head' c) w.log
  chains c = pick (ℕ_discrete c b)
    where
      pick : Dec (c ≡ b) → Chain (Linked k w.dir w.log swing_world.views c) (first_head k c) (head' c) w.log
      pick (yes e) =
          let old : Chain (Linked k w.dir w.log w.views b) (first_head k b) h w.log =
          subst (λ (z : ℕ). Chain (Linked k w.dir w.log w.views b) (first_head k b) z w.log) top (r.chains b) in
          let new : Chain (Linked k w.dir w.log swing_world.views b) (first_head k b) own_at w.log =
          chain_swung (Linked k w.dir w.log w.views b)
          (Linked k w.dir w.log swing_world.views b) (first_head k b) h own_at w.log w.log (to b)
          (λ p l. ⊎_elim (λ (g : Linked k w.dir w.log w.views b p). inl g)
          (λ (t : (p ≡ own_at) × (b ≡ b)). inr t.0) (from b p l))
          here old can.less (aimed_there r id at f can.aim h can.aimed) (λ p l. refl) in
          subst (λ (z : ℕ × ℕ). Chain (Linked k w.dir w.log swing_world.views z.0) (first_head k z.0) z.1 w.log)
          (λ i. (sym e i, (sym (put-here w.head b own_at) ∙ ap head' (sym e)) i)) new
      pick (no ne) = subst (λ (z : ℕ). Chain (Linked k w.dir w.log swing_world.views c) (first_head k c) z w.log)
          (sym (put-else w.head b own_at c ne))
          (chain_same (Linked k w.dir w.log w.views c) (Linked k w.dir w.log swing_world.views c) (first_head k c)
          (w.head c) w.log w.log (to c)
          (λ p l. ⊎_elim (λ (g : Linked k w.dir w.log w.views c p). g)
          (λ (t : (p ≡ own_at) × (c ≡ b)). absurd (ne t.1)) (from c p l)) (λ p l. refl) (r.chains c))

  -- what lasts has lasted
  final : Kept r swing_world
  final = link_final r id at f can.aim b bucket head' w.log swinger.learned swinger.clock leaves

  -- what the pass has learned is so
  facts : Facts k w.count w.dir w.log r.start swinger.learned
  facts = (let q = facts_later final (r.facts id v at) in assumption q)

  -- and what it has learned of chains
  chained : Chained k w.dir w.log swing_world.views head' swinger.learned
  chained =
      let q = chained_later final (r.chained id v at) in
      let top_ = put-here w.head b own_at in
      record { nodes = (here, q.nodes); least_previous = q.least_previous; least_heads = (omega arith, q.least_heads) }

  -- a swing keeps the rule, and all that lasts
  pub swing_head_lasts : Lasts r swing_world
  swing_head_lasts =
      link_lasts r id at f can.aim b bucket head' w.log swinger.learned swinger.clock leaves chains facts
      (r.opens id v at) (r.floors id v at) chained (r.registry.each id v at)

-- the own entry is not linked yet
pub own_unlinked : {k : Key} {w : World} (r : Rule k w) (id : ℕ) {v : View} (at : get_elem? w.views id ≡ some v)
    (f : Flight) (can : CanAimEntry v f) (b p : ℕ)
    → Linked k w.dir w.log w.views b p → p ≢ own_place f
own_unlinked {k} {w} r id {v} at f can b p = not_linked r id at f can.flying (entry_at f.linked) 0
    (set f.words (entry_at f.linked) 0) (ticked v.clock) (becomes r id at f can 0) b p

-- a swing leaves the key
about_swing : (v : View) {k : Key} (f : Flight) (b h x : ℕ) → v.about ≡ k → (after_swing_head v f b h x).about ≡ k
about_swing v {k} f b h x about = by (ℕ_discrete x h)
  where
    by : (d : Dec (x ≡ h)) → (choose d (swung v f b) (head_seen v b x (ticked v.clock))).about ≡ k
    by (yes e) = about
    by (no n) = about

-- the own place is no head before
pub head_other : {k : Key} {w : World} (r : Rule k w) (id : ℕ) {v : View} (at : get_elem? w.views id ≡ some v)
    (f : Flight) (can : CanAimEntry v f) (b : ℕ) → w.head b ≢ own_place f
head_other {k} {w} r id {v} at f can b e = ⊎_elim (λ (z : w.head b ≡ first_head k b).
    let low_ = first_low r b in let behind = flight_from r id v at f can.flying in absurd (omega arith))
    (λ (l : Linked k w.dir w.log w.views b (w.head b)). own_unlinked r id at f can b (w.head b) l e)
    (r.chains b).some

-- the table allows it
pub swing_head_allowed : (given k : Key) → given ≡ k → (size id : ℕ) (me : Sat) (f : Flight) (b h i new : ℕ)
    → me.0.about ≡ k → CanSwingHead me.0 f b h → i ≡ heads_at + b → new ≡ own_place f
    → Allows (Ruled given) size id me i (λ n. either (eqb n h) new n) (ToldSwingHead (step size i h new none) me)
swing_head_allowed given k same size id me f b h i new about can is own =
    allowed given k same size id me i (λ n. either (eqb n h) new n) (ToldSwingHead (step size i h new none) me)
    (λ ws vs wide r at.
    let w : World = world k ws vs in
    let x : ℕ = get_or ws i 0 in
    let below : b < k.buckets = subst (λ (z : Key). b < z.buckets) about can.below in
    let minus : b ≡ b - 0 = omega arith in
    let word : x ≡ w.head b = ap (λ (z : ℕ). get_or ws z 0) is
    ∙ ap (λ (z : ℕ). get_or ws (heads_at + z) 0) minus
    ∙ sym (area-in ws heads_at 0 k.buckets b (omega arith) (omega arith)) in
    let index : bucket_at i ≡ b = omega arith in
    let v' : View = after_swing_head me.0 f b h x in
    let v_at = there vs id me.0 v' at in
    let rule : Rule k (world k (set ws i (either (eqb x h) new x)) (set vs id v')) =
    exchanged x h new (λ y. Rule k (world k (set ws i y) (set vs id v')))
    (λ e. let hit : v' ≡ swung me.0 f b = choose_first (ℕ_discrete x h) (swung me.0 f b) (head_seen me.0 b x (ticked me.0.clock)) e in
    subst (λ (z : ℕ × View). Rule k (world k (set ws i z.0) (set vs id z.1))) (λ j. (sym own j, sym hit j))
    (subst (Rule k) (sym (world-head k ws vs (set vs id (swung me.0 f b)) b i (own_place f) below is wide))
    (swing_head_lasts r id at about f b h can (sym word ∙ e)).0))
    (λ ne. let miss : v' ≡ head_seen me.0 b x (ticked me.0.clock) =
    choose_second (ℕ_discrete x h) (swung me.0 f b) (head_seen me.0 b x (ticked me.0.clock)) ne in
    subst (λ (z : View). Rule k (world k (set ws i x) (set vs id z))) (sym miss)
    (loaded_words k ws (set vs id (head_seen me.0 b x (ticked me.0.clock))) i
    (subst (λ (z : ℕ). Rule k (record w { views = set vs id (head_seen me.0 b z (ticked me.0.clock)) })) (sym word)
    (load_head_lasts r id at b (ticked me.0.clock) about).0))) in
    let about' : v'.about ≡ k = about_swing me.0 f b h x about in (
      v',
      rule,
      record {
        told = λ g flying.
            let e : f ≡ g = one_flight f g (sym can.aim.flying ∙ flying) in
            subst (λ (z : ℕ × Flight). Told me (after_swing_head me.0 z.1 z.0 h x) (v', me.1))
            (λ j. (sym index j, e j)) (record {
              view = refl;
              held = refl;
              stands = stands k _ id v' rule about' v_at;
            });
        rises = subst (λ (z : ℕ × ℕ). HeadRises me.0 z.0 z.1) (λ j. (sym index j, sym word j))
            (head_rises r id at b);
        other = λ e. head_other r id at f can.aim b (sym word ∙ e ∙ own);
      },
    ))

module _ (v : View) (f : Flight) (b h x : ℕ) where
  -- a swing
  pub swing_about : (after_swing_head v f b h x).about ≡ v.about
  swing_about = either_way (λ (z : View). z.about) v.about (ℕ_discrete x h) (swung v f b) (head_seen v b x (ticked v.clock)) refl refl

  -- and the lane
  pub swing_lane : (after_swing_head v f b h x).lane ≡ v.lane
  swing_lane = either_way (λ (z : View). z.lane) v.lane (ℕ_discrete x h) (swung v f b) (head_seen v b x (ticked v.clock)) refl refl

  -- and what shut the pass
  pub swing_shut : (after_swing_head v f b h x).shut ≡ v.shut
  swing_shut = either_way (λ (z : View). z.shut) v.shut (ℕ_discrete x h) (swung v f b) (head_seen v b x (ticked v.clock)) refl refl

  -- and the region in flight
  pub region_swing : v.flight ≡ Some f → region_in (after_swing_head v f b h x).flight ≡ region_in (Some f)
  region_swing flying = either_way (λ (z : View). region_in z.flight) (region_in (Some f)) (ℕ_discrete x h)
      (swung v f b) (head_seen v b x (ticked v.clock)) refl (ap region_in flying)
