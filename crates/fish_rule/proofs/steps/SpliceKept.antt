-- A splice keeps the rule: only the first word of the entry above is another.
use Rattle.std.proofs.Common.{◌≡◌, ◌≢◌, ℕ, ◌+◌, ◌-◌, ◌*◌, ◌%◌, ◌<◌, ◌≤◌, suc, set, sym, refl, ap, ◌∙◌, subst, inl, inr}
use Rattle.std.proofs.Common.{◌⊎◌, ⊎_elim, arith, Some, None, Option}
use Rattle.std.proofs.Math.Decide.{ℕ_discrete}
use Rattle.std.proofs.lemmas.Nat.{mod-mul-add}
use Rattle.fish_rule.proofs.basics.Context.{Flight, Key, Rule, View, World, get_elem?, some}
use Rattle.fish_layout.proofs.Clearing.{cleared_head, cleared_same}
use Rattle.fish_layout.proofs.Spelled.{spelled_lines}
use Rattle.fish_layout.specs.Bucket.{bucket_of}
use Rattle.fish_layout.specs.Cleared.{IsKeyWord, body_of, entry_at}
use Rattle.fish_layout.specs.Header.{keys_of, lines_of}
use Rattle.fish_rule.proofs.basics.Bodies.{body_same}
use Rattle.fish_rule.proofs.basics.Regions.{ends_within, flight_behind, one_region}
use Rattle.fish_rule.proofs.basics.ChainOrder.{chain_same, chain_spliced}
use Rattle.fish_rule.proofs.basics.Flights.{one_flight, flight_is}
use Rattle.fish_rule.proofs.classes.OtherViews.{one_view}
use Rattle.fish_rule.proofs.steps.LoadPrevious.{node_linked}
use Rattle.fish_rule.proofs.classes.FactsStay.{chained_later, facts_later}
use Rattle.fish_rule.proofs.classes.LinkOne.{Leaves, link_final, link_from, link_here, link_lasts, link_to}
use Rattle.fish_rule.proofs.basics.Places.{IsFlier, RecordAt, lies_inside, one_chain, record_at}
use Rattle.fish_rule.proofs.steps.SwingHead.{aimed_there}
use Rattle.fish_rule.proofs.basics.Worlds.{put-else, put-here}
use Rattle.fish_rule.proofs.basics.Lasts.{Kept, Lasts}
use Rattle.fish_rule.specs.Chains.{Chain, Chained, Linked}
use Rattle.fish_rule.specs.ChainSteps.{CanSpliceEntry, own_place, spliced}
use Rattle.fish_rule.specs.Parts.{Flies, InFlight, IsWholeFlight, first_head}
use Rattle.fish_rule.specs.Facts.{Facts}
use Rattle.fish_rule.specs.Regions.{IsRecord}
use Rattle.fish_rule.specs.Views.{IsFlightOf}
use Rattle.fish_rule.specs.World.{body, put}

module _ {k : Key} {w : World} (r : Rule k w) (id : ℕ) {v : View} (at : get_elem? w.views id ≡ some v)
    (about : v.about ≡ k) (f : Flight) (b q x : ℕ) (can : CanSpliceEntry v f b q x) (was : w.log q ≡ x) where
  -- the place of the own entry
  abbrev own_at : ℕ
  own_at = own_place f

  -- the words afterwards
  abbrev pub log' : ℕ → ℕ
  log' = put w.log q own_at

  -- the view afterwards
  abbrev pub splicer : View
  splicer = spliced v f b q

  -- the world afterwards
  abbrev pub splice_world : World
  splice_world = record w { log = log'; views = set w.views id splicer }

  -- the next entry is of the bucket
  bucket : bucket_of k.buckets (body_of f.words) f.linked ≡ b
  bucket = subst (λ (z : Key). bucket_of z.buckets (body_of f.words) f.linked ≡ b) about can.bucket

  -- what is so of the record in flight
  own : InFlight k w.count w.dir w.log r.start r.lane_of v.lane f
  own = flight_is r id at f can.aim.flying

  -- the entry above
  higher : Linked k w.dir w.log w.views b q
  higher = node_linked r id at b q can.node

  -- its record
  its : RecordAt r higher.line higher.entry
  its = record_at r higher.line higher.entry higher.shows

  -- where the first word above stands
  its_place : q ≡ higher.line * 4 + entry_at higher.entry
  its_place = higher.is.is

  -- it lies in the region of its record
  inside : (r.start its.number * 4 ≤ q) × (q < r.start (suc its.number) * 4)
  inside = lies_inside r b q higher its

  -- a place in the region of another number is another place
  elsewhere : (n p : ℕ) → k.number ≤ n → n < w.count → its.number ≢ n → r.start n * 4 ≤ p
      → p < r.start (suc n) * 4 → log' p ≡ w.log p
  elsewhere n p above below ne from to = put-else w.log q own_at p (λ e.
      let i = inside in ne
      (one_region k w.count w.line r.start r.space.regions its.number n p its.above its.below above below
      (omega arith) (omega arith) from to))

  -- regions keep their bodies
  regions : (n : ℕ) → k.number ≤ n → n < w.count
      → lines_of (body w.log (r.start n) 0) ≤ r.start (suc n) - r.start n
      → body log' (r.start n) ≡ body w.log (r.start n)
  regions n above below lined = pick (ℕ_discrete its.number n)
    where
      pick : Dec (its.number ≡ n) → body log' (r.start n) ≡ body w.log (r.start n)
      pick (no ne) = (let grows = r.space.regions.grows n above below in
          body_same w.log log' (r.start n) (r.start (suc n) - r.start n) (omega arith) lined
          (λ i less. elsewhere n (r.start n * 4 + i) above below ne (omega arith) (omega arith)))
      pick (yes e) =
          let line : higher.line ≡ r.start n = sym its.line ∙ ap r.start e in
          let head : body w.log (r.start n) 0 ≡ w.log (r.start n * 4 + 0) =
          cleared_head (λ i. w.log (r.start n * 4 + i)) in
          let few : higher.entry < keys_of (w.log (r.start n * 4 + 0)) =
          subst (λ (z : ℕ). higher.entry < keys_of z) head
          (subst (λ (z : ℕ). higher.entry < keys_of (body w.log z 0)) line higher.is.counts) in
          let third : 1 + 3 * higher.entry ≡ higher.entry * 3 + 1 = omega arith in
          let key : IsKeyWord (keys_of (w.log (r.start n * 4 + 0))) (entry_at higher.entry) =
          (omega arith, ap (λ (z : ℕ). z % 3) third ∙ mod-mul-add higher.entry 3 1 (omega arith)) in
          let place = its_place in
          cleared_same (λ i. w.log (r.start n * 4 + i)) (λ i. log' (r.start n * 4 + i)) (λ i within plain.
          put-else w.log q own_at (r.start n * 4 + i)
          (λ g. let same : entry_at higher.entry ≡ i = omega arith in
          plain (subst (IsKeyWord (keys_of (w.log (r.start n * 4 + 0)))) same key)))

  -- the entry above is of another record, since it is above all linked ones of the own
  other_record : its.number ≢ f.number
  other_record e = ⊎_elim (λ (set_ : w.dir its.number ≢ 0). absurd (set_ (ap w.dir e ∙ own.unpublished)))
      (λ (t : (w.dir its.number ≡ 0) × IsFlier w its.number higher.entry).
      let g = t.1 in
      let seat : g.seat ≡ id = r.space.alone g.seat id g.view v f.number g.at at
      (subst (IsFlightOf f.number) (sym g.flies) (g.number ∙ e))
      (subst (IsFlightOf f.number) (sym can.aim.flying) refl) in
      let view : g.view ≡ v = one_view w.views id g.view v
      (subst (λ (z : ℕ). get_elem? w.views z ≡ some g.view) seat g.at) at in
      let flight : g.flight ≡ f = one_flight g.flight f
      (sym g.flies ∙ ap (λ (z : View). z.flight) view ∙ can.aim.flying) in
      let counts : higher.entry < f.linked = subst (λ (z : Flight). higher.entry < z.linked) flight g.counts in
      let line : higher.line ≡ f.line = sym its.line ∙ ap r.start e ∙ own.line in
      let place = its_place in
      let below = can.below in
      absurd (omega arith)) its.owner

  -- the own words stay
  own_words : (i : ℕ) → i < f.lines * 4 → log' (f.line * 4 + i) ≡ w.log (f.line * 4 + i)
  own_words i less = (let line = own.line in let lines = own.lines in
      elsewhere f.number (f.line * 4 + i) own.above own.below other_record (omega arith) (omega arith))

  -- a record in flight with another pass
  flies : (j : ℕ) (u : View) → get_elem? w.views j ≡ some u → (o : Option Flight) → u.flight ≡ o
      → Flies k w.count w.dir w.log r.start r.lane_of u.lane o → Flies k w.count w.dir log' r.start r.lane_of u.lane o
  flies j u at_u None is h = h
  flies j u at_u (Some g) is h = pick (ℕ_discrete its.number g.number)
    where
      start_is : r.start g.number ≡ g.line
      start_is = h.line

      end_is : r.start (suc g.number) ≡ g.line + g.lines
      end_is = h.lines

      -- its linked entry is the one above
      is_linked : its.number ≡ g.number → higher.entry < g.linked
      is_linked e = ⊎_elim (λ (set_ : w.dir its.number ≢ 0). absurd (set_ (ap w.dir e ∙ h.unpublished)))
          (λ (t : (w.dir its.number ≡ 0) × IsFlier w its.number higher.entry).
          let m = t.1 in
          let seat : m.seat ≡ j = r.space.alone m.seat j m.view u g.number m.at at_u
          (subst (IsFlightOf g.number) (sym m.flies) (m.number ∙ e)) (subst (IsFlightOf g.number) (sym is) refl) in
          let view : m.view ≡ u = one_view w.views j m.view u
          (subst (λ (z : ℕ). get_elem? w.views z ≡ some m.view) seat m.at) at_u in
          let flight : m.flight ≡ g = one_flight m.flight g (sym m.flies ∙ ap (λ (z : View). z.flight) view ∙ is) in
          subst (λ (z : Flight). higher.entry < z.linked) flight m.counts) its.owner

      same : its.number ≢ g.number → (i : ℕ) → i < g.lines * 4 → log' (g.line * 4 + i) ≡ w.log (g.line * 4 + i)
      same ne i less = (let a = start_is in let z = end_is in
          elsewhere g.number (g.line * 4 + i) h.above h.below ne (omega arith) (omega arith))

      body_stays : 0 < g.linked → body log' g.line ≡ body w.log g.line
      body_stays some_ =
          let whole = h.whole some_ in
          let l = spelled_lines whole.record_of.1.spells in
          let m = whole.record_of.1.lines_is in
          let a = start_is in
          let z = end_is in
          subst (λ (n : ℕ). body log' n ≡ body w.log n) start_is (regions g.number h.above h.below
          (subst (λ (n : ℕ). lines_of (body w.log n 0) ≤ r.start (suc g.number) - r.start g.number)
          (sym start_is) (omega arith)))

      whole_stays : 0 < g.linked → IsWholeFlight k log' u.lane g
      whole_stays some_ = (let whole = h.whole some_ in let e = body_stays some_ in record {
        kind = whole.kind;
        full = whole.full;
        record_of = subst (IsRecord u.lane g.number g.lines) (sym e) whole.record_of;
        upto = subst (λ (z : ℕ → ℕ). g.linked ≤ keys_of (z 0)) (sym e) whole.upto;
      })

      pick : Dec (its.number ≡ g.number) → InFlight k w.count w.dir log' r.start r.lane_of u.lane g
      pick (no ne) = record {
        above = h.above;
        below = h.below;
        line = h.line;
        lines = h.lines;
        unpublished = h.unpublished;
        owner = h.owner;
        latest = h.latest;
        live = h.live;
        short = h.short;
        written = λ i less plain. let short = h.short in same ne i (omega arith) ∙ h.written i less plain;
        unwritten = λ i more less. same ne i less ∙ h.unwritten i more less;
        whole = whole_stays;
        header = h.header;
      }
      pick (yes e) =
          let linked = is_linked e in
          let line : higher.line ≡ g.line = sym its.line ∙ ap r.start e ∙ start_is in
          let place = its_place in
          let full = (h.whole (omega arith)).full in
          record {
            above = h.above;
            below = h.below;
            line = h.line;
            lines = h.lines;
            unpublished = h.unpublished;
            owner = h.owner;
            latest = h.latest;
            live = h.live;
            short = h.short;
            written = λ i less plain. put-else w.log q own_at (g.line * 4 + i)
                (λ m. plain (higher.entry, linked, omega arith)) ∙ h.written i less plain;
            unwritten = λ i more less. absurd (omega arith);
            whole = whole_stays;
            header = h.header;
          }

  -- what a splice leaves
  leaves : Leaves r id at f can.aim b bucket w.head log' splicer.learned splicer.clock
  leaves = record {
    heads = λ c. omega arith;
    rises = λ c p l. up p (ℕ_discrete p q);
    beyond = λ p more. let i = inside in let e =
        ends_within k w.count w.line r.start r.space.regions its.number its.above its.below in
        put-else w.log q own_at p (λ g. omega arith);
    regions = regions;
    below = λ p from less. (let behind = flight_behind r v.lane f own from in let under = can.below in
        put-else w.log q own_at p (λ g. omega arith));
    own_words = own_words;
    others = λ j u ne at_u. flies j u at_u u.flight refl (r.space.flights j u at_u);
  }
    where
      up : (p : ℕ) → Dec (p ≡ q) → w.log p ≤ log' p
      up p (yes e) = subst (λ (z : ℕ). w.log z ≤ log' z) (sym e)
          (let h = put-here w.log q own_at in let less = can.less in omega arith)
      up p (no ne) = (let h = put-else w.log q own_at p ne in omega arith)

  -- linked places stay linked
  to : (c p : ℕ) → Linked k w.dir w.log w.views c p → Linked k w.dir log' splice_world.views c p
  to = link_to r id at f can.aim b bucket w.head log' splicer.learned splicer.clock leaves

  -- and the own one is the only one more
  from : (c p : ℕ) → Linked k w.dir log' splice_world.views c p → Linked k w.dir w.log w.views c p
      ⊎ ((p ≡ own_at) × (c ≡ b))
  from = link_from r id at f can.aim b bucket w.head log' splicer.learned splicer.clock leaves

  -- which is linked
  here : Linked k w.dir log' splice_world.views b own_at
  here = link_here r id at f can.aim b bucket w.head log' splicer.learned splicer.clock leaves

  -- each chain has it in its place
  chains : (c : ℕ) → Chain (Linked k w.dir log' splice_world.views c) (first_head k c) (w.head c) log'
  chains c = pick (ℕ_discrete c b)
    where
      pick : Dec (c ≡ b) → Chain (Linked k w.dir log' splice_world.views c) (first_head k c) (w.head c) log'
      pick (yes e) = subst (λ (z : ℕ). Chain (Linked k w.dir log' splice_world.views z) (first_head k z) (w.head z) log') (sym e)
          (chain_spliced (Linked k w.dir w.log w.views b) (Linked k w.dir log' splice_world.views b)
          (first_head k b) (w.head b) own_at w.log log' (to b)
          (λ p l. ⊎_elim (λ (g : Linked k w.dir w.log w.views b p). inl g)
          (λ (t : (p ≡ own_at) × (b ≡ b)). inr t.0) (from b p l))
          here (r.chains b) q x higher can.below was can.less (put-here w.log q own_at)
          (put-else w.log q own_at own_at (λ g. let less = can.below in omega arith)
          ∙ aimed_there r id at f can.aim x can.aimed)
          (λ p l ne. put-else w.log q own_at p ne))
      pick (no ne) = chain_same (Linked k w.dir w.log w.views c) (Linked k w.dir log' splice_world.views c)
          (first_head k c) (w.head c) w.log log' (to c)
          (λ p l. ⊎_elim (λ (g : Linked k w.dir w.log w.views c p). g)
          (λ (t : (p ≡ own_at) × (c ≡ b)). absurd (ne t.1)) (from c p l))
          (λ p l. put-else w.log q own_at p (λ e. ne
          (one_chain r c b q (subst (Linked k w.dir w.log w.views c) e l) higher))) (r.chains c)

  -- what lasts has lasted
  final : Kept r splice_world
  final = link_final r id at f can.aim b bucket w.head log' splicer.learned splicer.clock leaves

  -- what the pass has learned is so
  facts : Facts k w.count w.dir log' r.start splicer.learned
  facts = (let g = facts_later final (r.facts id v at) in assumption g)

  -- and what it has learned of chains
  chained : Chained k w.dir log' splice_world.views w.head splicer.learned
  chained =
      let g = chained_later final (r.chained id v at) in
      let low_ = put-here w.log q own_at in
      record {
        nodes = (here, g.nodes);
        least_previous =
            (record { bucket = b; linked = to b q higher; low = omega arith }, g.least_previous);
        least_heads = g.least_heads;
      }

  -- a splice keeps the rule, and all that lasts
  pub splice_entry_lasts : Lasts r splice_world
  splice_entry_lasts =
      link_lasts r id at f can.aim b bucket w.head log' splicer.learned splicer.clock leaves chains facts
      (r.opens id v at) (r.floors id v at) chained (r.registry.each id v at)
