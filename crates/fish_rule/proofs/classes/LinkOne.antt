-- One entry more of the record in flight is linked: what a swing and a splice share.
use Rattle.std.proofs.Common.{◌≡◌, ◌≢◌, ℕ, ◌+◌, ◌-◌, ◌*◌, ◌<◌, ◌≤◌, suc, set, sym, refl, ap, ◌∙◌, subst, inl, inr, ◌⊎◌}
use Rattle.std.proofs.Common.{⊎_elim, arith, Some}
use Rattle.std.proofs.Math.Decide.{dec_le, dec_lt}
use Rattle.fish_rule.proofs.basics.Context.{Clock, Flight, Key, Learned, Rule, View, World, get_elem?, some}
use Rattle.atomic_table.proofs.Lists.{at_set, set_here}
use Rattle.fish_layout.proofs.Spelled.{spelled_lines}
use Rattle.fish_layout.specs.Bucket.{bucket_of}
use Rattle.fish_layout.specs.Cleared.{body_of, entry_at, choose}
use Rattle.fish_layout.specs.Header.{keys_of, lines_of}
use Rattle.fish_rule.proofs.steps.AimEntry.{body_record, own_body}
use Rattle.fish_rule.proofs.basics.Lists.{each_set, seats_kept, within_list}
use Rattle.fish_rule.proofs.classes.OtherViews.{limit_views, alone_kept, flight_there, may_kept, registry_set}
use Rattle.fish_rule.proofs.classes.FactsStay.{finished_later, keyed_kept}
use Rattle.fish_rule.proofs.classes.PassesKnow.{each_chained, each_facts}
use Rattle.fish_rule.proofs.basics.Bodies.{published}
use Rattle.fish_rule.proofs.classes.ChainsStay.{linked_map, linking_own, linking_to}
use Rattle.fish_rule.proofs.basics.Places.{record_at}
use Rattle.fish_rule.proofs.basics.Flights.{carried_is, flight_is, known_keyed}
use Rattle.fish_rule.proofs.basics.Lasts.{Kept, Lasts}
use Rattle.fish_rule.specs.Chains.{Chain, Chained, IsKeyEntry, IsLinking, IsStoredAt, Linked, LinksAt, Shows}
use Rattle.fish_rule.specs.ChainSteps.{CanAimEntry, linked_once, own_place}
use Rattle.fish_rule.specs.Parts.{Flies, InFlight, first_head}
use Rattle.fish_rule.specs.Facts.{AreOpens, Facts}
use Rattle.fish_rule.specs.Regions.{IsRecord, kind_of}
use Rattle.fish_rule.specs.Views.{AllOf, IsFlightOf, IsOver}
use Rattle.fish_rule.specs.World.{body}
use Rattle.fish_rule.specs.declared.view.Kind.TheVariants.{Stored}
use Rattle.fish_rule.proofs.basics.RegistryWords.{endures_same}
use Rattle.fish_rule.specs.Epochs.{IsFlightCarried, Stays}

module _ {k : Key} {w : World} (r : Rule k w) (id : ℕ) {v : View} (at : get_elem? w.views id ≡ some v) (f : Flight)
    (can : CanAimEntry v f) (b : ℕ) (bucket : bucket_of k.buckets (body_of f.words) f.linked ≡ b) (head' log' : ℕ → ℕ)
    (learned : Learned) (clock : Clock) where
  -- the view afterwards
  abbrev pub linker : View
  linker = record v { flight = Some (linked_once f); learned = learned; clock = clock }

  -- the world afterwards
  abbrev pub linked_world : World
  linked_world = record w { head = head'; log = log'; views = set w.views id linker }

  -- which places are linked afterwards
  abbrev pub After : ℕ → ℕ → Type 0
  After c p = Linked k w.dir log' linked_world.views c p

  -- what the new words leave
  pub record Leaves : Type 0 where
    pub heads : (c : ℕ) → w.head c ≤ head' c
    pub rises : (c p : ℕ) → Linked k w.dir w.log w.views c p → w.log p ≤ log' p
    pub beyond : (p : ℕ) → w.line * 4 ≤ p → log' p ≡ w.log p
    pub regions : (n : ℕ) → k.number ≤ n → n < w.count
        → lines_of (body w.log (r.start n) 0) ≤ r.start (suc n) - r.start n
        → body log' (r.start n) ≡ body w.log (r.start n)
    pub below : (p : ℕ) → k.number ≤ w.settled → p < r.start w.settled * 4 → log' p ≡ w.log p
    pub own_words : (i : ℕ) → i < f.lines * 4 → log' (f.line * 4 + i) ≡ w.log (f.line * 4 + i)
    pub others : (j : ℕ) (u : View) → j ≢ id → get_elem? w.views j ≡ some u
        → Flies k w.count w.dir log' r.start r.lane_of u.lane u.flight

  -- what is so of the record in flight
  own : InFlight k w.count w.dir w.log r.start r.lane_of v.lane f
  own = flight_is r id at f can.flying

  module _ (leaves : Leaves) where
    -- a shown record stays
    shown_stays : (a c : ℕ) → Shows k w.dir w.views a c → body log' a ≡ body w.log a
    shown_stays a c shows =
        let s = record_at r a c shows in
        let l = spelled_lines s.record_of.1.spells in
        let m = s.record_of.1.lines_is in
        subst (λ (z : ℕ). body log' z ≡ body w.log z) s.line (leaves.regions s.number s.above s.below
        (subst (λ (z : ℕ). lines_of (body w.log z 0) ≤ r.start (suc s.number) - r.start s.number) (sym s.line)
        (omega arith)))

    -- and so does the own one
    own_stays : body log' f.line ≡ body_of f.words
    own_stays =
        let e = own_body r id at f can in
        let p = (body_record v f can.body).1 in
        let lined : lines_of (body_of f.words 0) ≡ f.lines = spelled_lines p.spells ∙ p.lines_is in
        let line : r.start f.number ≡ f.line = own.line in
        let lines = own.lines in
        let whole : lines_of (body w.log (r.start f.number) 0) ≤ r.start (suc f.number) - r.start f.number =
        subst (λ (z : ℕ → ℕ). lines_of (z 0) ≤ r.start (suc f.number) - r.start f.number)
        (sym e ∙ ap (body w.log) (sym line)) (omega arith) in
        ap (body log') (sym line) ∙ leaves.regions f.number own.above own.below whole ∙ ap (body w.log) line ∙ e

    -- what is linked stays so
    keep : (a c : ℕ) → LinksAt a c v.flight → LinksAt a c linker.flight
    keep a c h = (let g : LinksAt a c (Some f) = subst (LinksAt a c) can.flying h in
        let less : c < f.linked = g.0 in (omega arith, g.1))

    -- linked places stay linked
    pub link_to : (c p : ℕ) → Linked k w.dir w.log w.views c p → After c p
    link_to = linked_map k w.dir w.dir w.log log' w.views linked_world.views
        (λ a c h. ⊎_elim (λ (s : IsStoredAt k w.dir a). inl s)
        (λ (l : IsLinking a c w.views). inr (linking_to w.views id v linker at a c (keep a c) l)) h) shown_stays

    -- and the own entry is linked
    pub link_here : After b (own_place f)
    link_here = record {
      line = f.line;
      entry = f.linked;
      is = subst (λ (z : ℕ → ℕ). IsKeyEntry k.buckets z b (own_place f) f.line f.linked) (sym own_stays)
          (record { is = refl; counts = can.more; bucket = bucket });
      shows = inr (linking_to_own);
    }
      where
        linking_to_own : IsLinking f.line f.linked linked_world.views
        linking_to_own = record {
          seat = id;
          view = linker;
          at = set_here w.views id linker (within_list w.views id v at);
          links = (omega arith, refl);
        }

    -- and nothing else
    pub link_from : (c p : ℕ) → After c p → Linked k w.dir w.log w.views c p ⊎ ((p ≡ own_place f) × (c ≡ b))
    link_from c p h = by h.shows
      where
        old : Shows k w.dir w.views h.line h.entry → Linked k w.dir w.log w.views c p
        old shows = record {
          line = h.line;
          entry = h.entry;
          is = subst (λ (z : ℕ → ℕ). IsKeyEntry k.buckets z c p h.line h.entry)
              (shown_stays h.line h.entry shows) h.is;
          shows = shows;
        }

        new : h.entry ≡ f.linked → f.line ≡ h.line → (p ≡ own_place f) × (c ≡ b)
        new e line =
            let is : p ≡ h.line * 4 + entry_at h.entry = h.is.is in
            let at_ : bucket_of k.buckets (body log' f.line) f.linked ≡ c =
            subst (λ (z : ℕ × ℕ). bucket_of k.buckets (body log' z.0) z.1 ≡ c)
            (λ i. (sym line i, e i)) h.is.bucket in
            (omega arith, sym at_ ∙ ap (λ (z : ℕ → ℕ). bucket_of k.buckets z f.linked) own_stays ∙ bucket)

        mine : LinksAt h.line h.entry (Some (linked_once f)) → Dec (h.entry < f.linked)
            → Linked k w.dir w.log w.views c p ⊎ ((p ≡ own_place f) × (c ≡ b))
        mine g (yes less) = inl (old (inr (linking_own w.views id v linker at h.line h.entry
            (subst (LinksAt h.line h.entry) (sym can.flying) (less, g.1)))))
        mine g (no more) = (let few : h.entry < suc f.linked = g.0 in inr (new (omega arith) g.1))

        by : Shows k w.dir linked_world.views h.line h.entry → Linked k w.dir w.log w.views c p
            ⊎ ((p ≡ own_place f) × (c ≡ b))
        by (inl s) = inl (old (inl s))
        by (inr l) = ⊎_elim
            (λ (t : (l.seat ≡ id) × (linker ≡ l.view)). mine
            (subst (λ (z : View). LinksAt h.line h.entry z.flight) (sym t.1) l.links) (dec_lt h.entry f.linked))
            (λ (t : (l.seat ≢ id) × (get_elem? w.views l.seat ≡ some l.view)). inl
            (old (inr (record { seat = l.seat; view = l.view; at = t.1; links = l.links }))))
            (at_set w.views id l.seat linker l.view l.at)

    -- nothing that lasts has changed
    pub link_final : Kept r linked_world
    link_final = record {
      counts = omega arith;
      lines = omega arith;
      settles = omega arith;
      registered = endures_same k w.registry;
      heads = leaves.heads;
      links = link_to;
      rises = leaves.rises;
      starts = λ n h. refl;
      lanes = λ n h. refl;
      dirs = λ n h e. refl;
      bodies = λ n below set_. pick n below set_ (dec_le k.number n);
      below = leaves.below;
    }
      where
        pick : (n : ℕ) → n < w.count → w.dir n ≢ 0 → Dec (k.number ≤ n) → body log' (r.start n) ≡ body w.log (r.start n)
        pick n below set_ (no h) = absurd (set_ (r.space.dir_below n (omega arith)))
        pick n below set_ (yes above) = leaves.regions n above below (r.space.finished n above below set_).lined

    -- the record in flight is one with an entry more linked
    own_flight : InFlight k w.count w.dir log' r.start r.lane_of v.lane (linked_once f)
    own_flight = record {
      above = own.above;
      below = own.below;
      line = own.line;
      lines = own.lines;
      unpublished = own.unpublished;
      owner = own.owner;
      latest = own.latest;
      live = own.live;
      short = own.short;
      written = λ i less plain. (let short = own.short in
          leaves.own_words i (omega arith) ∙ own.written i less
          (λ h. plain (h.0, (let few : h.0 < f.linked = h.1 in omega arith), h.2)));
      unwritten = λ i more less. leaves.own_words i less ∙ own.unwritten i more less;
      whole = λ _. record {
        kind = (let about : v.about ≡ k = r.about id v at own.live in
            subst (λ (z : Key). kind_of z.end f.line (f.line + f.lines) ≡ Stored) about can.kind);
        full = can.full;
        record_of = subst (IsRecord v.lane f.number f.lines) (sym own_stays) (body_record v f can.body);
        upto = subst (λ (z : ℕ → ℕ). suc f.linked ≤ keys_of (z 0)) (sym own_stays) can.more;
      };
      header = own.header;
    }

    -- it keeps its version, and has the keys of that version
    own_carried : IsFlightCarried k w.registry r.version_of v.lane v.epoch (linked_once f)
    own_carried = record {
      entered = (carried_is r id at f can.flying).entered;
      keyed = λ _. known_keyed r id at f can.flying own.live can.body.version can.body.entered
          (body_of f.words) can.body.keyed;
    }

    module _ (chains : (c : ℕ) → Chain (After c) (first_head k c) (head' c) log')
        (facts : Facts k w.count w.dir log' r.start learned)
        (opens : AllOf (AreOpens k w.count w.dir r.lane_of) learned.opens) (floor : learned.settled ≤ w.settled)
        (chained : Chained k w.dir log' linked_world.views head' learned)
        (stays : Stays k w.count w.registry r.state r.version_of linker) where
      -- the rule is kept
      link_kept : Rule k linked_world
      link_kept = record {
        start = r.start;
        lane_of = r.lane_of;
        version_of = r.version_of;
        quota = r.quota;
        state = r.state;
        key_fits = r.key_fits;
        about = each_set _ w.views id linker (λ j u ne at_u. r.about j u at_u) (r.about id v at);
        seats = seats_kept w.views id v linker at refl refl r.seats;
        tails = each_set _ w.views id linker (λ j u ne at_u. r.tails j u at_u) (r.tails id v at);
        space = record {
          regions = r.space.regions;
          finished =
              λ n above below set_. finished_later
              link_final n below set_ (r.space.finished n above below set_);
          flying = λ n above below unset. flight_there w.views id v linker at n
              (λ h. subst (IsFlightOf n) can.flying h) (r.space.flying n above below unset);
          flights = each_set _ w.views id linker leaves.others own_flight;
          alone = alone_kept w.views id v linker at (λ n h. subst (IsFlightOf n) (sym can.flying) h) r.space.alone;
          dir_below = r.space.dir_below;
          dir_beyond = r.space.dir_beyond;
          log_beyond = λ p more. leaves.beyond p more ∙ r.space.log_beyond p more;
        };
        limit = limit_views r.limit
            (may_kept w.views id v linker at k.end r.quota refl refl
            (λ h. (h.0, λ over. h.1 (subst (IsOver k.end) can.flying over))) r.limit.may);
        settling = r.settling;
        floors = each_set _ w.views id linker (λ j u ne at_u. r.floors j u at_u) floor;
        chains = chains;
        chained = each_chained r link_final id linker chained;
        own = each_set _ w.views id linker (λ j u ne at_u. r.own j u at_u) (r.own id v at);
        facts = each_facts r link_final id linker facts;
        registry = registry_set k w.count w.registry r.state r.version_of w.views id linker r.registry stays own_carried;
        keyed = keyed_kept link_final r.version_of r.version_of
            (λ n below. refl) r.keyed (λ n below stored. (below, published (w.dir n) Stored stored));
        shuts = each_set _ w.views id linker (λ j u ne at_u. r.shuts j u at_u) (r.shuts id v at);
        opens = each_set _ w.views id linker (λ j u ne at_u. r.opens j u at_u) opens;
      }

      -- and all that lasts
      pub link_lasts : Lasts r linked_world
      unfolding link_kept
      link_lasts = (link_kept, link_final)

-- what two views give is what a choice of them gives
pub either_way : {A P : Type 0} (g : View → A) (a : A) (d : Dec P) (hit miss : View) → g hit ≡ a → g miss ≡ a
    → g (choose d hit miss) ≡ a
either_way g a (yes e) hit miss p q = p
either_way g a (no n) hit miss p q = q
