-- `publish_region`: a store of the own directory word, and the region in flight becomes a published one.
use Rattle.std.proofs.Common.{◌≡◌, ◌≢◌, ℕ, ◌+◌, ◌-◌, ◌<◌, ◌≤◌, suc, List, [], ◌∷◌, set, sym, refl, ap, ◌∙◌, subst}
use Rattle.std.proofs.Common.{inl, inr, ◌⊎◌, ⊎_elim, arith, Some}
use Rattle.std.proofs.Math.Decide.{ℕ_discrete}
use Rattle.fish_rule.proofs.basics.Context.{Among, Final, Flight, Key, Kind, Rule, View, World, get_elem?, none, some}
use Rattle.fish_rule.proofs.basics.Lasts.{Kept}
use Rattle.fish_rule.proofs.basics.Bodies.{code_once, mark-past, published}
use Rattle.fish_rule.proofs.basics.Lists.{among_left, among_right, among_either, each_set, has_own, seats_kept}
use Rattle.fish_rule.proofs.classes.OtherViews.{limit_views, may_kept, registry_set}
use Rattle.fish_rule.proofs.classes.FactsStay.{chained_later, facts_later, owns_later, shut_later, stored_later}
use Rattle.fish_rule.proofs.basics.Flights.{flight_is}
use Rattle.fish_rule.proofs.basics.ToPublish.{own_body, own_keyed, may_before}
use Rattle.fish_rule.proofs.basics.Worlds.{world-dir}
use Rattle.fish_rule.specs.Chains.{Chained}
use Rattle.fish_rule.specs.Parts.{InFlight}
use Rattle.fish_rule.proofs.classes.OpensStay.{opens_later}
use Rattle.fish_rule.specs.Facts.{Facts, IsFound, IsRecorded, IsStoredBy, Owns, ShutOk}
use Rattle.fish_rule.specs.Regions.{code, dir_word, kind_of}
use Rattle.fish_rule.specs.SpaceSteps.{IsReady, learned_after, own_after, records_after, shut_after, CanPublishRegion}
use Rattle.fish_rule.specs.SpaceSteps.{after_publish_region, flight_kind}
use Rattle.fish_rule.specs.Views.{AllOf, Has}
use Rattle.fish_rule.specs.World.{body, high, put, dir_at, world}
use Rattle.fish_rule.specs.declared.view.Kind.TheVariants.{Mark, Stored, Void}
use Rattle.fish_rule.specs.declared.view.Own.{Own}
use Rattle.fish_rule.specs.Epochs.{Keyed}
use Rattle.fish_rule.specs.Keys.{IsKeyed}
use Rattle.fish_rule.specs.Registry.{AreActiveAt, KnowsActive}
use Rattle.fish_rule.specs.declared.view.Epoch.TheVariants.{Confirmed}
use Rattle.atomic_table.specs.Table.{Allows, step}
use Rattle.fish_rule.proofs.basics.Regions.{few_slots}
use Rattle.fish_rule.specs.Table.{Ruled, Sat, IsOfMoment}
use Rattle.fish_rule.specs.Told.{told_publish_region}
use Rattle.fish_rule.proofs.classes.Allowed.{allowed, stands, there}
use Rattle.fish_rule.proofs.classes.PassesKnow.{each_chained, each_facts, each_opens, each_shut}
use Rattle.fish_rule.proofs.steps.PublishSpace.{dir_else, kind_here, publish_chains, publish_final, publish_settling}
use Rattle.fish_rule.proofs.steps.PublishSpace.{publish_space, view', world'}

module _ {k : Key} {w : World} (r : Rule k w) (id : ℕ) {v : View} (at : get_elem? w.views id ≡ some v) (f : Flight)
    (live : 1 ≤ v.lane) (flying : v.flight ≡ Some f) (kind : Kind)
    (is_kind : kind_of k.end f.line (f.line + f.lines) ≡ kind) (version : ℕ) (entered : v.epoch ≡ Confirmed version)
    (ready : IsReady (KnowsActive v.about v.learned) version kind v.lane f) where
  -- which texts the pass knows to be active
  abbrev active : ℕ → List (ℕ × List ℕ) → Type 0
  active = KnowsActive v.about v.learned

  -- the view afterwards
  abbrev pub publisher : View
  publisher = view' r id at f flying kind is_kind version ready

  -- the world afterwards
  abbrev pub publication : World
  publication = world' r id at f flying kind is_kind version ready

  -- the directory afterwards
  abbrev dir' : ℕ → ℕ
  dir' = publication.dir

  -- what is so of the record in flight
  own : InFlight k w.count w.dir w.log r.start r.lane_of v.lane f
  own = flight_is r id at f flying

  -- other numbers' words stay
  others_stay : (n : ℕ) → n ≢ f.number → dir' n ≡ w.dir n
  others_stay = dir_else r id at f flying kind is_kind version ready

  -- the own word tells the kind
  knows_kind : high (dir' f.number) ≡ code kind
  knows_kind = kind_here r id at f flying kind is_kind version ready

  -- nothing that lasts has changed
  final : Kept r publication
  final = publish_final r id at f flying kind is_kind version ready

  -- ---- own numbers

  -- a record that was published before, or this one
  pub stored_now : (l n : ℕ) → IsStoredBy k w.count dir' r.lane_of l n
      → (IsStoredBy k w.count w.dir r.lane_of l n) ⊎ ((n ≡ f.number) × (v.lane ≡ l) × (kind ≡ Stored))
  stored_now l n h = pick (ℕ_discrete n f.number)
    where
      pick : Dec (n ≡ f.number) → (IsStoredBy k w.count w.dir r.lane_of l n)
          ⊎ ((n ≡ f.number) × (v.lane ≡ l) × (kind ≡ Stored))
      pick (yes e) = inr (
        e,
        sym own.owner ∙ ap r.lane_of (sym e) ∙ h.lane,
        code_once kind Stored
            (sym knows_kind ∙ ap (λ (z : ℕ). high (dir' z)) (sym e) ∙ h.stored),
      )
      pick (no ne) = inl (record {
        above = h.above;
        below = h.below;
        stored = ap high (sym (others_stay n ne)) ∙ h.stored;
        lane = h.lane;
      })

  -- other passes' own numbers stay exact
  others_own : (j : ℕ) (u : View) → j ≢ id → get_elem? w.views j ≡ some u
      → Owns k w.count dir' r.lane_of u.lane u.out u.own
  others_own j u ne at_u =
      let h = r.own j u at_u in
      record {
        sound = λ o m. let s = h.sound o m in
            (s.0, stored_later final o.lane o.number s.1);
        complete = λ o has stored. ⊎_elim
            (λ (b : IsStoredBy k w.count w.dir r.lane_of o.lane o.number). h.complete o has b)
            (λ (t : (o.number ≡ f.number) × (v.lane ≡ o.lane) × (kind ≡ Stored)).
            absurd (ne (r.seats.apart j id u v o.lane at_u at has
            (subst (Has v.lane v.out) t.1 (has_own w.views id v at live r.seats)))))
            (stored_now o.lane o.number stored);
      }

  -- without a record there is none more
  no_more : kind ≢ Stored → Owns k w.count dir' r.lane_of v.lane v.out v.own
  no_more ne = owns_later final v.lane v.out v.own (r.own id v at)
      (λ o has h. ⊎_elim (λ (b : IsStoredBy k w.count w.dir r.lane_of o.lane o.number).
      (b.below, published (w.dir o.number) Stored b.stored))
      (λ (t : (o.number ≡ f.number) × (v.lane ≡ o.lane) × (kind ≡ Stored)). absurd (ne t.2))
      (stored_now o.lane o.number h))

  -- the pass's own numbers are exact afterwards
  own_own : (kd : Kind) → kind ≡ kd → Owns k w.count dir' r.lane_of v.lane v.out (own_after kd v.lane f.number v.own)
  own_own Stored is =
      let h = r.own id v at in
      record {
        sound = λ o m. ⊎_elim
            (λ (a : Among o v.own). let s = h.sound o a in (
              s.0,
              stored_later final o.lane o.number s.1,
            ))
            (λ (a : Among o (record { lane = v.lane; number = f.number } ∷ [])). newest o a)
            (among_either o v.own (record { lane = v.lane; number = f.number } ∷ []) m);
        complete = λ o has stored. ⊎_elim
            (λ (b : IsStoredBy k w.count w.dir r.lane_of o.lane o.number). among_left o v.own _ (h.complete o has b))
            (λ (t : (o.number ≡ f.number) × (v.lane ≡ o.lane) × (kind ≡ Stored)). among_right o v.own _
            (inl (λ i. record { lane = t.1 i; number = sym t.0 i })))
            (stored_now o.lane o.number stored);
      }
    where
      newest : (o : Own) → Among o (record { lane = v.lane; number = f.number } ∷ []) → Has v.lane v.out o.lane
          × IsStoredBy k w.count dir' r.lane_of o.lane o.number
      newest o (inr n) = elim n [ ]
      newest o (inl e) = subst (λ (z : Own). Has v.lane v.out z.lane
          × IsStoredBy k w.count dir' r.lane_of z.lane z.number) e (
            has_own w.views id v at live r.seats,
            record { above = own.above; below = own.below; stored = knows_kind ∙ ap code is; lane = own.owner },
          )
  own_own Void is = no_more (λ e. cc)
  own_own Mark is = no_more (λ e. cc)

  -- ---- facts

  -- what was known is so
  old_facts : Facts k w.count dir' w.log r.start v.learned
  old_facts = facts_later final (r.facts id v at)

  -- and so is what the pass learns of its region
  found_here : IsFound k w.count dir' r.start
      (record { number = f.number; kind = kind; line = f.line; lines = f.lines })
  found_here = record { above = own.above; below = own.below; kind = knows_kind; line = own.line; lines = own.lines }

  -- the words of a record are known from now on
  records_here : (kd : Kind) → kind ≡ kd → IsReady active version kd v.lane f
      → AllOf (IsRecorded k w.count dir' w.log r.start) (records_after kd f v.learned.records)
  records_here Stored is h = (
    record {
      above = own.above;
      below = own.below;
      stored = knows_kind ∙ ap code is;
      words = ap (body w.log) own.line
          ∙ own_body r id at f flying version h;
    },
    old_facts.records,
  )
  records_here Void is h = old_facts.records
  records_here Mark is h = old_facts.records

  -- what the pass has learned is so
  own_facts : Facts k w.count dir' w.log r.start (learned_after kind f v.learned)
  own_facts = assumption (old_facts, found_here, records_here kind refl ready)

  -- what the pass has learned of chains
  own_chained : Chained k dir' w.log publication.views w.head publisher.learned
  own_chained =
      let h = chained_later final (r.chained id v at) in
      record { nodes = h.nodes; least_previous = h.least_previous; least_heads = h.least_heads }

  -- a claim that shut the pass before still does
  old_shut : ShutOk k w.count dir' r.start v.shut
  old_shut = shut_later final v.shut (r.shuts id v at)

  -- a mark shuts the pass
  own_shut : (kd : Kind) → kind ≡ kd → ShutOk k w.count dir' r.start (shut_after kd f k.end v.shut)
  own_shut Stored is = old_shut
  own_shut Void is = old_shut
  own_shut Mark is = record {
    number = f.number;
    end = refl;
    past = mark-past k.end f.line (f.line + f.lines) (is_kind ∙ is);
    mark = assumption (own, knows_kind ∙ ap code is);
  }

  -- each published record has the keys of its version
  keyed : Keyed k w.count w.registry dir' w.log r.start r.lane_of r.version_of
  keyed = record { each = λ n above below stored. pick n above below stored (ℕ_discrete n f.number) }
    where
      pick : (n : ℕ) → k.number ≤ n → n < w.count → high (dir' n) ≡ code Stored → Dec (n ≡ f.number)
          → IsKeyed (AreActiveAt k w.registry) (r.version_of n) (r.lane_of n) n
          (r.start (suc n) - r.start n) (body w.log (r.start n))
      pick n above below stored (yes e) =
          subst (λ (z : ℕ). IsKeyed (AreActiveAt k w.registry) (r.version_of z) (r.lane_of z) z
          (r.start (suc z) - r.start z) (body w.log (r.start z))) (sym e)
          (own_keyed r id at f flying version live entered (subst (λ (z : Kind). IsReady active version z v.lane f)
          (code_once kind Stored (sym knows_kind ∙ ap (λ (z : ℕ). high (dir' z)) (sym e) ∙ stored)) ready))
      pick n above below stored (no ne) = r.keyed.each n above below (ap high (sym (others_stay n ne)) ∙ stored)

  -- a publication keeps the rule
  pub publish_region_kept : Rule k publication
  publish_region_kept = record {
    start = r.start;
    lane_of = r.lane_of;
    version_of = r.version_of;
    quota = r.quota;
    state = r.state;
    key_fits = r.key_fits;
    about = each_set _ w.views id publisher (λ j u ne at_u. r.about j u at_u) (r.about id v at);
    seats = seats_kept w.views id v publisher at refl refl r.seats;
    tails = each_set _ w.views id publisher (λ j u ne at_u. r.tails j u at_u) (r.tails id v at);
    space = publish_space r id at f flying kind is_kind version ready;
    limit = limit_views r.limit
        (may_kept w.views id v publisher at k.end r.quota refl refl (may_before k v f flying kind is_kind) r.limit.may);
    settling = publish_settling r id at f flying kind is_kind version ready;
    chains = publish_chains r id at f flying kind is_kind version ready;
    chained = each_chained r final id publisher own_chained;
    floors = each_set _ w.views id publisher (λ j u ne at_u. r.floors j u at_u) (r.floors id v at);
    own = each_set _ w.views id publisher (λ j u ne at_u. others_own j u ne at_u) (own_own kind refl);
    facts = each_facts r final id publisher own_facts;
    registry = registry_set k w.count w.registry r.state r.version_of w.views id publisher r.registry
        (r.registry.each id v at) tt;
    keyed = keyed;
    shuts = each_shut r final id publisher (own_shut kind refl);
    opens = each_opens r final id publisher (opens_later final v.learned.opens (r.opens id v at));
  }

  -- and all that lasts
  pub publish_region_lasts : Final k r.start publish_region_kept.start r.lane_of publish_region_kept.lane_of w publication
  unfolding publish_region_kept
  publish_region_lasts = final

-- a store of the own directory word
pub publish_region_allowed : (given k : Key) → given ≡ k → (size id : ℕ) (me : Sat) (f : Flight) (i x : ℕ)
    → me.0.about ≡ k → CanPublishRegion me.0 f → i ≡ dir_at k + (f.number - k.number)
    → x ≡ dir_word (flight_kind me.0 f) f.line
    → Allows (Ruled given) size id me i (λ _. x) (λ _. told_publish_region (step size i x 0 none) me x)
publish_region_allowed given k same size id me f i x about can is word =
    allowed given k same size id me i (λ _. x) (λ _. told_publish_region (step size i x 0 none) me x) (λ ws vs wide r at.
    let w : World = world k ws vs in
    let v' : View = after_publish_region me.0 f in
    let own = flight_is r id at f can.flying in
    let above = own.above in
    let below = own.below in
    let room = few_slots r in
    let ends : kind_of k.end f.line (f.line + f.lines) ≡ flight_kind me.0 f =
    ap (λ (z : Key). kind_of z.end f.line (f.line + f.lines)) (sym about) in
    let kept' = publish_region_kept r id at f can.live can.flying (flight_kind me.0 f) ends can.version can.entered
    can.ready in
    let kept : Rule k (record w { dir = put w.dir f.number x; views = set vs id v' }) =
    subst (λ (z : ℕ × Key). Rule k (record w {
      dir = put w.dir f.number z.0;
      views = set vs id (Rattle.fish_rule.proofs.basics.Flights.publisher_at me.0 f z.1);
    }))
    (λ j. (sym word j, sym about j)) kept' in
    let moved = world-dir k ws vs (set vs id v') f.number i x above (omega arith) is wide in (
      v',
      subst (Rule k) (sym moved) kept,
      λ g flying.
          let e : f ≡ g = Rattle.fish_rule.proofs.basics.Flights.one_flight f g (sym can.flying ∙ flying) in
          record {
            view = ap (after_publish_region me.0) e;
            held = refl;
            stands = subst (λ (z : Flight). IsOfMoment (after_publish_region me.0 z)) e
                (stands k _ id v' kept about (there vs id me.0 v' at));
          },
    ))
