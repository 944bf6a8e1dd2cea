-- What a publication leaves of the log's space: linked entries stay linked, and each number is published or in flight.
use Rattle.std.proofs.Common.{◌≡◌, ◌≢◌, ℕ, ◌+◌, ◌-◌, ◌<◌, ◌≤◌, suc, set, sym, refl, ap, ◌∙◌, subst, inl, inr, arith}
use Rattle.std.proofs.Common.{Some, None, Option}
use Rattle.std.proofs.Math.Decide.{ℕ_discrete}
use Rattle.fish_rule.proofs.basics.Context.{Flight, Key, Kind, Rule, View, World, get_elem?, some}
use Rattle.atomic_table.proofs.Lists.{set_else}
use Rattle.fish_layout.specs.Header.{keys_of, lines_of}
use Rattle.fish_rule.proofs.basics.Lasts.{Kept}
use Rattle.fish_rule.proofs.basics.Bodies.{code_once, high-pack, low-pack, published}
use Rattle.fish_rule.proofs.basics.Lists.{each_set}
use Rattle.fish_rule.proofs.classes.OtherViews.{alone_kept, flight_there, one_view}
use Rattle.fish_rule.proofs.classes.FactsStay.{finished_later, flight_later}
use Rattle.fish_rule.proofs.classes.ChainsStay.{chains_same, linked_counted, linking_from}
use Rattle.fish_rule.proofs.basics.Flights.{flight_is}
use Rattle.fish_rule.proofs.basics.ToPublish.{filled, own_body, small_line}
use Rattle.fish_rule.proofs.basics.Worlds.{put-else, put-here}
use Rattle.fish_rule.specs.Chains.{Linked, LinksAt, Shows, Chain}
use Rattle.fish_rule.specs.Parts.{Flies, InFlight, IsEntryWord, IsPublishedRegion, Settled, Space, first_head}
use Rattle.fish_rule.specs.Regions.{HoldsRegion, code, dir_word, kind_of}
use Rattle.fish_rule.specs.SpaceSteps.{IsReady, learned_after, own_after, shut_after, ticked}
use Rattle.fish_rule.specs.Views.{HasFlight, IsFlightOf}
use Rattle.fish_rule.specs.World.{body, high, low, put}
use Rattle.fish_rule.specs.declared.view.Kind.TheVariants.{Mark, Stored, Void}
use Rattle.fish_rule.proofs.basics.RegistryWords.{endures_same}
use Rattle.fish_rule.specs.Registry.{KnowsActive}

module _ {k : Key} {w : World} (r : Rule k w) (id : ℕ) {v : View} (at : get_elem? w.views id ≡ some v) (f : Flight)
    (flying : v.flight ≡ Some f) (kind : Kind) (is_kind : kind_of k.end f.line (f.line + f.lines) ≡ kind)
    (version : ℕ) (ready : IsReady (KnowsActive v.about v.learned) version kind v.lane f) where
  -- the view afterwards
  abbrev pub view' : View
  view' = record v {
    flight = None;
    shut = shut_after kind f k.end v.shut;
    own = own_after kind v.lane f.number v.own;
    learned = learned_after kind f v.learned;
    clock = ticked v.clock;
  }

  -- the word
  abbrev word : ℕ
  word = dir_word kind f.line

  -- the directory afterwards
  abbrev pub dir' : ℕ → ℕ
  dir' = put w.dir f.number word

  -- the world afterwards
  abbrev pub world' : World
  world' = record w { dir = dir'; views = set w.views id view' }

  -- what is so of the record in flight
  own : InFlight k w.count w.dir w.log r.start r.lane_of v.lane f
  own = flight_is r id at f flying

  -- other numbers' words stay
  pub dir_else : (n : ℕ) → n ≢ f.number → dir' n ≡ w.dir n
  dir_else n ne = put-else w.dir f.number word n ne

  -- the own word is the new one
  dir_here : dir' f.number ≡ word
  dir_here = put-here w.dir f.number word

  -- and tells the kind
  pub kind_here : high (dir' f.number) ≡ code kind
  kind_here = ap high dir_here ∙ high-pack (code kind) f.line (small_line r f v.lane own)

  -- a number that was published is another
  is_other : (n : ℕ) → w.dir n ≢ 0 → n ≢ f.number
  is_other n set_ e = set_ (ap w.dir e ∙ own.unpublished)

  -- ---- what is linked

  -- an entry that is linked in flight is of a record, which is shown from now on
  own_shows : (a c : ℕ) → LinksAt a c (Some f) → Shows k dir' (set w.views id view') a c
  own_shows a c h =
      let counts : c < f.linked = h.0 in
      let line : f.line ≡ a = h.1 in
      let stored : kind ≡ Stored = sym is_kind ∙ (own.whole (omega arith)).kind in
      inl (record {
        number = f.number;
        above = own.above;
        stored = kind_here ∙ ap code stored;
        line = ap low dir_here ∙ low-pack (code kind) f.line (small_line r f v.lane own) ∙ line;
      })

  -- what was shown still is
  shows_on : (a c : ℕ) → c < keys_of (body w.log a 0) → Shows k w.dir w.views a c
      → Shows k dir' (set w.views id view') a c
  shows_on a c few (inl s) =
      inl (record {
        number = s.number;
        above = s.above;
        stored = ap high (dir_else s.number (is_other s.number (published (w.dir s.number) Stored s.stored)))
            ∙ s.stored;
        line = ap low (dir_else s.number
            (is_other s.number (published (w.dir s.number) Stored s.stored))) ∙ s.line;
      })
  shows_on a c few (inr l) = pick (ℕ_discrete l.seat id)
    where
      pick : Dec (l.seat ≡ id) → Shows k dir' (set w.views id view') a c
      pick (yes e) =
          let same : l.view ≡ v = one_view w.views id l.view v
          (subst (λ (z : ℕ). get_elem? w.views z ≡ some l.view) e l.at) at in
          own_shows a c (subst (LinksAt a c) (ap (λ (z : View). z.flight) same ∙ flying) l.links)
      pick (no ne) = inr (record {
        seat = l.seat;
        view = l.view;
        at = set_else w.views id l.seat view' ne ∙ l.at;
        links = l.links;
      })

  -- what is shown now was shown
  shows_before : (a c : ℕ) → c < keys_of (body w.log a 0) → Shows k dir' (set w.views id view') a c
      → Shows k w.dir w.views a c
  shows_before a c few (inl s) = pick (ℕ_discrete s.number f.number)
    where
      all_linked : (kd : Kind) → kd ≡ Stored → IsReady (KnowsActive v.about v.learned) version kd v.lane f
          → f.linked ≡ keys_of (body w.log f.line 0)
      all_linked Stored e h = h.2 ∙ ap (λ (z : ℕ → ℕ). keys_of (z 0))
          (sym (own_body r id at f flying version h))
      all_linked Void e h = cc
      all_linked Mark e h = cc

      pick : Dec (s.number ≡ f.number) → Shows k w.dir w.views a c
      pick (yes e) =
          let here : f.line ≡ a = sym (low-pack (code kind) f.line (small_line r f v.lane own))
          ∙ ap low (sym dir_here) ∙ ap (λ (z : ℕ). low (dir' z)) (sym e) ∙ s.line in
          let stored : kind ≡ Stored = code_once kind Stored
          (sym kind_here ∙ ap (λ (z : ℕ). high (dir' z)) (sym e) ∙ s.stored) in
          let all : f.linked ≡ keys_of (body w.log f.line 0) = all_linked kind stored ready in
          let few' : c < keys_of (body w.log f.line 0) =
          subst (λ (z : ℕ). c < keys_of (body w.log z 0)) (sym here) few in
          inr (record { seat = id; view = v; at = at; links = subst (LinksAt a c) (sym flying) (omega arith, here) })
      pick (no ne) = inl (record {
        number = s.number;
        above = s.above;
        stored = ap high (sym (dir_else s.number ne)) ∙ s.stored;
        line = ap low (sym (dir_else s.number ne)) ∙ s.line;
      })
  shows_before a c few (inr l) = inr (linking_from w.views id v view' at a c (λ h. elim h [ ]) l)

  -- linked places stay linked
  links_on : (b p : ℕ) → Linked k w.dir w.log w.views b p → Linked k dir' w.log (set w.views id view') b p
  links_on = linked_counted k w.dir dir' w.log w.views (set w.views id view') shows_on

  -- and chains are as they were
  pub publish_chains : (b : ℕ) → Chain (Linked k dir' w.log (set w.views id view') b) (first_head k b) (w.head b) w.log
  publish_chains = chains_same k w.dir dir' w.log w.log w.views (set w.views id view') w.head links_on
      (linked_counted k dir' w.dir w.log (set w.views id view') w.views shows_before) (λ b p h. refl) r.chains

  -- ---- what lasts

  -- nothing that lasts has changed
  pub publish_final : Kept r world'
  publish_final = record {
    counts = omega arith;
    lines = omega arith;
    settles = omega arith;
    registered = endures_same k w.registry;
    heads = λ b. omega arith;
    links = links_on;
    rises = λ b p h. omega arith;
    starts = λ n h. refl;
    lanes = λ n h. refl;
    dirs = λ n h set_. dir_else n (is_other n set_);
    bodies = λ n h set_. refl;
    below = λ p from h. refl;
  }

  -- ---- regions

  -- the own region is a published one
  own_finished : IsPublishedRegion k dir' w.log r.start r.lane_of f.number
  own_finished =
      let h = filled r id at f flying version kind ready in
      let a : r.start f.number ≡ f.line = own.line in
      let b : r.start (suc f.number) ≡ f.line + f.lines = own.lines in
      let size : f.line + f.lines - f.line ≡ f.lines = omega arith in
      record {
        kind = kind_here ∙ ap code (sym is_kind)
            ∙ ap (λ (z : ℕ × ℕ). code (kind_of k.end z.0 z.1)) (λ i. (sym a i, sym b i));
        line = ap low dir_here ∙ low-pack (code kind) f.line (small_line r f v.lane own) ∙ sym a;
        lined = subst (λ (z : ℕ × ℕ). lines_of (body w.log z.0 0) ≤ z.1 - z.0) (λ i. (sym a i, sym b i))
            (subst (λ (z : ℕ). lines_of (body w.log f.line 0) ≤ z) (sym size) h.0);
        holds = subst (λ (z : ℕ × ℕ × ℕ). HoldsRegion (kind_of k.end z.0 z.1) z.2 f.number (z.1 - z.0)
            (body w.log z.0)) (λ i. (sym a i, sym b i, sym own.owner i))
            (subst (λ (z : Kind × ℕ). HoldsRegion z.0 v.lane f.number z.1 (body w.log f.line))
            (λ i. (sym is_kind i, sym size i)) h.1);
      }

  -- the records in flight with others stay
  others_fly : (j : ℕ) (u : View) → j ≢ id → get_elem? w.views j ≡ some u → (o : Option Flight) → u.flight ≡ o
      → Flies k w.count w.dir w.log r.start r.lane_of u.lane o → Flies k w.count dir' w.log r.start r.lane_of u.lane o
  others_fly j u ne at_u None is h = h
  others_fly j u ne at_u (Some g) is h =
      let other : g.number ≢ f.number = λ e. ne
      (r.space.alone j id u v g.number at_u at (subst (IsFlightOf g.number) (sym is) refl)
      (subst (IsFlightOf g.number) (sym flying) (sym e))) in
      flight_later publish_final u.lane g h
      (dir_else g.number other ∙ h.unpublished) (λ n more less. absurd (omega arith)) (λ i less. refl) h.whole

  -- each number is published or in flight
  pub publish_space : Space k w.count w.line dir' w.log (set w.views id view') r.start r.lane_of
  publish_space = record {
    regions = r.space.regions;
    finished = λ n above below set_. finish n above below set_ (ℕ_discrete n f.number);
    flying = λ n above below unset. fly n above below unset (ℕ_discrete n f.number);
    flights = each_set _ w.views id view'
        (λ j u ne at_u. others_fly j u ne at_u u.flight refl (r.space.flights j u at_u)) tt;
    alone = alone_kept w.views id v view' at (λ n h. elim h [ ]) r.space.alone;
    dir_below = λ n less. (let a = own.above in dir_else n (λ e. omega arith) ∙ r.space.dir_below n less);
    dir_beyond = λ n more. (let b = own.below in dir_else n (λ e. omega arith) ∙ r.space.dir_beyond n more);
    log_beyond = r.space.log_beyond;
  }
    where
      finish : (n : ℕ) → k.number ≤ n → n < w.count → dir' n ≢ 0 → Dec (n ≡ f.number)
          → IsPublishedRegion k dir' w.log r.start r.lane_of n
      finish n above below set_ (yes e) = subst (IsPublishedRegion k dir' w.log r.start r.lane_of) (sym e) own_finished
      finish n above below set_ (no ne) =
          let before : w.dir n ≢ 0 = λ e. set_ (dir_else n ne ∙ e) in
          finished_later publish_final n below before
          (r.space.finished n above below before)

      fly : (n : ℕ) → k.number ≤ n → n < w.count → dir' n ≡ 0 → Dec (n ≡ f.number)
          → HasFlight n (set w.views id view')
      fly n above below unset (yes e) = absurd (published (dir' f.number) kind kind_here (ap dir' (sym e) ∙ unset))
      fly n above below unset (no ne) = flight_there w.views id v view' at n
          (λ h. absurd (ne (sym (subst (IsFlightOf n) flying h))))
          (r.space.flying n above below (sym (dir_else n ne) ∙ unset))

  -- numbers below the settled one are published as they were
  pub publish_settling : Settled k w.count w.settled dir'
  publish_settling = record {
    from = r.settling.from;
    within = r.settling.within;
    below = λ n above below. subst IsEntryWord
        (sym (dir_else n (is_other n (r.settling.below n above below).published))) (r.settling.below n above below);
  }
