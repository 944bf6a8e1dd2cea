-- A store of a word of the region in flight that is no linked one: the next word, or an entry's own first word.
use Rattle.std.proofs.Common.{◌≡◌, ◌≢◌, ℕ, ◌+◌, ◌*◌, ◌<◌, ◌≤◌, List, length, get_or, sym, refl, ap, ◌∙◌, subst, arith}
use Rattle.std.proofs.Common.{Some, None, Option}
use Rattle.std.proofs.Math.Decide.{ℕ_discrete}
use Rattle.fish_rule.proofs.basics.Context.{Clock, Final, Flight, Key, Rule, View, World, get_elem?, some}
use Rattle.fish_layout.specs.Cleared.{IsKeyWord}
use Rattle.fish_layout.specs.Header.{keys_of}
use Rattle.fish_rule.proofs.basics.Lasts.{Kept}
use Rattle.fish_rule.proofs.basics.Bodies.{published}
use Rattle.fish_rule.proofs.basics.Regions.{ends_within}
use Rattle.fish_rule.proofs.basics.Lists.{each_set, seats_kept}
use Rattle.fish_rule.proofs.basics.Stores.{Becomes}
use Rattle.fish_rule.proofs.basics.Flights.{flight_is, carried_is}
use Rattle.fish_rule.proofs.classes.OtherViews.{limit_views, alone_kept, flight_there, may_kept, registry_set}
use Rattle.fish_rule.proofs.classes.FactsStay.{chained_later, facts_later, finished_later, flight_later, keyed_kept}
use Rattle.fish_rule.proofs.classes.ChainsStay.{whole_later}
use Rattle.fish_rule.proofs.basics.Worlds.{put-else, put-here}
use Rattle.fish_rule.specs.Parts.{Flies, InFlight, IsLinkedWord, IsWholeFlight}
use Rattle.fish_rule.specs.Regions.{IsRecord, kind_of}
use Rattle.fish_rule.specs.Views.{IsFlightOf, IsOver}
use Rattle.fish_rule.specs.World.{body, put}
use Rattle.fish_rule.specs.Epochs.{IsFlightCarried}
use Rattle.fish_rule.specs.Keys.{IsKeyed}
use Rattle.fish_rule.specs.Registry.{AreActiveAt}
use Rattle.fish_rule.specs.declared.view.Kind.TheVariants.{Stored, Void}
use Rattle.fish_rule.proofs.classes.WordsStay.{elsewhere, flight', own_stays, word_place, view', world', write_chains}
use Rattle.fish_rule.proofs.classes.WordsStay.{write_final}
use Rattle.fish_rule.proofs.classes.PassesKnow.{each_chained, each_facts}

module _ {k : Key} {w : World} (r : Rule k w) (id : ℕ) {v : View} (at : get_elem? w.views id ≡ some v) (f : Flight)
    (flying : v.flight ≡ Some f) (o x : ℕ) (words' : List ℕ) (clock : Clock)
    (becomes : Becomes (f.lines * 4) f.linked o x (IsKeyWord (keys_of (body w.log f.line 0)) o)
    (kind_of k.end f.line (f.line + f.lines) ≡ Void) f.words words') where
  -- the record in flight afterwards
  abbrev pub rewritten : Flight
  rewritten = flight' r id at f flying o x words' clock becomes

  -- the view afterwards
  abbrev pub writer : View
  writer = view' r id at f flying o x words' clock becomes

  -- the place of the word
  abbrev pub own_word : ℕ
  own_word = word_place r id at f flying o x words' clock becomes

  -- the world afterwards
  abbrev pub written : World
  written = world' r id at f flying o x words' clock becomes

  -- what is so of the record in flight
  own : InFlight k w.count w.dir w.log r.start r.lane_of v.lane f
  own = flight_is r id at f flying

  -- nothing that lasts has changed
  final : Kept r written
  final = write_final r id at f flying o x words' clock becomes

  -- the record in flight has the new words
  own_flight : InFlight k w.count w.dir written.log r.start r.lane_of v.lane rewritten
  own_flight = record {
    above = own.above;
    below = own.below;
    line = own.line;
    lines = own.lines;
    unpublished = own.unpublished;
    owner = own.owner;
    latest = own.latest;
    live = own.live;
    short = becomes.fits;
    written = λ i less plain. words i less plain (ℕ_discrete i o);
    unwritten = λ i more less. (let h = becomes.here in let l = becomes.longer in
        put-else w.log own_word x (f.line * 4 + i) (λ e. omega arith) ∙ own.unwritten i (omega arith) less);
    whole = λ some_. whole_still some_ (own.whole some_);
    header = becomes.header;
  }
    where
      words : (i : ℕ) → i < length words' → ¬ IsLinkedWord f.linked i → Dec (i ≡ o)
          → put w.log own_word x (f.line * 4 + i) ≡ get_or words' i 0
      words i less plain (yes e) = ap (λ (z : ℕ). put w.log own_word x (f.line * 4 + z)) e
          ∙ put-here w.log own_word x ∙ sym becomes.value ∙ ap (λ (z : ℕ). get_or words' z 0) (sym e)
      words i less plain (no ne) =
          let s = becomes.same i ne less in
          put-else w.log own_word x (f.line * 4 + i) (λ h. ne (omega arith)) ∙ own.written i s.0 plain ∙ sym s.1

      whole_still : 0 < f.linked → IsWholeFlight k w.log v.lane f → IsWholeFlight k written.log v.lane rewritten
      whole_still some_ h =
          let e = own_stays r id at f flying o x words' clock becomes some_ in
          let l = (becomes.linking some_).1 in
          record {
            kind = h.kind;
            full = l ∙ h.full;
            record_of = subst (IsRecord v.lane f.number f.lines) (sym e) h.record_of;
            upto = subst (λ (z : ℕ → ℕ). f.linked ≤ keys_of (z 0)) (sym e) h.upto;
          }

  -- the records in flight with others stay
  others_fly : (j : ℕ) (u : View) → j ≢ id → get_elem? w.views j ≡ some u → (q : Option Flight) → u.flight ≡ q
      → Flies k w.count w.dir w.log r.start r.lane_of u.lane q
      → Flies k w.count w.dir written.log r.start r.lane_of u.lane q
  others_fly j u ne at_u None is h = h
  others_fly j u ne at_u (Some g) is h =
      let other : g.number ≢ f.number = λ e. ne
      (r.space.alone j id u v g.number at_u at (subst (IsFlightOf g.number) (sym is) refl)
      (subst (IsFlightOf g.number) (sym flying) (sym e))) in
      let line = h.line in
      let lines = h.lines in
      let grows = r.space.regions.grows g.number h.above h.below in
      let same : (i : ℕ) → i < g.lines * 4 → written.log (g.line * 4 + i) ≡ w.log (g.line * 4 + i) =
      λ i less. elsewhere r id at f flying o x words' clock becomes g.number (g.line * 4 + i) h.above
      h.below other (omega arith) (omega arith) in
      flight_later final u.lane g h h.unpublished (λ n more less. absurd (omega arith)) same
      (λ some_. whole_later k w.log written.log u.lane g (omega arith) same (h.whole some_))

  -- the record in flight keeps its version, and its keys once entries are linked
  own_carried : IsFlightCarried k w.registry r.version_of v.lane v.epoch rewritten
  own_carried =
      let h = carried_is r id at f flying in
      record {
        entered = h.entered;
        keyed = λ some_. subst (λ (z : ℕ → ℕ). IsKeyed (AreActiveAt k w.registry) (r.version_of f.number) v.lane
            f.number f.lines z) (sym (becomes.linking some_).2) (h.keyed some_);
      }

  -- a store keeps the rule
  pub write_kept : Rule k written
  write_kept = record {
    start = r.start;
    lane_of = r.lane_of;
    version_of = r.version_of;
    quota = r.quota;
    state = r.state;
    key_fits = r.key_fits;
    about = each_set _ w.views id writer (λ j u ne at_u. r.about j u at_u) (r.about id v at);
    seats = seats_kept w.views id v writer at refl refl r.seats;
    tails = each_set _ w.views id writer (λ j u ne at_u. r.tails j u at_u) (r.tails id v at);
    space = record {
      regions = r.space.regions;
      finished =
          λ n above below set_. finished_later final n below set_
          (r.space.finished n above below set_);
      flying = λ n above below unset. flight_there w.views id v writer at n
          (λ h. subst (IsFlightOf n) flying h) (r.space.flying n above below unset);
      flights = each_set _ w.views id writer
          (λ j u ne at_u. others_fly j u ne at_u u.flight refl (r.space.flights j u at_u)) own_flight;
      alone = alone_kept w.views id v writer at (λ n h. subst (IsFlightOf n) (sym flying) h) r.space.alone;
      dir_below = r.space.dir_below;
      dir_beyond = r.space.dir_beyond;
      log_beyond = λ p more. (let e =
          ends_within k w.count w.line r.start r.space.regions f.number own.above own.below in
          let lines = own.lines in let room = becomes.within in
          put-else w.log own_word x p (λ h. omega arith) ∙ r.space.log_beyond p more);
    };
    limit = limit_views r.limit
        (may_kept w.views id v writer at k.end r.quota refl refl
        (λ h. (h.0, λ over. h.1 (subst (IsOver k.end) flying over))) r.limit.may);
    settling = r.settling;
    chains = write_chains r id at f flying o x words' clock becomes;
    chained = each_chained r final id writer (chained_later final (r.chained id v at));
    floors = each_set _ w.views id writer (λ j u ne at_u. r.floors j u at_u) (r.floors id v at);
    own = each_set _ w.views id writer (λ j u ne at_u. r.own j u at_u) (r.own id v at);
    facts = each_facts r final id writer (facts_later final (r.facts id v at));
    registry = registry_set k w.count w.registry r.state r.version_of w.views id writer r.registry
        (r.registry.each id v at) own_carried;
    keyed = keyed_kept final r.version_of r.version_of
        (λ n below. refl) r.keyed (λ n below stored. (below, published (w.dir n) Stored stored));
    shuts = each_set _ w.views id writer (λ j u ne at_u. r.shuts j u at_u) (r.shuts id v at);
    opens = each_set _ w.views id writer (λ j u ne at_u. r.opens j u at_u) (r.opens id v at);
  }

  -- and all that lasts
  pub write_lasts : Final k r.start write_kept.start r.lane_of write_kept.lane_of w written
  unfolding write_kept
  write_lasts = final
