-- A store of a word of the region in flight that is no linked one leaves records, what is linked, and all that lasts.
use Rattle.std.proofs.Common.{◌≡◌, ◌≢◌, ℕ, ◌+◌, ◌-◌, ◌*◌, ◌<◌, ◌≤◌, suc, List, set, sym, refl, ap, ◌∙◌, subst, inl}
use Rattle.std.proofs.Common.{inr, ⊎_elim, arith, Some}
use Rattle.std.proofs.Math.Decide.{ℕ_discrete, dec_le}
use Rattle.fish_rule.proofs.basics.Context.{Clock, Flight, Key, Rule, View, World, get_elem?, some}
use Rattle.fish_layout.proofs.Clearing.{cleared_head, cleared_same}
use Rattle.fish_layout.proofs.Spelled.{spelled_lines}
use Rattle.fish_layout.specs.Cleared.{IsKeyWord, entry_at}
use Rattle.fish_layout.specs.Header.{keys_of, lines_of}
use Rattle.fish_rule.proofs.basics.Lasts.{Kept}
use Rattle.fish_rule.proofs.basics.Bodies.{body_same}
use Rattle.fish_rule.proofs.basics.Regions.{flight_behind, one_region}
use Rattle.fish_rule.proofs.basics.Stores.{Becomes}
use Rattle.fish_rule.proofs.basics.Flights.{one_flight, flight_is}
use Rattle.fish_rule.proofs.classes.OtherViews.{one_view}
use Rattle.fish_rule.proofs.classes.ChainsStay.{chains_same, linked_map, linking_from, linking_own, linking_to}
use Rattle.fish_rule.proofs.basics.Places.{IsFlier, RecordAt, record_at, which}
use Rattle.fish_rule.proofs.basics.Worlds.{put-else}
use Rattle.fish_rule.specs.Chains.{IsLinking, IsStoredAt, Linked, LinksAt, Shows, Chain}
use Rattle.fish_rule.specs.Parts.{InFlight, first_head}
use Rattle.fish_rule.specs.Regions.{kind_of}
use Rattle.fish_rule.specs.Views.{IsFlightOf}
use Rattle.fish_rule.specs.World.{body, put}
use Rattle.fish_rule.proofs.basics.RegistryWords.{endures_same}
use Rattle.fish_rule.specs.declared.view.Kind.TheVariants.{Void}

module _ {k : Key} {w : World} (r : Rule k w) (id : ℕ) {v : View} (at : get_elem? w.views id ≡ some v) (f : Flight)
    (flying : v.flight ≡ Some f) (o x : ℕ) (words' : List ℕ) (clock : Clock)
    (becomes : Becomes (f.lines * 4) f.linked o x (IsKeyWord (keys_of (body w.log f.line 0)) o)
    (kind_of k.end f.line (f.line + f.lines) ≡ Void) f.words words') where
  -- the record in flight afterwards
  abbrev pub flight' : Flight
  flight' = record f { words = words' }

  -- the view afterwards
  abbrev pub view' : View
  view' = record v { flight = Some flight'; clock = clock }

  -- the place of the word
  abbrev pub word_place : ℕ
  word_place = f.line * 4 + o

  -- the world afterwards
  abbrev pub world' : World
  world' = record w { log = put w.log word_place x; views = set w.views id view' }

  -- what is so of the record in flight
  own : InFlight k w.count w.dir w.log r.start r.lane_of v.lane f
  own = flight_is r id at f flying

  -- a place in the region of another number is another place
  pub elsewhere : (n p : ℕ) → k.number ≤ n → n < w.count → n ≢ f.number → r.start n * 4 ≤ p
      → p < r.start (suc n) * 4 → put w.log word_place x p ≡ w.log p
  elsewhere n p above below ne from to = put-else w.log word_place x p (λ e.
      let line = own.line in
      let lines = own.lines in
      let more = becomes.within in
      ne (one_region k w.count w.line r.start r.space.regions n f.number p above below own.above own.below from to
      (omega arith) (omega arith)))

  -- the words of the region of another number stay
  region_stays : (n : ℕ) → k.number ≤ n → n < w.count → n ≢ f.number
      → lines_of (body w.log (r.start n) 0) ≤ r.start (suc n) - r.start n
      → body world'.log (r.start n) ≡ body w.log (r.start n)
  region_stays n above below ne lined =
      let grows = r.space.regions.grows n above below in
      body_same w.log world'.log (r.start n) (r.start (suc n) - r.start n) (omega arith) lined
      (λ i less. elsewhere n (r.start n * 4 + i) above below ne (omega arith) (omega arith))

  -- the words of published regions stay
  bodies_stay : (n : ℕ) → n < w.count → w.dir n ≢ 0 → body world'.log (r.start n) ≡ body w.log (r.start n)
  bodies_stay n below set_ = pick (dec_le k.number n)
    where
      pick : Dec (k.number ≤ n) → body world'.log (r.start n) ≡ body w.log (r.start n)
      pick (no h) = absurd (set_ (r.space.dir_below n (omega arith)))
      pick (yes above) = region_stays n above below (λ e. set_ (ap w.dir e ∙ own.unpublished))
          (r.space.finished n above below set_).lined

  -- once entries are linked, the own record stays
  pub own_stays : 0 < f.linked → body world'.log f.line ≡ body w.log f.line
  own_stays some_ =
      let key = (becomes.linking some_).0 in
      let head : body w.log f.line 0 ≡ w.log (f.line * 4 + 0) = cleared_head (λ i. w.log (f.line * 4 + i)) in
      cleared_same (λ i. w.log (f.line * 4 + i)) (λ i. world'.log (f.line * 4 + i)) (λ i within plain.
      put-else w.log word_place x (f.line * 4 + i)
      (λ e. let same : o ≡ i = omega arith in
      plain (subst (λ (z : ℕ × ℕ). IsKeyWord (keys_of z.0) z.1) (λ j. (head j, same j)) key)))

  -- a line that shows an entry keeps its record
  shown_stays : (a c : ℕ) → Shows k w.dir w.views a c → body world'.log a ≡ body w.log a
  shown_stays a c shows = pick (ℕ_discrete s.number f.number)
    where
      s : RecordAt r a c
      s = record_at r a c shows

      mine : (s.number ≡ f.number) → (0 < f.linked)
      mine e = ⊎_elim (λ (set_ : w.dir s.number ≢ 0). absurd (set_ (ap w.dir e ∙ own.unpublished)))
          (λ (t : (w.dir s.number ≡ 0) × IsFlier w s.number c).
          let q = t.1 in
          let same : q.seat ≡ id = r.space.alone q.seat id q.view v f.number q.at at
          (subst (IsFlightOf f.number) (sym q.flies) (q.number ∙ e))
          (subst (IsFlightOf f.number) (sym flying) refl) in
          let view : q.view ≡ v = one_view w.views id q.view v
          (subst (λ (z : ℕ). get_elem? w.views z ≡ some q.view) same q.at) at in
          let flight : q.flight ≡ f = one_flight q.flight f (sym q.flies ∙ ap (λ (z : View). z.flight) view ∙ flying) in
          let counts : c < f.linked = subst (λ (z : Flight). c < z.linked) flight q.counts in omega arith) s.owner

      pick : Dec (s.number ≡ f.number) → body world'.log a ≡ body w.log a
      pick (yes e) =
          let line : a ≡ f.line = sym s.line ∙ ap r.start e ∙ own.line in
          subst (λ (z : ℕ). body world'.log z ≡ body w.log z) (sym line) (own_stays (mine e))
      pick (no ne) = subst (λ (z : ℕ). body world'.log z ≡ body w.log z) s.line
          (region_stays s.number s.above s.below ne
          (let l = s.record_of.1 in let q = spelled_lines l.spells in let m = l.lines_is in
          subst (λ (z : ℕ). lines_of (body w.log z 0) ≤ r.start (suc s.number) - r.start s.number) (sym s.line)
          (omega arith)))

  -- the word is no linked one
  pub not_linked : (b p : ℕ) → Linked k w.dir w.log w.views b p → p ≢ word_place
  not_linked b p h e =
      let s = record_at r h.line h.entry h.shows in
      let line = own.line in
      let lines = own.lines in
      let within = becomes.within in
      let same = which r b p h s f.number own.above own.below (omega arith) (omega arith) in
      let p_is : p ≡ h.line * 4 + (1 + 3 * h.entry) = h.is.is in
      let at_line : h.line ≡ f.line = same.1 ∙ line in
      let offset : o ≡ entry_at h.entry = omega arith in
      ⊎_elim (λ (set_ : w.dir s.number ≢ 0). absurd (set_ (ap w.dir same.0 ∙ own.unpublished)))
      (λ (t : (w.dir s.number ≡ 0) × IsFlier w s.number h.entry).
      let q = t.1 in
      let seat : q.seat ≡ id = r.space.alone q.seat id q.view v f.number q.at at
      (subst (IsFlightOf f.number) (sym q.flies) (q.number ∙ same.0))
      (subst (IsFlightOf f.number) (sym flying) refl) in
      let view : q.view ≡ v = one_view w.views id q.view v
      (subst (λ (z : ℕ). get_elem? w.views z ≡ some q.view) seat q.at) at in
      let flight : q.flight ≡ f = one_flight q.flight f (sym q.flies ∙ ap (λ (z : View). z.flight) view ∙ flying) in
      becomes.unlinked (h.entry, subst (λ (z : Flight). h.entry < z.linked) flight q.counts, offset)) s.owner

  -- what is linked in flight stays so
  keep_linked : (a c : ℕ) → LinksAt a c v.flight → LinksAt a c view'.flight
  keep_linked a c h = subst (LinksAt a c) flying h

  -- and none else is
  back_linked : (a c : ℕ) → LinksAt a c view'.flight → LinksAt a c v.flight
  back_linked a c h = subst (LinksAt a c) (sym flying) h

  -- linked places stay linked
  links_stay : (b p : ℕ) → Linked k w.dir w.log w.views b p → Linked k w.dir world'.log world'.views b p
  links_stay = linked_map k w.dir w.dir w.log world'.log w.views world'.views
      (λ a c h. ⊎_elim (λ (s : IsStoredAt k w.dir a). inl s)
      (λ (l : IsLinking a c w.views). inr
      (linking_to w.views id v view' at a c (keep_linked a c) l)) h) shown_stays

  -- what is shown afterwards was shown before
  shows_back : (a c : ℕ) → Shows k w.dir world'.views a c → Shows k w.dir w.views a c
  shows_back a c h = ⊎_elim (λ (s : IsStoredAt k w.dir a). inl s)
      (λ (l : IsLinking a c world'.views). inr
      (linking_from w.views id v view' at a c (λ g. linking_own w.views id v view' at a c (back_linked a c g)) l)) h

  -- and what is linked was
  links_back : (b p : ℕ) → Linked k w.dir world'.log world'.views b p → Linked k w.dir w.log w.views b p
  links_back = linked_map k w.dir w.dir world'.log w.log world'.views w.views shows_back
      (λ a c h. sym (shown_stays a c (shows_back a c h)))

  -- and chains are as they were
  pub write_chains : (b : ℕ) → Chain (Linked k w.dir world'.log world'.views b) (first_head k b) (w.head b) world'.log
  write_chains = chains_same k w.dir w.dir w.log world'.log w.views world'.views w.head links_stay links_back
      (λ b p h. put-else w.log word_place x p (not_linked b p h)) r.chains

  -- nothing that lasts has changed
  pub write_final : Kept r world'
  write_final = record {
    counts = omega arith;
    lines = omega arith;
    settles = omega arith;
    registered = endures_same k w.registry;
    heads = λ b. omega arith;
    links = links_stay;
    rises = λ b p h. (let e = put-else w.log word_place x p (not_linked b p h) in omega arith);
    starts = λ n h. refl;
    lanes = λ n h. refl;
    dirs = λ n h e. refl;
    bodies = bodies_stay;
    below = λ p from less. (let behind = flight_behind r v.lane f own from in
        put-else w.log word_place x p (λ h. omega arith));
  }
