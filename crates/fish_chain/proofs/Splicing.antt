-- One turn below a linked entry: aim at its first word, and splice.
use Rattle.std.proofs.Common.{◌≡◌, ◌≢◌, ℕ, ◌-◌, ◌*◌, ◌<◌, ◌≤◌, ◌⊎◌, inl, ⊎_elim, suc, List, set, refl, sym, ap, ◌∙◌}
use Rattle.std.proofs.Common.{subst, arith, get_or-set_same}
use Rattle.std.proofs.Math.Decide.{ℕ_discrete}
use Rattle.fish_chain.proofs.Changes.{aim_changes, changed_next, link_aim, previous_changes, quiet_loaded, quiet_ticked}
use Rattle.fish_chain.proofs.Changes.{splice_changes, still_links}
use Rattle.fish_rule.proofs.laws.Descents.{previous_here}
use Rattle.fish_chain.specs.Links.{CanLink, Changed, IsLinked, with_linked}
use Rattle.fish_chain.specs.within.Links.{CanLinkBelow, IsLinkBelow}
use Rattle.fish_layout.proofs.Clearing.{choose_first, choose_second}
use Rattle.fish_layout.specs.Cleared.{entry_at}
use Rattle.fish_rule.proofs.laws.Links.{not_own, own_behind, own_word}
use Rattle.fish_rule.specs.ChainSteps.{CanAimEntry, CanSpliceEntry, HasNode, PreviousRises, after_aim_entry}
use Rattle.fish_rule.specs.ChainSteps.{after_load_previous, after_splice_entry}
use Rattle.fish_rule.specs.ChainSteps.{aimed_at, own_place, previous_seen, spliced}
use Rattle.fish_rule.specs.SpaceSteps.{loaded, ticked}
use Rattle.fish_rule.specs.declared.view.Clock.{Clock}
use Rattle.fish_rule.specs.Table.{IsOfMoment}
use Rattle.fish_rule.specs.Views.{Among}
use Rattle.fish_rule.specs.declared.view.Flight.{Flight}
use Rattle.fish_rule.specs.declared.view.View.{View}

-- the entry at a place is to be linked below the one at q, whose first word was last seen to be x
pub record IsSplicing (v : View) (q place x : ℕ) (u : View) : Type 0 where
  pub flight : Flight
  pub bucket : ℕ
  pub under : CanLinkBelow v flight bucket q place
  pub words : List ℕ
  pub changed : Changed v flight words flight.linked u
  pub higher : HasNode u bucket q
  pub low : Among (record { place = q; value = x }) u.learned.least_previous
  pub node : (x ≤ u.about.line * 4) ⊎ HasNode u bucket x
  pub less : x < q

module _ (v : View) (q place : ℕ) (f : Flight) (b : ℕ) (under : CanLinkBelow v f b q place) where
  -- a first word that was seen
  seen_low : (u t : View) (x : ℕ) (words : List ℕ) (clock : Clock) → Changed v f words f.linked t
      → t ≡ previous_seen u b q x clock → x < q → IsSplicing v q place x t
  seen_low u t x words clock c is less =
      let learned = ap (λ (z : View). z.learned) is in
      record {
        flight = f;
        bucket = b;
        under = under;
        words = words;
        changed = c;
        higher = c.learns.nodes (record { bucket = b; place = q }) under.node;
        low = subst (λ z. Among (record { place = q; value = x }) z.least_previous) (sym learned) (inl refl);
        node = subst (λ (z : View). (x ≤ z.about.line * 4) ⊎ HasNode z b x) (sym is) (previous_here u b q x);
        less = less;
      }

  -- the first load
  pub splice_begins : (t : View) (x : ℕ) → t ≡ after_load_previous v b q x → x < q → IsSplicing v q place x t
  splice_begins t x is less = seen_low v t x f.words (loaded v.clock)
      (previous_changes v t f b q x (loaded v.clock) (quiet_loaded v.clock) under.can.filled.flying is) is less

  -- an exchange after other steps that wasn't made
  pub splice_goes : (u t : View) (x : ℕ) (words : List ℕ) → Changed v f words f.linked u
      → t ≡ previous_seen u b q x (ticked u.clock) → x < q → IsSplicing v q place x t
  splice_goes u t x words c is less =
      seen_low u t x words (ticked u.clock) (changed_next v u t f words words f.linked c
      (previous_changes u t (with_linked f words f.linked) b q x (ticked u.clock) (quiet_ticked u.clock)
      (ap (λ (z : View). z.flight) c.known) is)) is less

module _ (v u : View) (q place x : ℕ) (s : IsSplicing v q place x u) where
  -- the record in flight
  abbrev pub splicing : Flight
  splicing = with_linked s.flight s.words s.flight.linked

  -- its entry may be linked
  splice_links : CanLink u splicing splicing.linked s.bucket
  splice_links = still_links v u s.flight s.words s.bucket s.changed s.under.can

  -- and aimed
  pub splice_aim : CanAimEntry u splicing
  splice_aim = link_aim u splicing s.bucket splice_links

  -- a first word that isn't below the own place is the place of a linked entry above it
  pub splice_over : IsOfMoment u → place ≤ x → IsLinkBelow v s.flight s.bucket x u
  splice_over stands over =
      let at : place ≡ own_place s.flight = s.under.at in
      let behind = own_behind u splicing stands splice_aim in
      let node : HasNode u s.bucket x = ⊎_elim (λ (e : x ≤ u.about.line * 4). absurd (omega arith))
      (λ (n : HasNode u s.bucket x). n) s.node in
      let other : x ≢ own_place s.flight = not_own u splicing s.bucket x stands splice_aim node in
      record { words = s.words; changed = s.changed; node = node; above = omega arith }

  -- its words once its entry is aimed at the first word above
  abbrev aims : List ℕ
  aims = set s.words (entry_at s.flight.linked) x

  module _ (t : View) (is : t ≡ after_aim_entry u splicing x) where
    -- the changes up to the aim
    aimed : Changed v s.flight aims s.flight.linked t
    aimed = changed_next v u t s.flight s.words aims s.flight.linked s.changed
        (aim_changes u t splicing x splice_links.more is)

    -- what was known of the first word still is
    aimed_low : Among (record { place = q; value = x }) t.learned.least_previous
    aimed_low = subst (λ z. Among (record { place = q; value = x }) z.least_previous)
        (sym (ap (λ (z : View). z.learned) is)) s.low

    -- and the higher entry
    pub aimed_node : HasNode t s.bucket q
    aimed_node = subst (λ z. Among (record { bucket = s.bucket; place = q }) z.nodes)
        (sym (ap (λ (z : View). z.learned) is)) s.higher

    -- the entry may be spliced in
    pub splice_can : IsOfMoment u → x < place → CanSpliceEntry t (aimed_at splicing x) s.bucket q x
    splice_can stands less =
        let links : CanLink t (aimed_at splicing x) splicing.linked s.bucket =
        still_links v t s.flight aims s.bucket aimed s.under.can in
        let at : place ≡ own_place s.flight = s.under.at in
        let over = s.under.over in
        record {
          aim = link_aim t (aimed_at splicing x) s.bucket links;
          bucket = links.of_bucket;
          node = aimed_node;
          below = omega arith;
          aimed = get_or-set_same splicing.words (entry_at splicing.linked) x 0 (own_word u splicing stands splice_aim);
          less = omega arith;
        }

    -- where the first word was the one seen, the entry is linked
    pub splice_hit : (w : View) (y : ℕ) → y ≡ x → w ≡ after_splice_entry t (aimed_at splicing x) s.bucket q x y
        → IsLinked v s.flight s.bucket w
    splice_hit w y hit was =
        let made : w ≡ spliced t (aimed_at splicing x) s.bucket q = was ∙ choose_first (ℕ_discrete y x) _ _ hit in
        record {
          words = aims;
          changed = changed_next v t w s.flight aims aims (suc s.flight.linked) aimed
              (splice_changes t w (aimed_at splicing x) s.bucket q made);
          node = subst (λ (z : View). HasNode z s.bucket (own_place s.flight)) (sym made) (inl refl);
        }

    -- else the value found is higher, and the next to try
    pub splice_miss : (w : View) (y : ℕ) → y ≢ x → y < q
        → w ≡ after_splice_entry t (aimed_at splicing x) s.bucket q x y → IsSplicing v q place y w
    splice_miss w y miss less was =
        let seen : w ≡ previous_seen t s.bucket q y (ticked t.clock) = was ∙ choose_second (ℕ_discrete y x) _ _ miss in
        splice_goes v q place s.flight s.bucket s.under t w y aims aimed seen less

    -- so fewer places are left
    pub splice_falls : (y : ℕ) → PreviousRises t q y → y ≢ x → x < place → place - y < place - x
    splice_falls y rises miss less = (let higher : x ≤ y =
        rises (record { place = q; value = x }) aimed_low refl in omega arith)
