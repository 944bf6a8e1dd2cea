-- One turn at a head: aim at it, and swing it.
use Rattle.std.proofs.Common.{◌≡◌, ◌≢◌, ℕ, ◌-◌, ◌*◌, ◌<◌, ◌≤◌, ◌⊎◌, inl, ⊎_elim, suc, List, set, refl, sym, ap, ◌∙◌}
use Rattle.std.proofs.Common.{subst, arith, get_or-set_same}
use Rattle.std.proofs.Math.Decide.{ℕ_discrete}
use Rattle.fish_chain.proofs.Changes.{aim_changes, changed_next, head_changes, link_aim, quiet_loaded, quiet_ticked}
use Rattle.fish_chain.proofs.Changes.{still_links, swing_changes}
use Rattle.fish_rule.proofs.laws.Descents.{head_here}
use Rattle.fish_chain.specs.Links.{CanLink, Changed, IsLinked, with_linked}
use Rattle.fish_chain.specs.within.Links.{IsLinkBelow}
use Rattle.fish_layout.proofs.Clearing.{choose_first, choose_second}
use Rattle.fish_layout.specs.Cleared.{entry_at}
use Rattle.fish_rule.proofs.laws.Links.{not_own, own_behind, own_word}
use Rattle.fish_rule.specs.ChainSteps.{CanAimEntry, CanSwingHead, HasNode, HeadRises, after_aim_entry, after_load_head}
use Rattle.fish_rule.specs.ChainSteps.{after_swing_head, aimed_at}
use Rattle.fish_rule.specs.ChainSteps.{head_seen, own_place, swung}
use Rattle.fish_rule.specs.SpaceSteps.{loaded, ticked}
use Rattle.fish_rule.specs.declared.view.Clock.{Clock}
use Rattle.fish_rule.specs.Table.{IsOfMoment}
use Rattle.fish_rule.specs.Views.{Among}
use Rattle.fish_rule.specs.declared.view.Flight.{Flight}
use Rattle.fish_rule.specs.declared.view.View.{View}

-- the entry at a place is to be linked, and the head of its bucket was last seen at h
pub record IsSwinging (v : View) (b place h : ℕ) (u : View) : Type 0 where
  pub flight : Flight
  pub can : CanLink v flight flight.linked b
  pub at : place ≡ own_place flight
  pub words : List ℕ
  pub changed : Changed v flight words flight.linked u
  pub top : Among (record { bucket = b; place = h }) u.learned.least_heads
  pub node : (h ≤ u.about.line * 4) ⊎ HasNode u b h

-- a head that was seen
seen_head : (v u t : View) (b place h : ℕ) (f : Flight) (words : List ℕ) (clock : Clock) → CanLink v f f.linked b
    → place ≡ own_place f → Changed v f words f.linked t → t ≡ head_seen u b h clock → IsSwinging v b place h t
seen_head v u t b place h f words clock can at c is = record {
  flight = f;
  can = can;
  at = at;
  words = words;
  changed = c;
  top = subst (λ (z : View). Among (record { bucket = b; place = h }) z.learned.least_heads) (sym is) (inl refl);
  node = subst (λ (z : View). (h ≤ z.about.line * 4) ⊎ HasNode z b h) (sym is) (head_here u b h);
}

-- the first load
pub swing_begins : (v t : View) (b place h : ℕ) (f : Flight) → CanLink v f f.linked b → place ≡ own_place f
    → t ≡ after_load_head v b h → IsSwinging v b place h t
swing_begins v t b place h f can at is = seen_head v v t b place h f f.words (loaded v.clock) can at
    (head_changes v t f b h (loaded v.clock) (quiet_loaded v.clock) can.filled.flying is) is

module _ (v u : View) (b place h : ℕ) (s : IsSwinging v b place h u) where
  -- the record in flight
  abbrev pub swinging : Flight
  swinging = with_linked s.flight s.words s.flight.linked

  -- its entry may be linked
  swing_links : CanLink u swinging swinging.linked b
  swing_links = still_links v u s.flight s.words b s.changed s.can

  -- and aimed
  pub swing_aim : CanAimEntry u swinging
  swing_aim = link_aim u swinging b swing_links

  -- a head that isn't below the own place is that of a linked entry above it
  pub swing_over : IsOfMoment u → place ≤ h → IsLinkBelow v s.flight b h u
  swing_over stands over =
      let at : place ≡ own_place s.flight = s.at in
      let behind = own_behind u swinging stands swing_aim in
      let node : HasNode u b h = ⊎_elim (λ (e : h ≤ u.about.line * 4). absurd (omega arith)) (λ (n : HasNode u b h). n) s.node in
      let other : h ≢ own_place s.flight = not_own u swinging b h stands swing_aim node in
      record { words = s.words; changed = s.changed; node = node; above = omega arith }

  -- its words once its entry is aimed at the head
  abbrev aims : List ℕ
  aims = set s.words (entry_at s.flight.linked) h

  module _ (t : View) (is : t ≡ after_aim_entry u swinging h) where
    -- the changes up to the aim
    aimed : Changed v s.flight aims s.flight.linked t
    aimed = changed_next v u t s.flight s.words aims s.flight.linked s.changed
        (aim_changes u t swinging h swing_links.more is)

    -- what was known of the head still is
    aimed_top : Among (record { bucket = b; place = h }) t.learned.least_heads
    aimed_top = subst (λ z. Among (record { bucket = b; place = h }) z.least_heads)
        (sym (ap (λ (z : View). z.learned) is)) s.top

    -- the head may be swung
    pub swing_can : IsOfMoment u → h < place → CanSwingHead t (aimed_at swinging h) b h
    swing_can stands less =
        let links : CanLink t (aimed_at swinging h) swinging.linked b = still_links v t s.flight aims b aimed s.can in
        let at : place ≡ own_place s.flight = s.at in
        record {
          aim = link_aim t (aimed_at swinging h) b links;
          bucket = links.of_bucket;
          below = links.below;
          aimed = get_or-set_same swinging.words (entry_at swinging.linked) h 0 (own_word u swinging stands swing_aim);
          less = omega arith;
        }

    -- where the head was the one seen, the entry is linked
    pub swing_hit : (w : View) (x : ℕ) → x ≡ h → w ≡ after_swing_head t (aimed_at swinging h) b h x → IsLinked v s.flight b w
    swing_hit w x hit was =
        let made : w ≡ swung t (aimed_at swinging h) b = was ∙ choose_first (ℕ_discrete x h) _ _ hit in
        record {
          words = aims;
          changed = changed_next v t w s.flight aims aims (suc s.flight.linked) aimed
              (swing_changes t w (aimed_at swinging h) b made);
          node = subst (λ (z : View). HasNode z b (own_place s.flight)) (sym made) (inl refl);
        }

    -- else the head found is higher, and the next to try
    pub swing_miss : (w : View) (x : ℕ) → x ≢ h → w ≡ after_swing_head t (aimed_at swinging h) b h x
        → IsSwinging v b place x w
    swing_miss w x miss was =
        let seen : w ≡ head_seen t b x (ticked t.clock) = was ∙ choose_second (ℕ_discrete x h) _ _ miss in
        seen_head v t w b place x s.flight aims (ticked t.clock) s.can s.at (changed_next v t w s.flight aims aims
        s.flight.linked aimed (head_changes t w (aimed_at swinging h) b x (ticked t.clock) (quiet_ticked t.clock)
        (ap (λ (z : View). z.flight) aimed.known) seen)) seen

    -- so fewer places are left
    pub swing_falls : (x : ℕ) → HeadRises t b x → x ≢ h → h < place → place - x < place - h
    swing_falls x rises miss less = (let higher : h ≤ x =
        rises (record { bucket = b; place = h }) aimed_top refl in omega arith)
