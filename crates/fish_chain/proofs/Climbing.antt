-- The way down from the head to the place of the own entry.
use Rattle.std.proofs.Common.{◌≡◌, ℕ, ◌<◌, suc, refl, sym, ap, ◌∙◌, subst, arith, Some, Option, None}
use Rattle.fish_chain.proofs.Changes.{changed_next, still_links}
use Rattle.fish_chain.specs.Links.{CanLink, with_linked}
use Rattle.fish_chain.specs.within.Links.{CanLinkBelow, IsLinkBelow, Tried}
use Rattle.fish_layout.specs.Cleared.{body_of}
use Rattle.fish_layout.specs.Header.{keys_of}
use Rattle.fish_layout.specs.Pages.{place_of}
use Rattle.fish_rule.proofs.laws.Steps.{flight_law}
use Rattle.fish_rule.specs.Flying.{region_in, region_of}
use Rattle.fish_rule.specs.ChainSteps.{own_place}
use Rattle.fish_rule.specs.declared.table.Region.{Region}
use Rattle.fish_rule.specs.Table.{IsOfMoment}
use Rattle.fish_rule.specs.declared.view.Key.{Key}
use Rattle.fish_rule.specs.declared.view.Flight.{Flight}
use Rattle.fish_rule.specs.declared.view.View.{View}

-- the line that the pass keeps of its record in flight
pub line_kept : (v : View) (f : Flight) (o : Option Region) (r : Region) → v.flight ≡ Some f
    → o ≡ region_in v.flight → o ≡ Some r → f.line ≡ r.line
line_kept v f o r flying kept is =
    let same : Some (region_of f) ≡ Some r = sym (kept ∙ ap region_in flying) ∙ is in
    let region : region_of f ≡ r = cc in
    ap (λ (z : Region). z.line) region

-- it lies within the log
pub line_low : (k : Key) (v : View) (f : Flight) (o : Option Region) (r : Region) → v.about ≡ k → IsOfMoment v
    → v.flight ≡ Some f → o ≡ region_in v.flight → o ≡ Some r → r.line < 68719476736
line_low k v f o r about stands flying kept is =
    let line = line_kept v f o r flying kept is in
    let low = (flight_law k v f about stands flying).low_line in
    omega arith

-- the place of the entry, by the line that the pass keeps of its record in flight and the entry's count
pub place_kept : (v : View) (f : Flight) (o : Option Region) (r : Region) (key wide : ℕ) → v.flight ≡ Some f
    → o ≡ region_in v.flight → o ≡ Some r → f.linked ≡ key → wide ≡ key → place_of r.line wide ≡ own_place f
place_kept v f o r key wide flying kept is next same =
    let line = line_kept v f o r flying kept is in
    omega arith

-- an entry that may be linked as this one is the next
pub link_next : (v : View) (f : Flight) (key b : ℕ) → CanLink v f key b → CanLink v f f.linked b
link_next v f key b can = record {
  filled = can.filled;
  next = refl;
  more = subst (λ (z : ℕ). z < keys_of (body_of f.words 0)) (sym can.next) can.more;
  of_bucket = can.of_bucket;
  below = can.below;
}

module _ (v u : View) (f : Flight) (b above : ℕ) (can : CanLink v f f.linked b) (s : IsLinkBelow v f b above u) where
  -- the entry may still be linked, below the one above
  pub below_under : (place : ℕ) → place ≡ own_place f → CanLinkBelow u (with_linked f s.words f.linked) b above place
  below_under place at = (let over = s.above in
      record { can = still_links v u f s.words b s.changed can; at = at; node = s.node; over = omega arith })

  -- what was tried further down was tried from the start
  pub below_tried : (o : Option ℕ) (w : View) → Tried u (with_linked f s.words f.linked) b o w → Tried v f b o w
  below_tried None w t = record {
    words = t.words;
    changed = changed_next v u w f s.words t.words (suc f.linked) s.changed t.changed;
    node = t.node;
  }
  below_tried (Some place) w t = record {
    words = t.words;
    changed = changed_next v u w f s.words t.words f.linked s.changed t.changed;
    node = t.node;
    above = t.above;
  }
