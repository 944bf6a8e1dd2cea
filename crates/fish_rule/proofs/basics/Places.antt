-- Which record a linked place is of.
use Rattle.std.proofs.Common.{◌≡◌, ◌≢◌, ℕ, ◌+◌, ◌-◌, ◌*◌, ◌<◌, ◌≤◌, suc, length, sym, refl, ap, ◌∙◌, subst, inl, inr}
use Rattle.std.proofs.Common.{◌⊎◌, ⊎_elim, arith, Some, None, Option}
use Rattle.fish_rule.proofs.basics.Context.{Flight, Key, Kind, Rule, View, World, get_elem?, some}
use Rattle.fish_layout.proofs.Spelled.{roomy, spelled_keys, spelled_lines}
use Rattle.fish_layout.specs.Bucket.{bucket_of}
use Rattle.fish_layout.specs.Header.{keys_of, lines_of}
use Rattle.fish_rule.proofs.basics.Bodies.{code_once, published}
use Rattle.fish_rule.proofs.basics.Regions.{one_region}
use Rattle.fish_rule.specs.Chains.{IsLinking, IsStoredAt, Linked, LinksAt, Shows}
use Rattle.fish_rule.specs.Parts.{Flies}
use Rattle.fish_rule.specs.Regions.{HoldsRegion, IsRecord, kind_of}
use Rattle.fish_rule.specs.World.{body}
use Rattle.fish_rule.specs.declared.view.Kind.TheVariants.{Mark, Stored, Void}

-- the pass that has number n in flight has linked its entry c
pub record IsFlier (w : World) (n c : ℕ) : Type 0 where
  pub seat : ℕ
  pub view : View
  pub at : get_elem? w.views seat ≡ some view
  pub flight : Flight
  pub flies : view.flight ≡ Some flight
  pub number : flight.number ≡ n
  pub counts : c < flight.linked

module _ {k : Key} {w : World} (r : Rule k w) where
  -- the record at a line that shows an entry
  pub record RecordAt (a c : ℕ) : Type 0 where
    pub number : ℕ
    pub above : k.number ≤ number
    pub below : number < w.count
    pub line : r.start number ≡ a
    pub kind : kind_of k.end (r.start number) (r.start (suc number)) ≡ Stored
    pub record_of : IsRecord (r.lane_of number) number (r.start (suc number) - r.start number) (body w.log a)
    pub owner : (w.dir number ≢ 0) ⊎ ((w.dir number ≡ 0) × IsFlier w number c)

  -- a record where the kind says so
  record_held : (kind : Kind) (lane n lines : ℕ) (e : ℕ → ℕ) → kind ≡ Stored → HoldsRegion kind lane n lines e
      → IsRecord lane n lines e
  record_held Stored lane n lines e q h = h
  record_held Void lane n lines e q h = cc
  record_held Mark lane n lines e q h = cc

  -- of a published record
  pub record_at_stored : (a c : ℕ) → IsStoredAt k w.dir a → RecordAt a c
  record_at_stored a c h = pick (Rattle.std.proofs.Math.Decide.dec_lt h.number w.count)
    where
      set_ : w.dir h.number ≢ 0
      set_ = published (w.dir h.number) Stored h.stored

      pick : Dec (h.number < w.count) → RecordAt a c
      pick (no more) = absurd (set_ (r.space.dir_beyond h.number (omega arith)))
      pick (yes below) =
          let f = r.space.finished h.number h.above below set_ in
          let line : r.start h.number ≡ a = sym f.line ∙ h.line in
          let kind : kind_of k.end (r.start h.number) (r.start (suc h.number)) ≡ Stored =
          code_once _ Stored (sym f.kind ∙ h.stored) in
          record {
            number = h.number;
            above = h.above;
            below = below;
            line = line;
            kind = kind;
            record_of = subst (λ (z : ℕ). IsRecord (r.lane_of h.number) h.number
                (r.start (suc h.number) - r.start h.number) (body w.log z)) line
                (record_held _ _ h.number _ _ kind f.holds);
            owner = inl set_;
          }

  -- of a record in flight
  record_at_flight : (a c : ℕ) (seat : ℕ) (v : View) → get_elem? w.views seat ≡ some v → (o : Option Flight)
      → v.flight ≡ o → Flies k w.count w.dir w.log r.start r.lane_of v.lane o → LinksAt a c o → RecordAt a c
  record_at_flight a c seat v at None is h links = elim links [ ]
  record_at_flight a c seat v at (Some f) is h links =
      let counts : c < f.linked = links.0 in
      let line : f.line ≡ a = links.1 in
      let whole = h.whole (omega arith) in
      let s : r.start f.number ≡ f.line = h.line in
      let e : r.start (suc f.number) ≡ f.line + f.lines = h.lines in
      let size : r.start (suc f.number) - r.start f.number ≡ f.lines = omega arith in
      record {
        number = f.number;
        above = h.above;
        below = h.below;
        line = s ∙ line;
        kind = subst (λ (z : ℕ × ℕ). kind_of k.end z.0 z.1 ≡ Stored) (λ i. (sym s i, sym e i)) whole.kind;
        record_of = subst (λ (z : ℕ × ℕ × ℕ). IsRecord z.0 f.number z.1 (body w.log z.2))
            (λ i. (sym h.owner i, sym size i, line i)) whole.record_of;
        owner = inr (
          h.unpublished,
          record {
            seat = seat;
            view = v;
            at = at;
            flight = f;
            flies = is;
            number = refl;
            counts = counts;
          },
        );
      }

  -- of either
  pub record_at : (a c : ℕ) → Shows k w.dir w.views a c → RecordAt a c
  record_at a c h = ⊎_elim (λ (s : IsStoredAt k w.dir a). record_at_stored a c s)
      (λ (l : IsLinking a c w.views). record_at_flight a c l.seat l.view l.at l.view.flight refl
      (r.space.flights l.seat l.view l.at) l.links) h

  -- the lines of a shown record are within its region
  pub record_at_lined : (a c : ℕ) (s : RecordAt a c) → lines_of (body w.log a 0) ≡ r.start (suc s.number) - r.start s.number
  record_at_lined a c s = spelled_lines s.record_of.1.spells ∙ s.record_of.1.lines_is

  -- a linked place is within its record's region
  pub lies_inside : (b p : ℕ) (h : Linked k w.dir w.log w.views b p) (s : RecordAt h.line h.entry)
      → (r.start s.number * 4 ≤ p) × (p < r.start (suc s.number) * 4)
  lies_inside b p h s =
      let p_is : p ≡ h.line * 4 + (1 + 3 * h.entry) = h.is.is in
      let counts = h.is.counts in
      let parts = s.record_of.0 in
      let keys : keys_of (body w.log h.line 0) ≡ length parts.keys = spelled_keys s.record_of.1.spells in
      let room : 1 + 3 * length parts.keys ≤ Rattle.fish_layout.specs.Body.body_lines parts * 4 = roomy parts in
      let lines = s.record_of.1.lines_is in
      let line = s.line in
      let grows = r.space.regions.grows s.number s.above s.below in
      (omega arith, omega arith)

  -- a linked place in the region of number n is the first word of an entry there
  pub which : (b p : ℕ) (h : Linked k w.dir w.log w.views b p) (s : RecordAt h.line h.entry) (n : ℕ) → k.number ≤ n
      → n < w.count → r.start n * 4 ≤ p → p < r.start (suc n) * 4
      → (s.number ≡ n) × (h.line ≡ r.start n)
  which b p h s n above below from to =
      let inside = lies_inside b p h s in
      let same : s.number ≡ n =
      one_region k w.count w.line r.start r.space.regions s.number n p s.above s.below above below inside.0
      inside.1 from to in
      (same, sym s.line ∙ ap r.start same)

  -- a place is of one chain
  pub one_chain : (b c p : ℕ) → Linked k w.dir w.log w.views b p → Linked k w.dir w.log w.views c p → b ≡ c
  one_chain b c p h g =
      let s = record_at h.line h.entry h.shows in
      let t = record_at g.line g.entry g.shows in
      let inside = lies_inside b p h s in
      let same = which c p g t s.number s.above s.below inside.0 inside.1 in
      let line : h.line ≡ g.line = sym s.line ∙ sym same.1 in
      let p_h : p ≡ h.line * 4 + (1 + 3 * h.entry) = h.is.is in
      let p_g : p ≡ g.line * 4 + (1 + 3 * g.entry) = g.is.is in
      let entry : h.entry ≡ g.entry = omega arith in
      sym h.is.bucket ∙ ap (λ (z : ℕ × ℕ). bucket_of k.buckets (body w.log z.0) z.1) (λ i. (line i, entry i))
      ∙ g.is.bucket
