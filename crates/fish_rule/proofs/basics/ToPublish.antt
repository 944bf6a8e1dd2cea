-- What holds of a region in flight that is about to be published.
use Rattle.std.proofs.Common.{◌≡◌, ℕ, ◌+◌, ◌<◌, ◌≤◌, sym, refl, ◌∙◌, subst, arith, Some, None, ◌-◌, ◌*◌, suc, List}
use Rattle.std.proofs.Common.{length, get_or, ap}
use Rattle.fish_layout.specs.Header.{field, lines_of, void_word}
use Rattle.fish_rule.proofs.basics.Bodies.{kind-mark, body_stored, body_void, void-head}
use Rattle.fish_rule.specs.Parts.{InFlight, MayOverflow}
use Rattle.fish_rule.specs.Regions.{kind_of, HoldsRegion, IsRecord, void_body}
use Rattle.fish_rule.proofs.basics.Context.{Flight, Key, Kind, Rule, View, World, get_elem?, some}
use Rattle.fish_rule.specs.SpaceSteps.{shut_after, IsReady}
use Rattle.fish_rule.specs.Views.{IsOver}
use Rattle.fish_rule.specs.World.{body}
use Rattle.fish_rule.specs.declared.view.Kind.TheVariants.{Mark, Stored, Void}
use Rattle.fish_layout.proofs.Clearing.{cleared_head}
use Rattle.fish_layout.proofs.Headers.{lines_of-void}
use Rattle.fish_layout.proofs.Spelled.{spelled_lines}
use Rattle.fish_layout.specs.Cleared.{body_of}
use Rattle.fish_rule.proofs.basics.Flights.{flight_is, known_keyed}
use Rattle.fish_rule.specs.Keys.{IsKeyed}
use Rattle.fish_rule.specs.Registry.{AreActiveAt, KnowsActive}
use Rattle.fish_rule.specs.declared.view.Epoch.TheVariants.{Confirmed}

-- the word 0 has no lines
pub no_lines : lines_of 0 ≡ 0
unfolding lines_of field
no_lines = refl

-- a line within the tail's fits a directory word
pub small_line : {k : Key} {w : World} (r : Rule k w) (f : Flight) (lane : ℕ)
    → InFlight k w.count w.dir w.log r.start r.lane_of lane f → f.line < 68719476736
small_line {k} {w} r f lane h = pick (Rattle.std.proofs.Math.Decide.dec_le f.number r.limit.first)
  where
    start_is : r.start f.number ≡ f.line
    start_is = h.line

    pick : Dec (f.number ≤ r.limit.first) → f.line < 68719476736
    pick (yes before) =
        let up =
        Rattle.fish_rule.proofs.basics.Regions.starts_rise k w.count w.line r.start r.space.regions f.number
        r.limit.first h.above before r.limit.within in
        let s = start_is in let fits = r.limit.fits in let low_end = r.key_fits.low_end in
        omega arith
    pick (no behind) =
        let far =
        Rattle.fish_rule.proofs.basics.Regions.starts_near k w.count w.line r.start r.space.regions r.limit.first
        f.number r.limit.above (omega arith) (let b = h.below in omega arith) in
        let s = start_is in let fits = r.limit.fits in let low_end = r.key_fits.low_end in
        let few = r.limit.few in let below = h.below in
        omega arith

-- the pass might overflow before, if it may afterwards
pub may_before : (k : Key) (v : View) (f : Flight) → v.flight ≡ Some f → (kd : Kind) → kind_of k.end f.line (f.line + f.lines) ≡ kd
    → MayOverflow k.end (shut_after kd f k.end v.shut) None → MayOverflow k.end v.shut v.flight
may_before k v f flying Stored is h = (
  h.0,
  λ over. let past : k.end < f.line + f.lines =
      subst (IsOver k.end) flying over in let e : Mark ≡ Stored =
      sym (kind-mark k.end f.line (f.line + f.lines) past) ∙ is in cc,
)
may_before k v f flying Void is h = (
  h.0,
  λ over. let past : k.end < f.line + f.lines =
      subst (IsOver k.end) flying over in let e : Mark ≡ Void =
      sym (kind-mark k.end f.line (f.line + f.lines) past) ∙ is in cc,
)
may_before k v f flying Mark is h = (let e : Some (record { line = f.line; lines = f.lines; end = k.end }) ≡ None = h.0 in
    absurd (some_none e))
  where
    some_none : {A : Type 0} {x : A} → Some x ≡ None → ⊥
    some_none e = cc

module _ {k : Key} {w : World} (r : Rule k w) (id : ℕ) {v : View} (at : get_elem? w.views id ≡ some v) (f : Flight)
    (flying : v.flight ≡ Some f) (version : ℕ) where
  -- which texts the pass knows to be active
  abbrev active : ℕ → List (ℕ × List ℕ) → Type 0
  active = KnowsActive v.about v.learned

  -- what is so of the record in flight
  own : InFlight k w.count w.dir w.log r.start r.lane_of v.lane f
  own = flight_is r id at f flying

  -- the region's lines
  pub sized : (1 ≤ f.lines) × (f.lines ≤ 18625)
  sized =
      let grows = r.space.regions.grows f.number own.above own.below in
      let small = r.space.regions.small f.number own.above own.below in
      let line = own.line in
      let lines = own.lines in
      (omega arith, omega arith)

  -- a record's words stand in the log
  pub own_body : IsReady active version Stored v.lane f → body w.log f.line ≡ body_of f.words
  own_body h = body_stored w.log f.words v.lane f.number f.lines f.line f.linked (h.1.0, h.1.1.record_of) h.0 sized.0
      (let q = h.2 in omega arith) own.written

  -- what the region holds
  pub filled : (kd : Kind) → IsReady active version kd v.lane f → (lines_of (body w.log f.line 0) ≤ f.lines)
      × HoldsRegion kd v.lane f.number f.lines (body w.log f.line)
  filled Stored h =
      let e = own_body h in
      let q = h.1.1.record_of in
      let lined : lines_of (body_of f.words 0) ≡ f.lines = spelled_lines q.spells ∙ q.lines_is in (
        subst (λ (z : ℕ → ℕ). lines_of (z 0) ≤ f.lines) (sym e) (omega arith),
        subst (IsRecord v.lane f.number f.lines) (sym e) (h.1.0, h.1.1.record_of),
      )
  filled Void h =
      let s = sized in
      let header : w.log (f.line * 4 + 0) ≡ void_word f.lines =
      own.written 0 (subst (λ (z : List ℕ). 0 < length z) (sym h.0) (omega arith))
      (λ c. let less : c.0 < f.linked = c.1 in let none : f.linked ≡ 0 = h.1 in absurd (omega arith))
      ∙ ap (λ (z : List ℕ). get_or z 0 0) h.0 in
      let e : body w.log f.line ≡ void_body f.lines = body_void w.log f.lines f.line s.0 (omega arith) header
      (λ i more less. own.unwritten i (subst (λ (z : List ℕ). length z ≤ i) (sym h.0) more) less) in
      let lined : lines_of (void_body f.lines 0) ≡ f.lines = ap lines_of (void-head f.lines)
      ∙ lines_of-void f.lines (omega arith) in
      (subst (λ (z : ℕ → ℕ). lines_of (z 0) ≤ f.lines) (sym e) (omega arith), e)
  filled Mark h =
      let s = sized in
      let e : body w.log f.line 0 ≡ 0 = cleared_head (λ i. w.log (f.line * 4 + i))
      ∙ own.unwritten 0 (subst (λ (z : List ℕ). length z ≤ 0) (sym h) (omega arith)) (omega arith) in
      (subst (λ (z : ℕ). lines_of z ≤ f.lines) (sym e) (subst (λ (z : ℕ). z ≤ f.lines) (sym no_lines) (omega arith)), e)

  -- and it has the keys of its version
  pub own_keyed : 1 ≤ v.lane → v.epoch ≡ Confirmed version → IsReady active version Stored v.lane f
      → IsKeyed (AreActiveAt k w.registry) (r.version_of f.number) (r.lane_of f.number) f.number
      (r.start (suc f.number) - r.start f.number) (body w.log (r.start f.number))
  own_keyed live entered h =
      let a : r.start f.number ≡ f.line = own.line in
      let b : r.start (suc f.number) ≡ f.line + f.lines = own.lines in
      let size : r.start (suc f.number) - r.start f.number ≡ f.lines = omega arith in
      let words : body w.log (r.start f.number) ≡ body_of f.words = ap (body w.log) a ∙ own_body h in
      subst (λ (z : ℕ × ℕ × (ℕ → ℕ)). IsKeyed (AreActiveAt k w.registry) (r.version_of f.number) z.0 f.number
      z.1 z.2) (λ i. (sym own.owner i, sym size i, sym words i))
      (known_keyed r id at f flying live version entered (body_of f.words) h.1)
