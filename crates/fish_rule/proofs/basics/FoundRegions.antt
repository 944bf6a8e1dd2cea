-- What the words of a region are that was found.
use Rattle.std.proofs.Common.{◌≡◌, ◌≢◌, ℕ, ◌+◌, ◌-◌, ◌*◌, ◌<◌, suc, sym, refl, ap, ◌∙◌, subst, ⊎_elim, arith}
use Rattle.fish_layout.proofs.Clearing.{cleared_at, cleared_head}
use Rattle.fish_layout.proofs.Headers.{lines_of-void}
use Rattle.fish_layout.proofs.Spelled.{spelled_lines}
use Rattle.fish_layout.specs.Cleared.{IsKeyWord}
use Rattle.fish_layout.specs.Header.{keys_of, lines_of}
use Rattle.fish_rule.proofs.basics.Bodies.{code_once, void-head, published}
use Rattle.fish_rule.proofs.basics.Regions.{one_region}
use Rattle.fish_rule.proofs.basics.Lists.{all_among}
use Rattle.fish_rule.specs.Parts.{IsPublishedRegion}
use Rattle.fish_rule.specs.Facts.{Facts, IsFound, IsFactKnown}
use Rattle.fish_rule.specs.Regions.{HoldsRegion, kind_of}
use Rattle.fish_rule.proofs.basics.Context.{Among, Found, Key, Kind, Rule, View, World}
use Rattle.fish_rule.specs.LoadSteps.{CanReadWord}
use Rattle.fish_rule.specs.World.{body}
use Rattle.fish_rule.specs.declared.view.Kind.TheVariants.{Mark, Stored, Void}

-- the header of a region that isn't a mark tells its lines
pub lined_whole : (k : Key) (kind : Kind) (lane n lines : ℕ) (e : ℕ → ℕ) → kind ≢ Mark → lines < 65536
    → HoldsRegion kind lane n lines e → lines_of (e 0) ≡ lines
lined_whole k Stored lane n lines e ne few h = spelled_lines h.1.spells ∙ h.1.lines_is
lined_whole k Void lane n lines e ne few h = ap (λ (f : ℕ → ℕ). lines_of (f 0)) h ∙ ap lines_of (void-head lines)
    ∙ lines_of-void lines few
lined_whole k Mark lane n lines e ne few h = absurd (ne refl)

module _ {k : Key} {w : World} (r : Rule k w) where
  -- a region that was found is the one that its number has
  pub region_found : (x : Found) → IsFound k w.count w.dir r.start x
      → IsPublishedRegion k w.dir w.log r.start r.lane_of x.number
      × (kind_of k.end (r.start x.number) (r.start (suc x.number)) ≡ x.kind)
  region_found x h =
      let f = r.space.finished x.number h.above h.below (published (w.dir x.number) x.kind h.kind) in
      (f, code_once _ x.kind (sym f.kind ∙ h.kind))

  -- the header of a region that was found and isn't a mark tells its lines
  pub lines_found : (x : Found) → IsFound k w.count w.dir r.start x → x.kind ≢ Mark
      → lines_of (body w.log (r.start x.number) 0) ≡ x.lines
  lines_found x h ne =
      let t = region_found x h in
      let line = h.line in
      let lines = h.lines in
      let small = r.space.regions.small x.number h.above h.below in
      let size : r.start (suc x.number) - r.start x.number ≡ x.lines = omega arith in
      let holds = t.0.holds in
      lined_whole k _ _ x.number _ _ (λ e. ne (sym t.1 ∙ e)) (omega arith) holds ∙ size

  -- a word that is known at a place of a region that was found is that of its body there
  pub word_known : (x : Found) (i h : ℕ) → IsFound k w.count w.dir r.start x → i < x.lines * 4
      → IsFactKnown k w.count w.dir w.log r.start (record { place = x.line * 4 + i; value = h })
      → body w.log (r.start x.number) i ≡ h
  word_known x i h found less known =
      let line = found.line in
      let lines = found.lines in
      let grows = r.space.regions.grows x.number found.above found.below in
      let place : x.line * 4 + i ≡ r.start known.number * 4 + known.offset = known.place in
      let inside = known.inside in
      let up = r.space.regions.grows known.number known.above known.below in
      let same : known.number ≡ x.number =
      one_region k w.count w.line r.start r.space.regions known.number x.number
      (x.line * 4 + i) known.above known.below found.above found.below (omega arith) (omega arith)
      (omega arith) (omega arith) in
      let there_ : r.start known.number ≡ x.line = ap r.start same ∙ line in
      let offset : known.offset ≡ i = omega arith in
      subst (λ (z : ℕ × ℕ). body w.log (r.start z.0) z.1 ≡ h) (λ j. (same j, offset j)) known.word

  -- a word that is known at a region's first place is its header
  pub head_known : (x : Found) (h : ℕ) → IsFound k w.count w.dir r.start x
      → IsFactKnown k w.count w.dir w.log r.start (record { place = x.line * 4; value = h })
      → body w.log (r.start x.number) 0 ≡ h
  head_known x h found known =
      let grows = r.space.regions.grows x.number found.above found.below in
      let line = found.line in
      let lines = found.lines in
      let e : x.line * 4 ≡ x.line * 4 + 0 = omega arith in
      word_known x 0 h found (omega arith) (subst
      (λ (z : ℕ). IsFactKnown k w.count w.dir w.log r.start (record { place = z; value = h })) e known)

  -- the word that a pass may read is the region's body there
  pub read_word_is : (v : View) (x : Found) (i : ℕ) → Facts k w.count w.dir w.log r.start v.learned
      → CanReadWord v x i → IsFactKnown k w.count w.dir w.log r.start
      (record { place = x.line * 4 + i; value = w.log (x.line * 4 + i) })
  read_word_is v x i facts can =
      let found = all_among (IsFound k w.count w.dir r.start) x v.learned.found facts.found can.found in
      let line = found.line in
      let lines = found.lines in
      let inside = can.inside in
      record {
        number = x.number;
        offset = i;
        above = found.above;
        below = found.below;
        published = published (w.dir x.number) x.kind found.kind;
        inside = omega arith;
        place = ap (λ (z : ℕ). z * 4 + i) (sym line);
        word = ⊎_elim
            (λ (e : i ≡ 0). ap (body w.log (r.start x.number)) e
            ∙ cleared_head (λ j. w.log (r.start x.number * 4 + j))
            ∙ ap (λ (z : ℕ). w.log (r.start x.number * 4 + z)) (sym e) ∙ ap (λ (z : ℕ). w.log (z * 4 + i)) line)
            (λ (t : (h : ℕ) × Among (record { place = x.line * 4; value = h }) v.learned.known
            × ¬ IsKeyWord (keys_of h) i).
            let head : body w.log (r.start x.number) 0 ≡ t.0 =
            head_known x t.0 found (all_among
            (IsFactKnown k w.count w.dir w.log r.start) _ v.learned.known facts.known t.1) in
            let first : body w.log (r.start x.number) 0 ≡ w.log (r.start x.number * 4 + 0) =
            cleared_head (λ j. w.log (r.start x.number * 4 + j)) in
            let whole : lines_of (w.log (r.start x.number * 4 + 0)) ≡ x.lines = ap lines_of (sym first)
            ∙ lines_found x found can.words in
            cleared_at (λ j. w.log (r.start x.number * 4 + j)) i (omega arith)
            (subst (λ (z : ℕ). ¬ IsKeyWord (keys_of z) i) (sym head ∙ first) t.2)
            ∙ ap (λ (z : ℕ). w.log (z * 4 + i)) line)
            can.plain;
      }
