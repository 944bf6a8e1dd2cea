-- The words of a record go into its region one by one.
use Rattle.std.proofs.Common.{◌≡◌, ℕ, ◌+◌, ◌<◌, ◌≤◌, suc, List, [], ◌∷◌, ◌++◌, length, get_or, take, refl, sym, ap, ◌∙◌}
use Rattle.std.proofs.Common.{subst, arith, Some, Option, add-one, length-append}
use Rattle.std.proofs.Math.Seq.{take-suc}
use Rattle.fish_claim.specs.Fills.{CanFill, IsFilled, filled_view, with_words}
use Rattle.fish_rule.proofs.laws.Regions.{kind-inside}
use Rattle.fish_rule.specs.Flying.{region_in, region_of}
use Rattle.fish_rule.specs.SpaceSteps.{CanStoreWord, after_store_word}
use Rattle.fish_rule.specs.declared.table.Region.{Region}
use Rattle.fish_rule.specs.declared.view.Flight.{Flight}
use Rattle.fish_rule.specs.declared.view.Kind.TheVariants.{Mark, Stored, Void}
use Rattle.fish_rule.specs.declared.view.View.{View}

-- the region that a pass keeps is that of its record in flight
pub in_region : (o : Option Flight) (f : Flight) (r : Region) → o ≡ Some f → Some r ≡ region_in o → region_of f ≡ r
in_region o f r flying is = (let e : Some r ≡ Some (region_of f) = is ∙ ap region_in flying in cc)

module _ (v : View) (f : Flight) (words : List ℕ) (can : CanFill v f words) where
  -- the next word may be stored
  pub can_store_next : (u : View) (i : ℕ) → u ≡ filled_view v f (take i words) → length (take i words) ≡ i
      → i < length words
      → CanStoreWord u (with_words f (take i words))
  can_store_next u i is many less =
      let full = can.full in
      let inside = kind-inside v.about.end f.line (f.line + f.lines)
      (λ e. (let g : Stored ≡ Mark = sym can.stored ∙ e in cc)) in
      let may : CanStoreWord (filled_view v f (take i words)) (with_words f (take i words)) = record {
        flying = refl;
        unlinked = can.unlinked;
        more = omega arith;
        within = inside;
        header = λ void. (let bad : Stored ≡ Void = sym can.stored ∙ void in cc);
      } in
      subst (λ (z : View). CanStoreWord z (with_words f (take i words))) (sym is) may

  -- and then one word more is
  pub filled_more : (u t : View) (i : ℕ) → u ≡ filled_view v f (take i words) → i < length words
      → t ≡ after_store_word u (with_words f (take i words)) (get_or words i 0) → t ≡ filled_view v f (take (i + 1) words)
  filled_more u t i is less stored =
      let x : ℕ = get_or words i 0 in
      let next : take i words ++ x ∷ [] ≡ take (i + 1) words =
      sym (ap (λ (z : ℕ). take z words) (add-one i) ∙ take-suc words i 0 less) in
      let long : suc (v.clock.steps + length (take i words)) ≡ v.clock.steps + length
      (take i words ++ x ∷ []) = (let e = length-append (take i words) (x ∷ []) in omega arith) in
      stored ∙ ap (λ (z : View). after_store_word z (with_words f (take i words)) x) is
      ∙ (λ j. record v {
        flight = Some (with_words f (take i words ++ x ∷ []));
        clock = record v.clock { steps = long j };
      })
      ∙ ap (filled_view v f) next

  -- with all its words the record is filled
  pub is_filled : (u : View) → u ≡ filled_view v f words → IsFilled u (with_words f words)
  is_filled u is =
      let unlinked = can.unlinked in
      let of = can.body.keyed.1.record_of in
      let filled : IsFilled (filled_view v f words) (with_words f words) = record {
        live = subst (λ (z : ℕ). 1 ≤ z) of.lane_is of.spells.proper.some_lane;
        flying = refl;
        stored = can.stored;
        full = can.full;
        body = record { version = can.body.version; entered = can.body.entered; keyed = can.body.keyed };
        linked = omega arith;
      } in
      subst (λ (z : View). IsFilled z (with_words f words)) (sym is) filled
