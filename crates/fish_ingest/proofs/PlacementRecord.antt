-- A record that was prepared, in the place that was claimed for it.
use Rattle.std.proofs.Common.{◌≡◌, ℕ, ◌+◌, ◌*◌, ◌/◌, ◌<◌, ◌≤◌, length, map, refl, sym, ap, ◌∙◌, subst, arith}
use Rattle.std.proofs.lemmas.Nat.{div-mul-add}
use Rattle.fish_claim.proofs.Known.{knows_later}
use Rattle.fish_ingest.proofs.Passing.{moved_to, on_both, on_lane}
use Rattle.fish_ingest.proofs.PlacementBody.{body_fills}
use Rattle.fish_ingest.specs.within.Placement.{CanPlace, HasPlace, IsInPlace, IsShutBy}
use Rattle.fish_ingest.specs.Placement.{CanWrite, HoldsParts, HasWrittenRegion, claimed_parts}
use Rattle.fish_ingest.specs.declared.placement.Pending.{Pending}
use Rattle.fish_ingest.specs.declared.preparation.Prepared.{Prepared}
use Rattle.fish_layout.proofs.Sizes.{few_lines, some_lines}
use Rattle.fish_rule.specs.Keys.{text_of}
use Rattle.fish_rule.specs.SpaceSteps.{flight_at}
use Rattle.fish_rule.specs.Views.{Among}
use Rattle.fish_rule.specs.declared.table.Region.{Region}
use Rattle.fish_rule.specs.declared.view.Flight.{Flight}
use Rattle.fish_rule.specs.declared.view.Shut.{Shut}
use Rattle.fish_rule.specs.declared.view.View.{View}

module _ (v : View) (prepared : Prepared) (can : CanPlace v prepared) where
  -- the words fill the record's lines
  words_fill : length prepared.body ≡ can.lines * 4
  words_fill = body_fills can.fits.made.0 ∙ ap (λ (z : ℕ). z * 4) (sym can.size)

  -- so the lines are a fourth of the words, from 1 to 18,625
  pub lines_are : length prepared.body / 4 ≡ can.lines
  lines_are = (let e = words_fill in let f : length prepared.body ≡ can.lines * 4 + 0 = omega arith in
      ap (λ (z : ℕ). z / 4) f ∙ div-mul-add can.lines 4 0 (omega arith))

  pub few_lines_of : (0 < length prepared.body / 4) × (length prepared.body / 4 ≤ 18625)
  few_lines_of =
      let p = can.fits.made.0.0 in
      let a = lines_are in
      let size = can.size in
      let few = few_lines p can.fits.made.0.2.proper in
      let some_ = some_lines p in
      (omega arith, omega arith)

  module _ (number : ℕ) (u : View) (lines : ℕ) (at : lines ≡ length prepared.body / 4) (h : HasPlace v lines number u) where
    -- the record in flight
    abbrev pub placed_flight : Flight
    placed_flight = flight_at number h.line lines

    -- the words may be written there
    pub can_write : CanWrite u placed_flight prepared
    can_write = record {
      flying = h.flying;
      unfilled = refl;
      unlinked = refl;
      stored = h.kind;
      lines = (let e = words_fill in let a = lines_are in omega arith);
      fits = record {
        defs = can.fits.defs;
        origin = can.fits.origin;
        payload = can.fits.payload;
        made = can.fits.made;
        active = knows_later v u h.on.learns can.fits.origin.version (map text_of can.fits.defs) can.fits.active;
        lane_is = can.fits.lane_is ∙ sym (on_lane h.on);
        entered = h.epoch ∙ can.fits.entered;
      };
    }

    -- and are
    pub has_placed : (t : View) (pending : Pending) → pending.number ≡ number → HasWrittenRegion u placed_flight t
        → HoldsParts (claimed_parts u placed_flight prepared can_write) t → IsInPlace v prepared can pending t
    unfolding can_write
    has_placed t pending is written words =
        let same : written.flight.number ≡ number = ap (λ (z : Region). z.number) written.region in
        record {
          on = on_both v u t h.on (record {
            learns = written.only.learns;
            clock = written.only.clock;
            frame = moved_to u t _ written.only.frame refl;
          });
          flight = written.flight;
          ready = written.ready;
          stored = written.stored;
          number_is = same ∙ sym is;
          words = subst (λ (z : ℕ). HoldsParts (record can.fits.made.0.0 { number = z }) t) (sym same) words;
          fresh = (let fresh = h.fresh in omega arith);
          counted = (let counted = h.counted in let count = written.only.count in omega arith);
          epoch = ap (λ (z : View). z.epoch) written.only.frame ∙ h.epoch;
          shut = ap (λ (z : View). z.shut) written.only.frame ∙ h.shut;
          own = ap (λ (z : View). z.own) written.only.frame ∙ h.own;
          voids = λ x m. h.voids x (subst (Among x) written.only.found m);
        }

  -- the lines that shut the pass are the record's
  pub shut_by : (u : View) (shut : Shut) (lines : ℕ) → lines ≡ length prepared.body / 4 → IsShutBy v lines shut u
      → IsShutBy v can.lines shut u
  shut_by u shut lines at h = subst (λ (z : ℕ). IsShutBy v z shut u) (at ∙ lines_are) h
