-- The first half of an ingest put together.
use Rattle.std.proofs.Common.{◌≡◌, ◌≢◌, ℕ, ◌<◌, ◌≤◌, zero, suc, List, [], ◌∷◌, map, refl, sym, ap, ◌∙◌}
use Rattle.std.proofs.Common.{subst, inr, arith, Some, None, Option, All}
use Rattle.fish_catalog.specs.Listing.{is_on}
use Rattle.fish_catalog.specs.declared.listed.Listed.{Listed}
use Rattle.std.specs.List.Sorted.{IsStrictlyIncreasing}
use Rattle.fish_catalog.proofs.ActiveTexts.{active_ids_below, active_ids_increase}
use Rattle.fish_claim.proofs.Answered.{learns_same}
use Rattle.fish_claim.proofs.Known.{knows_later}
use Rattle.fish_epoch.specs.Definitions.{AreRead, active_defs}
use Rattle.fish_epoch.specs.Entering.{HasEntered, OnlyEnters}
use Rattle.fish_epoch.specs.declared.definitions.Known.{Known}
use Rattle.fish_ingest.proofs.PreparationDefs.{def_ids, few_by}
use Rattle.fish_epoch.proofs.Rounds.{enters_both}
use Rattle.fish_epoch.specs.Rows.{OnlyLearns}
use Rattle.fish_ingest.proofs.Passing.{found_both, found_same, enters_reads, on_both, on_keeps, on_lane}
use Rattle.fish_rule.proofs.laws.Clocks.{later_both, later_self, later_ticked, loaded_within}
use Rattle.fish_rule.specs.Clocks.{HasLoaded}
use Rattle.fish_rule.specs.declared.view.Noted.TheVariants.{Version}
use Rattle.fish_ingest.specs.Passing.{OnlyIngests}
use Rattle.fish_ingest.specs.within.Placement.{IsInPlace, IsShutBy}
use Rattle.fish_ingest.specs.Preparation.{AreDefs, ArePartsFor, IsRecordFor, id_of}
use Rattle.fish_ingest.specs.within.Preparation.{HasPrepared}
use Rattle.fish_ingest.specs.Refusal.{HasNotClaimed, IsFull}
use Rattle.fish_ingest.specs.Ingestion.{CanStart, HasStarted}
use Rattle.fish_ingest.specs.within.Ingestion.{CanPlaceFor}
use Rattle.fish_ingest.specs.Placement.{HoldsParts}
use Rattle.fish_ingest.specs.declared.placement.Pending.{Pending}
use Rattle.fish_ingest.specs.declared.preparation.Prepared.{Prepared}
use Rattle.fish_layout.specs.Body.{body_lines}
use Rattle.fish_psf.specs.declared.key.ActiveDef.{ActiveDef}
use Rattle.fish_rule.proofs.laws.Learning.{learns_both}
use Rattle.fish_rule.proofs.laws.Versions.{listing_law}
use Rattle.fish_rule.specs.RegistrySteps.{after_retire}
use Rattle.fish_rule.specs.Epochs.{Carries}
use Rattle.fish_rule.specs.Keys.{text_of}
use Rattle.fish_rule.specs.Logs.{Learns}
use Rattle.fish_rule.specs.Registry.{KnowsActive}
use Rattle.fish_rule.specs.Table.{IsOfMoment}
use Rattle.fish_rule.specs.declared.view.Epoch.TheVariants.{Confirmed, Out}
use Rattle.fish_rule.specs.declared.view.Flight.{Flight}
use Rattle.fish_rule.specs.declared.view.Kind.TheVariants.{Stored, Void}
use Rattle.fish_rule.specs.declared.view.Shut.{Shut}
use Rattle.fish_rule.specs.declared.view.View.{View}
use Rattle.fish_value.specs.declared.field.Form.{Form}

-- ---- before

-- a pass that isn't entered has nothing in flight
carries_idle : (v : View) (o : Option Flight) (k : Rattle.fish_rule.specs.declared.view.Key.Key) (g version_of : ℕ → ℕ)
    → v.epoch ≡ Out → Carries k g version_of v.lane v.epoch o → o ≡ None
carries_idle v None k g version_of outside h = refl
carries_idle v (Some f) k g version_of outside h = (let e : Out ≡ Confirmed (version_of f.number) =
    sym outside ∙ h.entered in cc)

-- neither has one that may start
pub idle_law : (v : View) → IsOfMoment v → CanStart v → v.flight ≡ None
idle_law v s can = carries_idle v v.flight v.about s.moment.registry s.rule.version_of can.outside
    (s.rule.registry.flights s.seat v s.at)

-- ---- without a claim

-- what the store of the own epoch leaves
pub on_retire : (v : View) → OnlyIngests v (after_retire v)
on_retire v = record { learns = learns_same v (after_retire v) refl refl; clock = later_ticked v.clock; frame = refl }

-- it takes away nothing that was learned
pub learns_retired : (v u : View) → u ≡ after_retire v → Learns v u
learns_retired v u e = subst (Learns v) (sym e) (on_retire v).learns

-- nor did one that entered, read of the registry and left
pub not_claimed_left : (v a b c : View) → IsOfMoment v → CanStart v → OnlyEnters v a → OnlyLearns a b → c ≡ after_retire b
    → HasNotClaimed v c
not_claimed_left v a b c s can e reads is =
    let both = enters_both v a b e (enters_reads a b reads) in
    subst (HasNotClaimed v) (sym is) (record {
      left = record {
        on = on_both v b (after_retire b) (on_keeps v b both) (on_retire b);
        outside = refl;
        idle = ap (λ (z : View). z.flight) both.frame ∙ idle_law v s can;
        own = ap (λ (z : View). z.own) both.frame;
      };
      shut = ap (λ (z : View). z.shut) both.frame;
      tail = ap (λ (z : View). z.tail) both.frame;
      count = both.count;
      found = both.found;
    })

-- ---- definitions

-- the active definitions that were read are in the order of their ids
pub are_defs : (v : View) (d : Known) → IsOfMoment v → AreRead v d → AreDefs (active_defs d)
are_defs v d s h =
    let listing = listing_law v _ d.rows.items s h.rows in
    let ids : map (λ (t : ℕ × List ℕ). t.0) (map text_of (active_defs d)) ≡ map id_of (active_defs d) =
    def_ids (active_defs d) in
    record {
      few = few_by d.rows.items is_on (λ (l : Listed). (l.id, l.def)) (active_defs d) h.active listing.few_active;
      ascending = subst IsStrictlyIncreasing
          (ap (map (λ (t : ℕ × List ℕ). t.0)) (sym h.active) ∙ ids) (active_ids_increase d.rows.items listing);
      written = h.written;
      below = below_texts (active_defs d) (subst (All (λ t. t.0 < 256)) (sym h.active)
          (active_ids_below d.rows.items listing));
    }
  where
    below_texts : (defs : List ActiveDef) → All (λ (t : ℕ × List ℕ). t.0 < 256) (map text_of defs)
        → All (λ d. d.id < 256) defs
    below_texts [] h k d within = absurd (omega arith)
    below_texts (x ∷ xs) h zero d within = h 0 (text_of x) (omega arith)
    below_texts (x ∷ xs) h (suc k) d within = below_texts xs (λ j t less. h (suc j) t (omega arith)) k d (omega arith)

-- ---- the record in flight

-- a pass that entered, and prepared the record that a payload is, may place it
pub can_place_for : (v a b : View) (version : ℕ) → HasEntered v version a → OnlyLearns a b → (form : Form) (payload : List ℕ)
    (prepared : Prepared) → IsOfMoment v → CanStart v → v.shut ≡ None → HasPrepared b version form payload prepared
    → CanPlaceFor v form payload prepared b
can_place_for v a b version entered reads form payload prepared s can unshut h =
    let both : OnlyEnters v b = enters_both v a b entered.keeps (enters_reads a b reads) in
    let at_version : b.epoch ≡ Confirmed version = ap (λ (z : View). z.epoch) reads.extends.frame ∙ entered.epoch in
    record {
      keeps = both;
      can = record {
        claim = record {
          live = subst (λ (z : ℕ). 1 ≤ z) (sym (on_lane (on_keeps v b both))) can.live;
          idle = ap (λ (z : View). z.flight) both.frame ∙ idle_law v s can;
          ready = ap (λ (z : View). z.shut) both.frame ∙ unshut;
          version = version;
          entered = at_version;
        };
        fits = record {
          defs = h.defs;
          origin = h.origin;
          payload = payload;
          made = h.made;
          active = subst (λ (z : ℕ). KnowsActive b.about b.learned z (map text_of h.defs)) (sym h.version_is) h.active;
          lane_is = h.lane_is;
          entered = at_version ∙ ap Confirmed (sym h.version_is);
        };
        lines = body_lines h.made.0.0;
        size = refl;
      };
      form_is = h.form_is;
      payload_is = refl;
      known = reads.version ∙ entered.known ∙ sym h.version_is;
      loaded = subst (HasLoaded v.clock b.clock Version) (sym h.version_is)
          (loaded_within v.clock v.clock a.clock b.clock Version version (later_self v.clock) entered.loaded
          reads.extends.clock);
    }

module _ (v b : View) (form : Form) (payload : List ℕ) (prepared : Prepared) (r : CanPlaceFor v form payload prepared b) where
  -- it goes on
  on_way : OnlyIngests v b
  on_way = on_keeps v b r.keeps

  -- and wasn't shut
  unshut : v.shut ≡ None
  unshut = sym (ap (λ (z : View). z.shut) r.keeps.frame) ∙ r.can.claim.ready

  -- the record that the payload is, as the pass knows it later
  record_for : (u : View) → Learns b u → u.lane ≡ b.lane → IsRecordFor u form payload r.can.fits.made.0.0
  record_for u learns lane = record {
    defs = r.can.fits.defs;
    origin = r.can.fits.origin;
    parts = subst (λ (z : List ℕ). ArePartsFor r.can.fits.defs r.can.fits.origin z r.can.fits.made.0.0) r.payload_is r.can.fits.made.0.1;
    form_is = r.form_is;
    lane_is = r.can.fits.lane_is ∙ sym lane;
    active = knows_later b u learns r.can.fits.origin.version (map text_of r.can.fits.defs) r.can.fits.active;
  }

  -- the record was placed
  pub has_started : (pending : Pending) (u : View) → IsInPlace b prepared r.can pending u
      → HasStarted v form payload pending u
  has_started pending u placed =
      let fresh = placed.fresh in
      let count = r.keeps.count in
      let number = placed.number_is in
      let counted = placed.counted in
      record {
        on = on_both v b u on_way placed.on;
        unshut = unshut;
        waits = record {
          flight = placed.flight;
          ready = placed.ready;
          stored = placed.stored;
          number_is = placed.number_is;
        };
        parts = r.can.fits.made.0.0;
        are = record_for u placed.on.learns (on_lane placed.on);
        words = subst (λ (z : ℕ). HoldsParts (record r.can.fits.made.0.0 { number = z }) u) placed.number_is placed.words;
        fresh = omega arith;
        counted = omega arith;
        shut = placed.shut ∙ ap (λ (z : View). z.shut) r.keeps.frame;
        own = placed.own ∙ ap (λ (z : View). z.own) r.keeps.frame;
        voids = found_both (λ kind. kind ≡ Void) v b u (found_same (λ kind. kind ≡ Void) v b r.keeps.found) placed.voids;
      }

  -- the claim shut the pass, which then left
  pub is_full : (shut : Shut) (u c : View) → IsShutBy b r.can.lines shut u → c ≡ after_retire u
      → IsFull v form payload shut c
  is_full shut u c is retired =
      let left = on_retire u in
      subst (IsFull v form payload shut) (sym retired) (record {
        left = record {
          on = on_both v u (after_retire u) (on_both v b u on_way is.on) left;
          outside = refl;
          idle = is.idle;
          own = is.own ∙ ap (λ (z : View). z.own) r.keeps.frame;
        };
        shut_is = is.shut_is;
        by_claim = inr (record {
          unshut = unshut;
          mark = is.mark;
          parts = r.can.fits.made.0.0;
          are = record_for (after_retire u) (learns_both b u (after_retire u) is.on.learns left.learns) (on_lane is.on);
          lines_are = is.lines_is ∙ r.can.size;
          version_is = r.can.fits.made.0.1.version_is ∙ sym (is.version ∙ r.known);
          loaded = subst (HasLoaded v.clock (after_retire u).clock Version) (sym r.can.fits.made.0.1.version_is)
              (loaded_within v.clock v.clock b.clock (after_retire u).clock Version r.can.fits.origin.version
              (later_self v.clock) r.loaded
              (later_both b.clock u.clock (after_retire u).clock is.on.clock (later_ticked u.clock)));
        });
        unstored = found_both (λ kind. kind ≢ Stored) v b (after_retire u)
            (found_same (λ kind. kind ≢ Stored) v b r.keeps.found) is.unstored;
      })
