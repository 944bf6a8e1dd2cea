-- A record that was prepared for the version of the start may be placed by a pass that is entered there.
use Rattle.std.proofs.Common.{◌≡◌, ◌≤◌, ℕ, All, List, map, refl, sym, ap, ◌∙◌, subst, arith, None, Some}
use Rattle.bench.specs.Stores.{IsEntered, IsStorable}
use Rattle.fish_claim.proofs.Bodies.{Placed, placed_law}
use Rattle.fish_claim.specs.Claims.{IsClaimed}
use Rattle.fish_claim.specs.declared.claimed.Claimed.TheVariants as answer
use Rattle.fish_ingest.proofs.PreparationDefs.{knows_active}
use Rattle.fish_ingest.specs.within.Placement.{CanPlace}
use Rattle.fish_ingest.specs.Placement.{HasWrittenRegion}
use Rattle.fish_ingest.specs.declared.preparation.Prepared.{Prepared}
use Rattle.fish_layout.specs.Body.{body_lines}
use Rattle.fish_rule.proofs.laws.Versions.{entered_from}
use Rattle.fish_rule.specs.Keys.{text_of}
use Rattle.fish_rule.specs.within.Keys.{AreActive}
use Rattle.fish_rule.specs.Registry.{KnowsActive}
use Rattle.fish_rule.specs.SpaceSteps.{after_publish_region, flight_at}
use Rattle.fish_rule.specs.Table.{IsOfMoment}
use Rattle.fish_rule.specs.declared.table.Log.{Log}
use Rattle.fish_rule.specs.declared.view.Epoch.TheVariants.{Confirmed}
use Rattle.fish_rule.specs.declared.view.Key.{Key}
use Rattle.fish_rule.specs.declared.view.View.{View}

module _ (log : Log) (v : View) (prepared : Prepared) (about : v.about ≡ log.key) (stands : IsOfMoment v)
    (entered : IsEntered v) (may : IsStorable log v.lane prepared) where
  -- the definitions of the start are those of the record, at its version
  active : KnowsActive v.about v.learned may.2.origin.version (map text_of may.0)
  active =
      let from = entered_from v.about v 0 refl stands entered.epoch in
      let version = may.2.version_is in
      knows_active v.about v.learned may.2.origin.version may.0 (omega arith) (omega arith)
      (subst (λ (k : Key). AreActive k.rows.value may.0) (sym about) may.1)

  -- so it may be placed
  pub can_place : v.shut ≡ None → CanPlace v prepared
  can_place ready = record {
    claim = record { live = entered.live; idle = entered.idle; ready = ready; version = 0; entered = entered.epoch };
    fits = record {
      defs = may.0;
      origin = may.2.origin;
      payload = may.2.payload;
      made = may.2.made;
      active = active;
      lane_is = may.2.lane_is;
      entered = entered.epoch ∙ ap (λ (n : ℕ). Confirmed n) (sym may.2.version_is);
    };
    lines = body_lines may.2.made.0.0;
    size = refl;
  }

-- records for a lane are for the same lane later
pub storable_on : (log : Log) (before after : ℕ) (records : List Prepared) → after ≡ before
    → All (IsStorable log before) records → All (IsStorable log after) records
storable_on log before after records same = subst (λ (lane : ℕ). All (IsStorable log lane) records) (sym same)

-- a pass goes on as it was entered
entered_on : (v u : View) → IsEntered v → u.lane ≡ v.lane → u.flight ≡ None → u.epoch ≡ v.epoch → IsEntered u
entered_on v u entered lane idle epoch =
    record { live = subst (λ (n : ℕ). 1 ≤ n) (sym lane) entered.live; idle = idle; epoch = epoch ∙ entered.epoch }

-- so it does after the publication of a record that was placed
module _ (v u : View) (lines number line : ℕ) (claimed : IsClaimed v lines (answer.Placed number line) u) where
  placed : Placed v lines number line u
  placed = placed_law v u lines number line claimed

  pub flying : u.flight ≡ Some (flight_at number line lines)
  flying = ap (λ (z : View). z.flight) placed.known

  module _ (w t : View) (written : HasWrittenRegion u (flight_at number line lines) w)
      (is : t ≡ after_publish_region w written.flight) where
    pub lane_published : t.lane ≡ v.lane
    lane_published = ap (λ (z : View). z.lane) is ∙ ap (λ (z : View). z.lane) written.only.frame ∙ ap (λ (z : View). z.lane) placed.known

    pub entered_published : IsEntered v → IsEntered t
    entered_published entered = entered_on v t entered lane_published (ap (λ (z : View). z.flight) is)
        (ap (λ (z : View). z.epoch) is ∙ ap (λ (z : View). z.epoch) written.only.frame ∙ ap (λ (z : View). z.epoch) placed.known)
