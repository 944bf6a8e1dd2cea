-- The records that a lane is to store, and when it may.
use Rattle.std.specs.Prelude.{ℕ, ◌≡◌, ◌≤◌, List, All, None}
use Rattle.bench.specs.Opening.{IsReady}
use Rattle.bench.specs.declared.stores.StoreLane.{StoreLane}
use Rattle.fish_ingest.specs.Preparation.{IsPreparedFor}
use Rattle.fish_ingest.specs.declared.preparation.Origin.{Origin}
use Rattle.fish_ingest.specs.declared.preparation.Prepared.{Prepared}
use Rattle.fish_psf.specs.declared.key.ActiveDef.{ActiveDef}
use Rattle.fish_rule.specs.within.Keys.{AreActive}
use Rattle.fish_rule.specs.Passes.{view}
use Rattle.fish_rule.specs.declared.table.Log.{Log}
use Rattle.fish_rule.specs.declared.view.Epoch.TheVariants.{Confirmed}
use Rattle.fish_rule.specs.declared.view.View.{View}

-- a record was prepared for a lane under these definitions, at version 0
pub record IsRecordOf (lane : ℕ) (defs : List ActiveDef) (prepared : Prepared) : Type 0 where
  pub origin : Origin
  pub payload : List ℕ
  pub made : IsPreparedFor defs origin payload prepared
  pub lane_is : origin.lane ≡ lane
  pub version_is : origin.version ≡ 0

-- a record was prepared for a lane under the definitions that the log begins with
abbrev pub IsStorable : Log → ℕ → Prepared → Type 0
IsStorable log lane prepared =
    (defs : List ActiveDef) × AreActive log.key.rows.value defs × IsRecordOf lane defs prepared

-- the pass is entered at the version of the records, and has nothing in flight
pub record IsEntered (v : View) : Type 0 where
  pub live : 1 ≤ v.lane
  pub idle : v.flight ≡ None
  pub epoch : v.epoch ≡ Confirmed 0

-- the lane's pass is ready, and its records may be stored
pub record IsStoreLane (log : Log) (lane : StoreLane) : Type 0 where
  pub pass : IsReady log lane.pass
  pub records : All (IsStorable log (view lane.pass).lane) lane.records.items
