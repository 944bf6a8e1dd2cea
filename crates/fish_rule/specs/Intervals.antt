-- Intervals: numbers of the log whose records all have their key entries by a definition.
use Rattle.std.specs.Prelude.{ℕ, ◌≡◌, ◌<◌, ◌≤◌, suc, List, Some, map, slice_get}
use mathlib.Core.Option.{some}
use Rattle.std.proofs.Math.ListN.{get_elem?}
use Rattle.fish_catalog.specs.Covering.{Covers}
use Rattle.fish_catalog.specs.declared.listed.Listed.{Listed}
use Rattle.fish_catalog.specs.declared.row.CatRow.{CatRow}
use Rattle.fish_layout.specs.declared.parts.BodyParts.{BodyParts}
use Rattle.fish_rule.specs.Keys.{IsKeyedOf, text_of}
use Rattle.fish_rule.specs.Logs.{Learns}
use Rattle.fish_rule.specs.Regions.{code}
use Rattle.fish_rule.specs.Registry.{AreActiveAt, definitions_at, row_at, version_in}
use Rattle.fish_rule.specs.Rule.{Rule}
use Rattle.fish_rule.specs.Table.{IsOfMoment}
use Rattle.fish_rule.specs.Views.{Among}
use Rattle.fish_rule.specs.World.{World, body, high, low}
use Rattle.fish_rule.specs.declared.view.Key.{Key}
use Rattle.fish_rule.specs.declared.view.Kind.TheVariants.{Stored}
use Rattle.fish_rule.specs.declared.view.Unended.{Unended}
use Rattle.fish_rule.specs.declared.view.View.{View}

-- a pass knows that the index of a row begins at a number, and that its definition had not ended below another
pub record HasInterval (v : View) (id from below : ℕ) : Type 0 where
  pub few : id < 256
  pub begins : Among (record { index = row_at id 0; value = suc from }) v.learned.words
  pub unended : Unended
  pub among : Among unended v.learned.unended
  pub of : unended.id ≡ id
  pub upto : below ≤ unended.below

-- the record with number n has the keys of a version at which this text, and no other, is active under the id
pub record IsIndexed (k : Key) (w : World) (id : ℕ) (text : List ℕ) (n : ℕ) : Type 0 where
  pub version : ℕ
  pub lane : ℕ
  pub lines : ℕ
  pub parts : BodyParts
  pub keyed : IsKeyedOf (AreActiveAt k w.registry) version lane n lines (body w.log (low (w.dir n))) parts
  pub active : Among {A = ℕ × List ℕ} (id, text) (map text_of keyed.keys.defs)
  pub only : (t : List ℕ) → Among {A = ℕ × List ℕ} (id, t) (map text_of keyed.keys.defs) → t ≡ text

-- in every moment of a pass that knows an interval, each of its records has the keys of a version at which the row's
-- text is active
abbrev pub IntervalsAreIndexed : Type 0
IntervalsAreIndexed = (v : View) (w : World) (seat id from below n : ℕ) → Rule v.about w
    → get_elem? w.views seat ≡ some v
    → HasInterval v id from below → v.about.number ≤ n → from ≤ n → n < below → high (w.dir n) ≡ code Stored
    → (l : Listed) × (slice_get (definitions_at v.about w.registry (version_in w.registry)) id ≡ Some l)
    × IsIndexed v.about w id l.def n

-- a pass that knows as much knows the interval
abbrev pub IntervalsStay : Type 0
IntervalsStay = (v u : View) (id from below : ℕ) → Learns v u → HasInterval v id from below
    → HasInterval u id from below

-- ---- below the number at which the table begins

-- a number below it that lies in an interval is one that the row covers with which the table begins
abbrev pub IntervalsAreCovered : Type 0
IntervalsAreCovered = (v : View) (id from below n : ℕ) → IsOfMoment v → HasInterval v id from below → from ≤ n
    → n < below
    → n < v.about.number → (row : CatRow) × (slice_get v.about.rows.value id ≡ Some row) × Covers row n

-- and one that this row covers lies between the boundaries that a pass has read
abbrev pub CoveredAreBetween : Type 0
CoveredAreBetween = (v : View) (id n : ℕ) (row : CatRow) → IsOfMoment v → id < 256
    → slice_get v.about.rows.value id ≡ Some row → Covers row n → n < v.about.number
    → ((from : ℕ) → Among (record { index = row_at id 0; value = suc from }) v.learned.words → from ≤ n)
    × ((to : ℕ) → Among (record { index = row_at id 1; value = suc to }) v.learned.words → n < to)
