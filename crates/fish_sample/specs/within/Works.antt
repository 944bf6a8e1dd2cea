-- What the lanes of a sample are to do.
use Rattle.std.specs.Prelude.{ℕ, ◌≡◌, ◌+◌, ◌*◌, List, [], ◌∷◌, ◌++◌, None, codes, decimal, false, length, map}
use Rattle.std.specs.Prelude.{pos, true}
use Rattle.std.specs.List.{range_with_len}
use Rattle.fish_lang.specs.Definition.{definition_of}
use Rattle.fish_lang.specs.Language.{IsAccepted}
use Rattle.fish_lang.specs.declared.definition.Def.{Def}
use Rattle.fish_lanes.specs.Blocks.{EachLane, IsNewLane}
use Rattle.fish_lanes.specs.declared.lane.Lane.{Lane}
use Rattle.fish_lanes.specs.declared.work.Work.{Work}
use Rattle.fish_lanes.specs.declared.work.Work.TheVariants as work
use Rattle.fish_lines.specs.declared.resuming.Begin.TheVariants.{Start}
use Rattle.fish_sample.specs.within.Files.{sample_lines}
use Rattle.fish_sample.specs.Sample.{AreDefined, Definitions, share}
use Rattle.fish_scan.specs.declared.ask.How.TheVariants.{Auto}
use Rattle.fish_value.specs.declared.field.Form.TheVariants.{Json}
use Rattle.fish_value.specs.declared.value.Value.{Value}
use Rattle.fish_value.specs.declared.value.Value.TheVariants as value

-- ---- definitions

-- a name, and a definition
abbrev pub Naming : Type 0
Naming = List ℕ × Def

abbrev pub register_work : Naming → Work
register_work g = work.Register g.0 g.1

-- these are the definitions, each by its name
pub record AreNamings (d : Definitions) (works : List Work) : Type 0 where
  pub kind : Def
  pub late : Def
  pub band : Def
  pub are : works ≡ map register_work ((codes "kind", kind) ∷ (codes "late", late) ∷ (codes "band", band) ∷ [])
  pub kind_is : definition_of kind ≡ d.kind
  pub late_is : definition_of late ≡ d.late
  pub band_is : definition_of band ≡ d.band

-- these register the definitions
pub record AreDefining (works : List Work) : Type 0 where
  pub definitions : Definitions
  pub defined : AreDefined definitions
  pub namings : AreNamings definitions works

-- one more registers the definition that a source is
pub record Defines (name source : List ℕ) (old new : List Work) : Type 0 where
  pub def : Def
  pub accepted : IsAccepted source (definition_of def)
  pub more : new ≡ old ++ register_work (name, def) ∷ []

-- a lane that is to register them
pub record IsDefiningLane (x : Lane) : Type 0 where
  pub new : IsNewLane 1 x
  pub works : AreDefining x.works

-- ---- shares

abbrev pub ingest_work : List ℕ → List ℕ → Work
ingest_work name file = work.Ingest Json (Start false) name file

abbrev pub IsShareWork : ℕ → ℕ → Work → Type 0
IsShareWork number lane w = (name : List ℕ) × (w ≡ ingest_work name (sample_lines (share number lane)))

-- a lane is to store its share
pub record IsShareLane (number lane : ℕ) (x : Lane) : Type 0 where
  pub new : IsNewLane lane x
  pub name : List ℕ
  pub works : x.works ≡ ingest_work name (sample_lines (share number lane)) ∷ []

-- one more lane is to
pub record HasPushed (number count : ℕ) (old new : List Lane) : Type 0 where
  pub lane : Lane
  pub is : IsShareLane number count lane
  pub more : new ≡ old ++ lane ∷ []

-- so many lanes, from 1 on, are
pub record AreShareLanes (number count : ℕ) (lanes : List Lane) : Type 0 where
  pub many : length lanes ≡ count
  pub each : EachLane (λ i x. IsShareLane number (i + 1) x) lanes

-- ---- scans

-- all records with a value are asked for
abbrev pub scan_by : List ℕ → Value → Work
scan_by name asked = work.Scan (record { name = name; value = asked; from = None; to = None; how = Auto })

abbrev pub scan_kind : ℕ → Work
scan_kind n = scan_by (codes "kind") (value.Text (codes "T" ++ decimal n))

abbrev pub scan_band : ℕ → Work
scan_band n = scan_by (codes "band") (value.Int (pos (n * 100)))

abbrev pub scan_late : Work
scan_late = scan_by (codes "late") (value.Bool true)

-- those of the first kinds, and of the first bands
abbrev pub kind_scans : ℕ → List Work
kind_scans n = map scan_kind (range_with_len 0 n)

abbrev pub band_scans : ℕ → List Work
band_scans n = map scan_band (range_with_len 0 n)

-- and all
abbrev pub all_scans : List Work
all_scans = kind_scans 7 ++ scan_late ∷ band_scans 10

-- a lane that is to scan each value
pub record IsScanningLane (x : Lane) : Type 0 where
  pub new : IsNewLane 1 x
  pub works : x.works ≡ all_scans
