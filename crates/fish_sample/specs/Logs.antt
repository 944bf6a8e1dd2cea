-- Logs that hold the records of a sample.
use Rattle.std.specs.Prelude.{ℕ, ◌≡◌, ◌≤◌, List, Some, length, map, slice_get}
use Rattle.fish_catalog.specs.declared.entry.Entry.{Entry}
use Rattle.fish_catalog.specs.declared.entry.Entry.TheVariants as entry
use Rattle.fish_gen.specs.Sample.{sample_text}
use Rattle.fish_lanes.specs.Records.{contents_of_lane}
use Rattle.fish_lanes.specs.Telling.{all_of}
use Rattle.fish_sample.specs.Sample.{share}
use Rattle.fish_value.specs.declared.field.Form.{Form}
use Rattle.fish_value.specs.declared.field.Form.TheVariants.{Json}

-- the records of each of four lanes are its share, in order, and no other lane stored any
pub record IsSampleLog (number : ℕ) (log : List Entry) : Type 0 where
  pub shares : (lane : ℕ) → 1 ≤ lane → lane ≤ 4
      → contents_of_lane log 0 (length log) lane ≡ all_of Json (map sample_text (share number lane))
  pub lanes : (n lane : ℕ) (form : Form) (payload : List ℕ) → slice_get log n ≡ Some (entry.Stored lane form payload)
      → (1 ≤ lane) × (lane ≤ 4)
