-- Parts of a log, and the records in them.
use Rattle.std.specs.Prelude.{ℕ, ◌≡◌, ◌-◌, ◌≤◌, List, [], ◌∷◌, drop, length, map, take}
use Rattle.fish_catalog.specs.declared.entry.Entry.{Entry}
use Rattle.fish_catalog.specs.declared.entry.Entry.TheVariants as entry
use Rattle.fish_gen.specs.Sample.{sample_text}
use Rattle.fish_lanes.specs.Records.{contents_of_rows, rows_of_lane}
use Rattle.fish_lanes.specs.Telling.{all_of}
use Rattle.fish_sample.specs.Sample.{share}
use Rattle.fish_value.specs.declared.field.Form.TheVariants.{Json}

-- the entries from one number on and below another
abbrev pub log_part : ℕ → ℕ → List Entry → List Entry
log_part a b log = take (b - a) (drop a log)

-- each entry meets P
abbrev pub EachEntry : (Entry → Type 0) → List Entry → Type 0
EachEntry P [] = Unit {0}
EachEntry P (e ∷ es) = P e × EachEntry P es

-- it is no record
abbrev pub IsVoid : Entry → Type 0
IsVoid (entry.Stored lane form payload) = ⊥
IsVoid entry.Void = Unit {0}

-- a record is of one of so many lanes
abbrev pub IsOfLanes : ℕ → Entry → Type 0
IsOfLanes many (entry.Stored lane form payload) = (1 ≤ lane) × (lane ≤ many)
IsOfLanes many entry.Void = Unit {0}

-- a part has the records of four lanes
pub record HasRecords (number a b : ℕ) (log : List Entry) : Type 0 where
  pub lanes : EachEntry (IsOfLanes 4) (log_part a b log)
  pub rows : (lane : ℕ) → 1 ≤ lane → lane ≤ 4
      → contents_of_rows (rows_of_lane log a b lane) ≡ all_of Json (map sample_text (share number lane))

-- and what comes before and after it has none
pub record HasShares (number a b : ℕ) (log : List Entry) : Type 0 where
  pub first : a ≤ b
  pub second : b ≤ length log
  pub before : EachEntry IsVoid (log_part 0 a log)
  pub records : HasRecords number a b log
  pub after : EachEntry IsVoid (log_part b (length log) log)
