-- The records that a lane stores in a block, in order, and those of a lane in a log.
use Rattle.std.specs.Prelude.{ℕ, ◌≤◌, suc, List, [], ◌∷◌}
use Rattle.fish_catalog.specs.declared.entry.Entry.{Entry}
use Rattle.fish_catalog.specs.declared.entry.Entry.TheVariants as entry
use Rattle.fish_rule.specs.declared.view.Own.{Own}
use Rattle.fish_lanes.specs.Records.{LaneRow}

-- the entry that a record of a lane is
abbrev pub entry_of : ℕ → LaneRow → Entry
entry_of lane r = entry.Stored lane r.form r.payload

-- the rows as records of a lane
abbrev pub owned : ℕ → List LaneRow → List Own
owned lane [] = []
owned lane (r ∷ rows) = record { lane = lane; number = r.number } ∷ owned lane rows

-- the numbers ascend from one on, below another
abbrev pub Ascends : ℕ → List LaneRow → ℕ → Type 0
Ascends from [] to = from ≤ to
Ascends from (r ∷ rows) to = (from ≤ r.number) × Ascends (suc r.number) rows to
