-- The definitions between the items of a run's rounds, and which of them a crash may leave.
use Rattle.std.specs.Prelude.{ℕ, List, [], ◌∷◌, ◌++◌, Bool, true, false, map}
use Rattle.fish_catalog.specs.Clamps.{clamped}
use Rattle.fish_catalog.specs.declared.commit.Commit.{Commit}
use Rattle.fish_catalog.specs.declared.row.CatRow.{CatRow}
use Rattle.fish_lanes.specs.CommitRows.{left_rows, rows_between}
use Rattle.fish_lanes.specs.Registering.{Registry}
use Rattle.fish_run.specs.Blocks.{Round, after_round, after_rounds, begun_for, first_items, first_registry}
use Rattle.fish_store.specs.CommitRows.{HasRowsOf}

-- the rows before each round, between the items of its first lane, and after all rounds
abbrev pub rows_through : Registry → List Round → List (List CatRow)
rows_through r [] = r.rows ∷ []
rows_through r (b ∷ rounds) = r.rows ∷ rows_between (begun_for b r) (first_items b.lanes)
    ++ rows_through (after_round (begun_for b r) b) rounds

-- what a commit may have kept before a new table is begun: all is committed for it
abbrev pub by_roll : Bool → Registry → List (List CatRow) → List (List CatRow)
by_roll true r was = r.rows ∷ []
by_roll false r was = was

-- of some rows, and of those in the rounds, those since the last checkpoint or the last new table
abbrev pub recent_rows : Registry → List Round → List (List CatRow) → List (List CatRow)
recent_rows r [] was = was
recent_rows r (b ∷ rounds) was = recent_rows (after_round (begun_for b r) b) rounds
    (left_rows (begun_for b r) (first_items b.lanes) (by_roll b.fresh r was))

-- and those after all rounds
abbrev pub last_rows : Registry → List Round → List (List CatRow) → List (List CatRow)
last_rows r rounds was = recent_rows r rounds was ++ (after_rounds r rounds).rows ∷ []

-- ---- crashes

-- the registry with which a run begins of a store with this commit
abbrev pub registry_at : Commit → Registry
registry_at c = first_registry (map (clamped c.count) c.rows)

-- a run of a store with this commit: what a crash leaves now has the rows of the last checkpoint that the rounds tell,
-- or of a moment since; and what one may have left since the store was opened, those of the commit, or of a moment
pub record KeepsDefinitions (now since : List ℕ → Type 0) (c : Commit) (rounds : List Round) : Type 0 where
  pub left : (i : List ℕ) → now i → HasRowsOf (last_rows (registry_at c) rounds (c.rows ∷ [])) i
  pub were : (i : List ℕ) → since i → HasRowsOf (c.rows ∷ rows_through (registry_at c) rounds) i
