-- The tables of a run: when a new one is begun, the one that is left, and the shape and the definitions of the store.
use Rattle.std.specs.Prelude.{ℕ, ◌≡◌, ◌+◌, ◌<◌, ◌≤◌, ◌⊎◌, List, [], ◌∷◌, Bool, false, true}
use Rattle.std.specs.Prelude.{Option, length, map, ⊤}
use Rattle.fish_catalog.specs.Clamps.{clamped}
use Rattle.fish_catalog.specs.declared.commit.Commit.{Commit}
use Rattle.fish_catalog.specs.declared.row.CatRow.{CatRow}
use Rattle.fish_lanes.specs.Outcome.{IsFullIn}
use Rattle.fish_recover.specs.declared.opened.Opened.{Opened}
use Rattle.fish_rule.specs.ClosedLog.{IsClosed}
use Rattle.fish_rule.specs.Start.{table_lines}
use Rattle.fish_rule.specs.declared.close.Remains.{Remains}
use Rattle.fish_rule.specs.declared.view.View.{View}
use Rattle.fish_run.specs.Blocks.{AreInOne, FullsAgree, IsFullOf, Round, after_rounds, first_registry, left_table}
use Rattle.fish_run.specs.Blocks.{with_cut}

-- the log has over 268,416,000 entries, or its table ends at the last line that a log may have
abbrev pub IsNearLimits : ℕ → ℕ → Type 0
IsNearLimits count end = (268416000 < count) ⊎ (68719176736 ≤ end)

-- whether a new table was begun for the next one of these rounds, or after all of them
abbrev pub is_next_new : List Round → Bool → Bool
is_next_new [] fresh = fresh
is_next_new (b ∷ rounds) fresh = b.fresh

-- the number at which the table of a round begins, where that of before it begins at this one
abbrev pub table_by : Bool → ℕ → ℕ → ℕ
table_by false from first = first
table_by true from first = from

abbrev pub table_of : ℕ → Round → ℕ
table_of first b = table_by b.fresh b.span.from first

-- a round in a table that begins at a number. Where an item tells that it is full, a new one may be begun, or it has no
-- entry and the log is near its limits; and a new one is begun only where an item tells so, and it has an entry
pub record IsRenewedBy (first : ℕ) (b : Round) (may new : Bool) : Type 0 where
  pub full : (line lines end : ℕ) → IsFullIn b.lanes line lines end
      → (may ≡ true) ⊎ ((b.span.to ≡ first) × IsNearLimits b.span.to end)
  pub needed : new ≡ true
      → (first < b.span.to) × ((line : ℕ) × (lines : ℕ) × (end : ℕ) × IsFullIn b.lanes line lines end)

-- so it is of rounds, of which the first begins in such a table; after the last one a new one may be begun, and is
abbrev pub AreRenewed : ℕ → List Round → Bool → Bool → Type 0
AreRenewed first [] may new = ⊤
AreRenewed first (b ∷ rounds) may new =
    IsRenewedBy (table_of first b) b (is_next_new rounds may) (is_next_new rounds new)
    × AreRenewed (table_of first b) rounds may new

-- what is left is that of a closed log, with the buckets of the table with which the run began; refusals of a full log
-- in the rounds of the table that is left agree, by the end that such a table has, and are of lines past what is left;
-- and where it begins where the first one did, it is the first one, and no other was begun
pub record LastTable (o : Opened) (remains : Remains) (fresh : Bool) (rounds : List Round)
    (cut : Option Round) : Type 0 where
  pub view : View
  pub closed : IsClosed view remains
  pub heads : length remains.heads ≡ o.log.key.buckets
  pub fulls : FullsAgree (left_table fresh [] rounds cut) view.about.end
  pub past : (line lines e : ℕ) → IsFullOf (left_table fresh [] rounds cut) line lines e → remains.lines ≤ line
  pub end : view.about.end ≡ view.about.line + table_lines o.log.shape.pages view.about.number view.about.line
  pub same : remains.base ≡ o.log.key.number → (view.about ≡ o.log.key) × AreInOne (with_cut rounds cut)
      × (fresh ≡ false)

-- the rows of the definitions of a store with this commit, after these rounds
abbrev pub rows_over : Commit → List Round → List CatRow
rows_over c rounds = (after_rounds (first_registry (map (clamped c.count) c.rows)) rounds).rows
