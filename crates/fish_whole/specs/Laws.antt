-- What the whole has of what passes knew, as laws.
use Rattle.std.specs.Prelude.{ℕ, ◌≡◌, ◌+◌, List, [], length, map}
use Rattle.fish_catalog.specs.Listing.{listed_of}
use Rattle.fish_catalog.specs.declared.entry.Entry.{Entry}
use Rattle.fish_catalog.specs.declared.listed.Listed.{Listed}
use Rattle.fish_rule.specs.ClosedLog.{IsClosed}
use Rattle.fish_rule.specs.Registry.{KnowsDefinitions, definitions_at}
use Rattle.fish_rule.specs.declared.close.Remains.{Remains}
use Rattle.fish_rule.specs.declared.view.View.{View}
use Rattle.fish_whole.specs.Whole.{FitsPast, GoesOn, IsKnown, IsPrefix, MayEnd, MustHold, Whole, behind_table}

-- the definitions that a pass knows at a version are those of the whole
abbrev pub DefinitionsStay : Type 0
DefinitionsStay = (past : Whole) (v : View) (n : ℕ) (rows : List Listed) → KnowsDefinitions v.about v.learned n rows
    → MustHold past v (λ w. w.rows n ≡ rows)

-- the whole begins with each part of the log that a pass knows for good
abbrev pub PartsStay : Type 0
PartsStay = (past : Whole) (v : View) (log : List Entry) → IsKnown past v log
    → MustHold past v (λ w. IsPrefix log w.log)

-- what follows a table that its control pass closed may be in the end
abbrev pub TablesEnd : Type 0
TablesEnd = (past : Whole) (v : View) (remains : Remains) (c : IsClosed v remains) → FitsPast past v → v.lane ≡ 1
    → v.out ≡ []
    → MayEnd past v (behind_table past v remains c)

-- a state goes on to the first one of a table that begins where its own was closed, at the version and with the
-- definitions there
abbrev pub TablesGoOn : Type 0
TablesGoOn = (past : Whole) (v u : View) (remains : Remains) (c : IsClosed v remains) → FitsPast past v → v.lane ≡ 1
    → v.out ≡ []
    → u.about.number ≡ v.about.number + length remains.log → u.about.version ≡ remains.version
    → definitions_at v.about c.moment.registry remains.version ≡ map listed_of u.about.rows.value
    → (next : Whole) × GoesOn past v next u
