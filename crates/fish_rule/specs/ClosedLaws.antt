-- What a closed log has of what passes knew, as laws.
use Rattle.std.specs.Prelude.{ℕ, ◌≡◌, ◌+◌, ◌≤◌, ◌↔◌, List, Some, length, slice_get, slice_index}
use Rattle.fish_catalog.specs.declared.entry.Entry.{Entry}
use Rattle.fish_catalog.specs.declared.entry.Entry.TheVariants as entry
use Rattle.fish_rule.specs.ClosedLog.{IsClosed}
use Rattle.fish_rule.specs.Logs.{Learns, KnowsAs}
use Rattle.fish_rule.specs.declared.close.Remains.{Remains}
use Rattle.fish_rule.specs.Parts.{IsOlderPlace}
use Rattle.fish_rule.specs.Registry.{definitions_at}
use Rattle.fish_rule.specs.Views.{Among, Has}
use Rattle.fish_rule.specs.declared.view.Key.{Key}
use Rattle.fish_rule.specs.declared.view.View.{View}
use Rattle.fish_value.specs.declared.field.Form.{Form}
use Rattle.fish_rule.specs.World.{last_line, last_number}

-- the entry i of a closed log is a record of lane l
abbrev pub IsOfLane : List Entry → ℕ → ℕ → Type 0
IsOfLane entries l i = (form : Form) × (payload : List ℕ) × (slice_get entries i ≡ Some (entry.Stored l form payload))

-- an entry that a pass was told of is the one at its number in each log that is closed for a pass that knows as much
abbrev pub KnownIsClosed : Type 0
KnownIsClosed = (v u : View) (i : ℕ) (e : Entry) (remains : Remains) → Learns v u → IsClosed u remains
    → KnowsAs v (u.about.number + i) e → slice_get remains.log i ≡ Some e

-- the records of a lane that a closed log has are exactly those that the closing pass has as its lane's own
abbrev pub OwnIsClosed : Type 0
OwnIsClosed = (v : View) (remains : Remains) (l i : ℕ) → IsClosed v remains → Has v.lane v.out l
    → Among (record { lane = l; number = v.about.number + i }) v.own ↔ IsOfLane remains.log l i

-- the definitions at the version that is left are those that the closing control pass knows
abbrev pub DefinitionsAreClosed : Type 0
DefinitionsAreClosed = (v : View) (remains : Remains) → (c : IsClosed v remains) → v.lane ≡ 1
    → definitions_at v.about c.moment.registry remains.version ≡ v.rows

-- what is left of a log has numbers and lines within the bounds of a start, a version, and one head for each bucket, of
-- a record before its last line
pub record MayFollow (k : Key) (remains : Remains) : Type 0 where
  pub number : remains.base + length remains.log ≤ last_number
  pub line : remains.lines ≤ last_line
  pub version : remains.version ≤ 512
  pub heads : length remains.heads ≡ k.buckets
  pub older : (b : ℕ) → IsOlderPlace remains.lines (slice_index remains.heads b)

-- a log may begin where a closed one ends
abbrev pub EndsWhereNextBegins : Type 0
EndsWhereNextBegins = (v : View) (remains : Remains) → IsClosed v remains → MayFollow v.about remains
