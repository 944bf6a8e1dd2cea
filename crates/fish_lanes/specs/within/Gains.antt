-- What a pass gains by what it stores.
use Rattle.std.specs.Prelude.{ℕ, ◌≡◌, ◌+◌, ◌<◌, ◌++◌, List, [], ◌∷◌, Some, None, ⊤}
use Rattle.fish_lanes.specs.Records.{LaneRow}
use Rattle.fish_lanes.specs.within.Records.{Ascends, entry_of, owned}
use Rattle.fish_rule.specs.Clocks.{IsLater}
use Rattle.fish_rule.specs.Logs.{Learns, KnowsAs}
use Rattle.fish_rule.specs.declared.view.Epoch.TheVariants.{Out}
use Rattle.fish_rule.specs.declared.view.View.{View}
use Rattle.fish_lanes.specs.Gains.{IsShutSaid, KeepsShut}

-- in every later moment each row is the entry at its number
abbrev pub AreRowsKnown : View → ℕ → List LaneRow → Type 0
AreRowsKnown v lane [] = ⊤
AreRowsKnown v lane (r ∷ rows) = KnowsAs v r.number (entry_of lane r) × AreRowsKnown v lane rows

-- the pass is shut by a claim of so many lines at a line, which ends past the log's end
pub record IsFullBy (u : View) (line lines end : ℕ) : Type 0 where
  pub shut : u.shut ≡ Some (record { line = line; lines = lines; end = end })
  pub end_is : end ≡ u.about.end
  pub past : end < line + lines

-- the second view is of the same pass some steps later, with the same lanes out, and knows what the first knew
pub record KeepsLane (v u : View) : Type 0 where
  pub learns : Learns v u
  pub clock : IsLater v.clock u.clock
  pub lane : u.lane ≡ v.lane
  pub out : u.out ≡ v.out

-- the pass is out and has nothing in flight; its own numbers have gained these rows and nothing else, each under a
-- number that it hadn't counted before
pub record Gains (v u : View) (rows : List LaneRow) : Type 0 where
  pub on : KeepsLane v u
  pub outside : u.epoch ≡ Out
  pub idle : u.flight ≡ None
  pub own : u.own ≡ v.own ++ owned v.lane rows
  pub ascends : Ascends v.learned.count rows u.learned.count
  pub told : AreRowsKnown u v.lane rows
  pub shut : KeepsShut v u
  pub marks : IsShutSaid v → IsShutSaid u
