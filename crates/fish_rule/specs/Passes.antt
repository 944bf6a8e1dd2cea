-- What a pass of the program knows, and which log it steps on.
use Rattle.std.specs.Prelude.{◌≡◌, ◌≤◌}
use Rattle.fish_rule.specs.Table.{IsOfMoment}
use Rattle.fish_rule.specs.declared.table.Log.{Log}
use Rattle.fish_rule.specs.declared.table.Pass.{Pass}
use Rattle.fish_rule.specs.declared.table.Walk.{Walk}
use Rattle.fish_rule.specs.declared.view.View.{View}

-- the pass's view
abbrev pub view : Pass → View
view p = p.seat.me.0

-- the walk that a pass keeps
abbrev pub walk_of : Pass → Walk
walk_of p = p.walk

-- the pass steps on this log, with a lane from 1 on, and some moment of it meets the rule and has the pass's view
pub record IsPassOf (log : Log) (p : Pass) : Type 0 where
  pub table : p.seat.table_id ≡ log.table.shared.table_id
  pub about : (view p).about ≡ log.key
  pub live : 1 ≤ (view p).lane
  pub stands : IsOfMoment (view p)

-- two values of one log
abbrev pub IsOf : Log → Log → Type 0
IsOf log other = other.table.shared.table_id ≡ log.table.shared.table_id
