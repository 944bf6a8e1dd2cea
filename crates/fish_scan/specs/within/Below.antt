-- What the pieces below the base give, and what they may load, on a disk that carries its table. What private clauses
-- need of it.
use Rattle.std.specs.Prelude.{ℕ, ◌≡◌, ◌+◌, ◌≤◌, List}
use Rattle.fish_cold.specs.Carries.{IsPrior}
use Rattle.fish_image.specs.Reached.{Reached}
use Rattle.fish_lang.specs.Definition.{Definition}
use Rattle.fish_plan.specs.Pieces.{piece_from, piece_to}
use Rattle.fish_plan.specs.declared.pieces.Piece.{Piece}
use Rattle.fish_rule.specs.declared.view.View.{View}
use Rattle.fish_scan.specs.Below.{AreOlderAllowed, IsOlderAllowed, older_parses, older_parses_of}
use Rattle.fish_scan.specs.within.Older.{AddsOlder}
use Rattle.fish_value.specs.declared.row.Row.{Row}
use Rattle.fish_value.specs.declared.value.Value.{Value}

-- a piece was read: its rows came after others, its records were parsed, and the loads are allowed
pub record HasReadPiece {image : List ℕ} {count : ℕ} {end : Reached} (prior : IsPrior image count end) (v u : View)
    (def : Definition) (value : Value) (piece : Piece) (before after : List Row) (parsed parses loaded loads : ℕ)
    : Type 0 where
  pub rows : AddsOlder end.entries def value (piece_from piece) (piece_to piece) before after
  pub parses_are : parses ≡ parsed + older_parses_of end.entries piece
  pub walked : ℕ
  pub most : ℕ
  pub allowed : IsOlderAllowed prior u value after piece walked most
  pub own : u.clock.loads ≤ v.clock.loads + walked
  pub few : loads ≤ loaded + walked + most

-- and so were all pieces of a range
pub record HasReadBelow {image : List ℕ} {count : ℕ} {end : Reached} (prior : IsPrior image count end) (v u : View)
    (def : Definition) (value : Value) (pieces : List Piece) (from to : ℕ) (before after : List Row)
    (parsed parses loaded loads : ℕ) : Type 0 where
  pub rows : AddsOlder end.entries def value from to before after
  pub parses_are : parses ≡ parsed + older_parses end.entries pieces
  pub walked : ℕ
  pub most : ℕ
  pub allowed : AreOlderAllowed prior u value after pieces walked most
  pub own : u.clock.loads ≤ v.clock.loads + walked
  pub few : loads ≤ loaded + walked + most
