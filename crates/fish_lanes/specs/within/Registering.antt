-- What leaves a pass's registry as it is.
use Rattle.std.specs.Prelude.{◌≡◌}
use Rattle.fish_rule.specs.declared.view.View.{View}

-- the definitions, what was stored of them and what waits are the same in the second view
pub record KeepsRegistry (v u : View) : Type 0 where
  pub rows : u.rows ≡ v.rows
  pub control_words : u.control_words ≡ v.control_words
  pub round : u.round ≡ v.round
