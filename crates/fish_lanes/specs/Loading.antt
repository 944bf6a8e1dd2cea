-- How many words of the log an answered scan loads.
use Rattle.std.specs.Prelude.{ℕ, ◌≡◌, ◌+◌, ◌≤◌, ◌⊎◌, List}
use Rattle.fish_cold.specs.Carries.{IsPrior}
use Rattle.fish_image.specs.Reached.{Reached}
use Rattle.fish_rule.specs.declared.view.View.{View}
use Rattle.fish_scan.specs.Below.{AreOlderAllowed}
use Rattle.fish_scan.specs.Cutting.{pieces_above, pieces_below}
use Rattle.fish_scan.specs.Work.{AreAllowed}
use Rattle.fish_scan.specs.declared.ask.Answer.{Answer}
use Rattle.fish_value.specs.declared.value.Value.{Value}
use Rattle.fish_whole.specs.Whole.{Whole}

-- the pass loaded no more words than the pieces of the answer's plan are allowed together
pub record LoadsInTable (v u : View) (value : Value) (answer : Answer) : Type 0 where
  pub most : ℕ
  pub allowed : AreAllowed u value answer.opens answer.rows answer.plan most
  pub few : u.clock.loads ≤ v.clock.loads + most

-- it loaded no more than the pieces in the table are allowed, and than lead through the table to the chains of older
-- records that an image has which stands for what was before the table
pub record LoadsAcross (past : Whole) (v u : View) (value : Value) (answer : Answer) : Type 0 where
  pub base : ℕ
  pub base_is : base ≡ u.about.number
  pub image : List ℕ
  pub end : Reached
  pub prior : IsPrior image base end
  pub entries : end.entries ≡ past.log
  pub most : ℕ
  pub allowed : AreAllowed u value answer.opens answer.rows (pieces_above base answer.plan) most
  pub walked : ℕ
  pub older : ℕ
  pub allowed_older : AreOlderAllowed prior u value answer.rows (pieces_below base answer.plan) walked older
  pub few : u.clock.loads ≤ v.clock.loads + most + walked

-- one or the other
abbrev pub LoadsWithin : (Whole → Type 0) → View → View → Value → Answer → Type 0
LoadsWithin Past v u value answer =
    LoadsInTable v u value answer ⊎ ((past : Whole) → Past past → LoadsAcross past v u value answer)
