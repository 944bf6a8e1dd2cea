-- What a pass knows of the log's words. What private clauses need of it.
use Rattle.std.specs.Prelude.{ℕ, ◌≡◌, ◌+◌, ◌*◌, suc, Option, Some, None}
use Rattle.fish_layout.specs.Cleared.{IsKeyWord}
use Rattle.fish_rule.specs.Logs.{Extends}
use Rattle.fish_rule.specs.Views.{Among}
use Rattle.fish_rule.specs.declared.view.View.{View}

-- word i of the region at a line, which has n key entries, became known by one load, or it is the
-- first of a key entry and nothing was loaded
abbrev pub IsWordKnown : View → View → ℕ → ℕ → ℕ → Option ℕ → Type 0
IsWordKnown v u n line i None = IsKeyWord n i × (u.clock.loads ≡ v.clock.loads)
IsWordKnown v u n line i (Some x) = Among (record { place = line * 4 + i; value = x }) u.learned.known
    × (u.clock.loads ≡ suc v.clock.loads)

-- this became of a word that was asked for, and else the view is as it was
pub record IsWordRead (v u : View) (keys line offset : ℕ) (word : Option ℕ) : Type 0 where
  pub extends : Extends v u
  pub told : IsWordKnown v u keys line offset word
