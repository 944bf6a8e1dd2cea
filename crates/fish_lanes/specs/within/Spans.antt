-- What a lane's pass knows lies within its block.
use Rattle.std.specs.Prelude.{ℕ, ◌≡◌, ◌+◌, ◌<◌, ◌≤◌, List, [], ◌∷◌}
use Rattle.fish_report.specs.declared.item.Item.{Item}
use Rattle.fish_rule.specs.LoadSteps.{IsAlone}
use Rattle.fish_rule.specs.declared.view.View.{View}
use Rattle.fish_walk.specs.Looks.{KnowsEntry}
use Rattle.fish_lanes.specs.Spans.{Span, made_by}

-- how many versions items made
abbrev pub made_by_all : List Item → ℕ
made_by_all [] = 0
made_by_all (x ∷ items) = made_by x + made_by_all items

-- what a lane's pass knew at its start and knows at its end lies within the block, which begins in the pass's table;
-- what it knows to be settled or an entry lies below the block's end
pub record IsWithinSpan (v u : View) (s : Span) : Type 0 where
  pub first : s.first ≤ v.learned.version
  pub last : u.learned.version ≤ s.last
  pub above : v.about.number ≤ s.from
  pub settled : s.from ≤ v.learned.settled
  pub counted : s.from ≤ v.learned.count
  pub near : u.learned.count ≤ s.to + 16
  pub alone : s.lanes ≡ 1 → IsAlone v
  pub stored : u.learned.settled ≤ s.to
  pub entries : (n : ℕ) → KnowsEntry u n → n < s.to
