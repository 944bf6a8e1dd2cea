-- The shape of a log, and the words of one that holds no record. What private clauses need of it.
use Rattle.std.specs.Prelude.{slice_index}
use Rattle.std.specs.Prelude.{ℕ, ◌≡◌, ◌+◌, ◌*◌, ◌<◌, ◌≤◌, List, length}
use Rattle.fish_rule.specs.Parts.{first_head}
use Rattle.fish_rule.specs.Start.{IsOpening}
use Rattle.fish_rule.specs.World.{line_range, area, dir_at, heads_at, registry_size}
use Rattle.fish_rule.specs.World.{total}
use Rattle.fish_rule.specs.declared.view.Key.{Key}

-- the tail is at the key's number and line, all before is settled, the registry is that of the key's rows and
-- version, the heads are the key's, and every other word is 0
pub record IsEmpty (k : Key) (ws : List ℕ) : Type 0 where
  pub wide : length ws ≡ total k
  pub tail : slice_index ws 0 ≡ k.number * line_range + k.line
  pub settled : slice_index ws 1 ≡ k.number
  pub registry : IsOpening k.version k.number k.rows.value (area ws 2 2 registry_size)
  pub heads : (b : ℕ) → b < k.buckets → slice_index ws (heads_at + b) ≡ first_head k b
  pub zeros : (i : ℕ) → dir_at k ≤ i → slice_index ws i ≡ 0
