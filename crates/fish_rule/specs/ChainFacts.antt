-- What a walk down a bucket's chain tells of the log, now and in every later moment.
use Rattle.std.specs.Prelude.{ℕ, ◌≡◌, ◌+◌, ◌<◌, ◌≤◌}
use mathlib.Core.Option.{some}
use Rattle.std.proofs.Math.ListN.{get_elem?}
use Rattle.fish_layout.specs.Cleared.{entry_at}
use Rattle.fish_layout.specs.Entry.{entry_id}
use Rattle.fish_rule.specs.Logs.{Learns}
use Rattle.fish_rule.specs.Rule.{Rule}
use Rattle.fish_rule.specs.Gaps.{IsKeyEntryOf}
use Rattle.fish_rule.specs.World.{World, body, low}
use Rattle.fish_rule.specs.declared.view.Key.{Key}
use Rattle.fish_rule.specs.declared.view.View.{View}

-- it holds in every moment of a view that knows as much
abbrev pub Always : View → (Key → World → Type 0) → Type 0
Always v P = (u : View) → Learns v u → (w : World) → Rule u.about w → (seat : ℕ) → get_elem? w.views seat ≡ some u
    → P u.about w

-- p is the place of key entry c of the published record n, and its bucket is b
abbrev pub IsEntryIn : ℕ → ℕ → ℕ → ℕ → Key → World → Type 0
IsEntryIn b n c p k w = IsKeyEntryOf k w.dir w.log (low (w.dir n)) b n c p

-- and its definition is this one
pub record IsNodeIn (b n c p id : ℕ) (k : Key) (w : World) : Type 0 where
  pub entry : IsEntryIn b n c p k w
  pub definition : entry_id (body w.log (low (w.dir n)) (entry_at c + 1)) ≡ id

-- no entry of the bucket, of a record from a number on and below another, lies below the one place and above
-- the other
abbrev pub IsClear : ℕ → ℕ → ℕ → ℕ → ℕ → Key → World → Type 0
IsClear b from to above below k w = (n c p : ℕ) → from ≤ n → n < to → IsEntryIn b n c p k w → p < above → p ≤ below
