-- What a pass has learned of the entries of a bucket on its way down a chain.
use Rattle.std.specs.Prelude.{ℕ, ◌≡◌, ◌≢◌, ◌+◌, ◌*◌, ◌<◌, ◌≤◌, suc}
use Rattle.fish_layout.specs.Cleared.{entry_at}
use Rattle.fish_layout.specs.Entry.{entry_number, entry_place}
use Rattle.fish_rule.specs.Chains.{IsKeyEntry}
use Rattle.fish_rule.specs.Regions.{code}
use Rattle.fish_rule.specs.World.{body, high}
use Rattle.fish_rule.specs.declared.view.Gap.{Gap}
use Rattle.fish_rule.specs.declared.view.Key.{Key}
use Rattle.fish_rule.specs.declared.view.Kind.TheVariants.{Stored}
use Rattle.fish_rule.specs.declared.view.Label.{Label}

-- p is the place of key entry c of the published record n at a line, and its bucket is b
pub record IsKeyEntryOf (k : Key) (dir log : ℕ → ℕ) (line b n c p : ℕ) : Type 0 where
  pub above : k.number ≤ n
  pub stored : high (dir n) ≡ code Stored
  pub is : IsKeyEntry k.buckets (body log line) b p line c

-- all numbers below the gap's are published, and no entry of theirs in its bucket lies between its places
pub record IsGap (k : Key) (count : ℕ) (dir log start : ℕ → ℕ) (g : Gap) : Type 0 where
  pub within : g.end ≤ count
  pub published : (n : ℕ) → k.number ≤ n → n < g.end → dir n ≢ 0
  pub empty : (n c p : ℕ) → n < g.end → IsKeyEntryOf k dir log (start n) g.bucket n c p → p < g.above → p ≤ g.below

-- the number and the entry that a second word names are those at its place; of a number that was
-- settled the word stands
pub record IsLabel (k : Key) (count : ℕ) (dir log start : ℕ → ℕ) (l : Label) : Type 0 where
  pub above : k.number ≤ entry_number l.word
  pub below : entry_number l.word < count
  pub place : l.place ≡ start (entry_number l.word) * 4 + entry_at (entry_place l.word)
  pub inside : l.place < start (suc (entry_number l.word)) * 4
  pub settled : entry_number l.word < l.end → dir (entry_number l.word) ≢ 0
  pub word : entry_number l.word < l.end
      → body log (start (entry_number l.word)) (entry_at (entry_place l.word) + 1) ≡ l.word
