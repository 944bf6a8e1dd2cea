-- How a checker goes through words.
use Rattle.std.specs.Prelude.{ℕ, ◌≡◌, ◌*◌, ◌<◌, ◌≤◌, List, ◌++◌, drop}
use Rattle.fish_catalog.specs.declared.commit.Commit.{Commit}
use Rattle.fish_image.specs.Log.{Agrees, Follows}
use Rattle.fish_image.specs.Progress.{IsAt}
use Rattle.fish_image.specs.Reached.{Reached}
use Rattle.fish_image.specs.declared.progress.Progress.{Progress}

-- the reading of words has come so far, which agrees with the commit
pub record HasCome (c : Commit) (w : List ℕ) (s : Reached) (at : Progress) : Type 0 where
  pub agrees : Agrees c w s.number s
  pub few : s.number ≤ c.count
  pub is_at : IsAt c s at

-- the first n entries agree, and no other will agree after them, whatever comes after the words
pub record Breaks (c : Commit) (w : List ℕ) (n : ℕ) : Type 0 where
  pub end : Reached
  pub agrees : Agrees c w n end
  pub few : n < c.count
  pub never : (more : List ℕ) (m : Reached) → Follows c (w ++ more) end m → ⊥

-- all regions that stand there were read: where one more is wanted, what is left of the words is none as yet
pub record StopsReading (c : Commit) (w left : List ℕ) (at : Progress) : Type 0 where
  pub end : Reached
  pub come : HasCome c w end at
  pub left_is : end.number < c.count → left ≡ drop (4 * end.line) w
  pub none : end.number < c.count → (m : Reached) → Follows c w end m → ⊥
