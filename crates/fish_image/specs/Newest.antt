-- The newest key entry of a bucket.
use Rattle.std.specs.Prelude.{ℕ, ◌≡◌, ◌<◌, ◌≤◌, ◌⊎◌, List, Some, slice_get}

-- one of the key entries has this bucket and place
pub record IsAmong (places : List (ℕ × ℕ)) (b p : ℕ) : Type 0 where
  pub at : ℕ
  pub there : slice_get places at ≡ Some (b, p)

-- the place is the greatest of a key entry of the bucket, or 0 where the bucket has none; and no key entry has place 0
pub record IsNewestPlace (places : List (ℕ × ℕ)) (b p : ℕ) : Type 0 where
  pub some : IsAmong places b p ⊎ (p ≡ 0)
  pub most : (q : ℕ) → IsAmong places b q → q ≤ p
  pub above : (q : ℕ) → IsAmong places b q → 0 < q
