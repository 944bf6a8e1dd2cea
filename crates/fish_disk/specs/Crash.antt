-- What a crash may leave of a disk, in words that name no disk.
use Rattle.std.specs.Prelude.{◌≡◌, ◌⊎◌, ℕ, ◌+◌, ◌≤◌, max, List, length, take, drop, Bool, true, false, ⊤}

-- after a write of n bytes at `at` that a crash may cut short: any bytes in the range and past the
-- old end, the same elsewhere
pub record Torn (at n : ℕ) (old new : List ℕ) : Type 0 where
  pub before : take at new ≡ take at old
  pub after : drop (at + n) new ≡ drop (at + n) old
  pub no_shorter : length old ≤ length new
  pub no_longer : length new ≤ max (length old) (at + n)

-- what a write of n bytes at `at` may leave of one of these images
abbrev pub TornFrom : (List ℕ → Type 0) → ℕ → ℕ → List ℕ → Type 0
TornFrom images at n c = (d : List ℕ) × images d × Torn at n d c

-- From the old disk to the new one a crash at any moment leaves only what has P: now, and since each
-- moment t that the old disk had reached, beside what a crash could have left before.
pub record LeavesOnly
    {D : Type 0}
    (images : D → List ℕ → Type 0)
    (since : D → ℕ → List ℕ → Type 0)
    (moment : D → ℕ)
    (old new : D)
    (P : List ℕ → Type 0) : Type 0 where
  pub later : moment old ≤ moment new
  pub now : (c : List ℕ) → images new c → P c
  pub before : (t : ℕ) (c : List ℕ) → t ≤ moment old → since new t c → since old t c ⊎ P c

-- From the old disk to the new one what a crash could have left since a moment that the old disk had reached stays
-- so, where the disk keeps its past.
abbrev pub KeepsPast : {D : Type 0} → Bool → (D → ℕ → List ℕ → Type 0) → (D → ℕ) → D → D → Type 0
KeepsPast true since moment old new = (t : ℕ) (c : List ℕ) → t ≤ moment old → since old t c → since new t c
KeepsPast false since moment old new = ⊤
