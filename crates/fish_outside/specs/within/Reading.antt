-- What a read of a source up to so many bytes gives.
use Rattle.std.specs.Prelude.{ℕ, ◌≡◌, List, Option, Some, IfSome, take}

-- the bytes are the first so many of what was left
abbrev pub ReadsUpTo : ℕ → Option (List ℕ) → Option (List ℕ) → List ℕ → Type 0
ReadsUpTo most old new bytes = IfSome new (λ rest. (b : List ℕ) × (old ≡ Some b) × (bytes ≡ take most b))
