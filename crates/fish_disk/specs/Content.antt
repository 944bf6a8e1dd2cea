-- What a disk tells of its content. `None` stands for content that is no longer told.
--
-- Each word here says something only where the content is still told at the end, and then it was
-- told at the beginning too: what has fallen silent never speaks again.
use Rattle.std.specs.Prelude.{◌≡◌, ℕ, ◌+◌, ◌-◌, min, List, ◌++◌, length, take, drop, Option, Some, None, IfSome, Result, MatchResult}
use Rattle.fish_disk.specs.Crash.{Torn}

-- content that isn't told
abbrev pub no_content : Option (List ℕ)
no_content = None

-- the n bytes from place p on, as far as there are so many
abbrev pub part : ℕ → ℕ → List ℕ → List ℕ
part p n bytes = take n (drop p bytes)

-- the bytes with a piece put over those from `at` on
abbrev pub put_at : ℕ → List ℕ → List ℕ → List ℕ
put_at at piece bytes = take at bytes ++ (piece ++ drop (at + length piece) bytes)

-- the content is still told and is what it was, or it is no longer told
abbrev pub StillReads : Option (List ℕ) → Option (List ℕ) → Type 0
StillReads old new = IfSome new (λ c. old ≡ Some c)

-- the piece stands at its place, and all else is as it was
abbrev pub HasWritten : Option (List ℕ) → Option (List ℕ) → ℕ → List ℕ → Type 0
HasWritten old new at piece =
    IfSome new (λ c. (o : List ℕ) × (old ≡ Some o) × (c ≡ put_at at piece o))

-- a write of n bytes may have stopped anywhere
abbrev pub HasTorn : Option (List ℕ) → Option (List ℕ) → ℕ → ℕ → Type 0
HasTorn old new at n = IfSome new (λ c. (o : List ℕ) × (old ≡ Some o) × Torn at n o c)

-- a write put its piece where it succeeded, and may have stopped anywhere where it failed
abbrev pub Wrote : {E : Type 0} → Option (List ℕ) → Option (List ℕ) → ℕ → List ℕ → Result (Unit {0}) E → Type 0
Wrote old new at piece result =
    MatchResult result
    (λ _. HasWritten old new at piece)
    (λ _. HasTorn old new at (length piece))

-- a read gave n bytes to the front of the buffer: those from `at` on, as many as there are and fit
abbrev pub Gave : Option (List ℕ) → ℕ → ℕ → List ℕ → Type 0
Gave content at n buffer =
    IfSome content
    (λ c. (n ≡ min (length c - at) (length buffer)) × (take n buffer ≡ take n (drop at c)))

-- a piece was written and is on the disk: every crash from then on leaves what is read
pub record WrittenThrough
    (old new : Option (List ℕ))
    (images : List ℕ → Type 0)
    (at : ℕ)
    (piece : List ℕ) : Type 0 where
  pub written : HasWritten old new at piece
  pub durable : (c : List ℕ) → images c → new ≡ Some c
