-- What a record of calls says of a disk: the images that a crash may leave after them.
use Rattle.std.specs.Prelude.{◌≡◌, ◌⊎◌, ℕ, ◌≤◌, List, [], ◌∷◌, length, take, Option, Some, None, slice_get}
use Rattle.fish_disk.specs.Crash.{TornFrom}
use Rattle.fish_disk.specs.declared.call.Call.{Call}
use Rattle.fish_disk.specs.declared.call.Call.TheVariants.{Write, Sync, Other}

-- this content and nothing else
abbrev pub Only : List ℕ → List ℕ → Type 0
Only bytes c = c ≡ bytes

-- the images after one more call: a write may be cut short, and a sync leaves what it brought over
abbrev pub after_call : Call → (List ℕ → Type 0) → List ℕ → Type 0
after_call (Write at piece before) images c = TornFrom images at (length piece) c
after_call (Sync content) images c = c ≡ content
after_call Other images c = images c

-- the images after all these calls
abbrev pub after_calls : (List ℕ → Type 0) → List Call → List ℕ → Type 0
after_calls images [] c = images c
after_calls images (call ∷ calls) c = after_calls (after_call call images) calls c

-- a crash now leaves what is read, or what the calls may have left of the first content
abbrev pub LeftNow : List ℕ → List ℕ → List Call → List ℕ → Type 0
LeftNow first bytes calls c = (c ≡ bytes) ⊎ after_calls (Only first) calls c

-- what was read as a call began, where it is a write, which may change that
abbrev pub WasRead : Option Call → List ℕ → Type 0
WasRead (Some (Write at piece before)) c = c ≡ before
WasRead (Some (Sync content)) c = ⊥
WasRead (Some Other) c = ⊥
WasRead None c = ⊥

-- a crash at moment k left what the calls up to it may have left, or what was read as the next call began to write
abbrev pub LeftAt : List ℕ → List Call → ℕ → List ℕ → Type 0
LeftAt first calls k c = after_calls (Only first) (take k calls) c ⊎ WasRead (slice_get calls k) c

-- a crash since moment t left what one now leaves, or what one at some moment from t on left
abbrev pub LeftSince : List ℕ → List ℕ → List Call → ℕ → List ℕ → Type 0
LeftSince first bytes calls t c =
    LeftNow first bytes calls c ⊎ ((k : ℕ) × (t ≤ k) × (k ≤ length calls) × LeftAt first calls k c)
