-- How often an object of the outside has failed, and what each refusal tells of that count.
use Rattle.std.specs.Prelude.{◌≡◌, ℕ, ◌+◌, ◌-◌, ◌^◌, ◌≤◌, min, max, Result, OnErr, IsErrOf}
use Rattle.fish_outside.specs.declared.fault.FeedRefusal.{FeedRefusal}
use Rattle.fish_outside.specs.declared.fault.FeedRefusal.TheVariants.{Failed, OutOfMemory}

-- the last value of a count, which it keeps from then on: the largest number of 64 bits
abbrev pub last_count : ℕ
last_count = 2 ^ 64 - 1

-- a count with some more on it, up to its last value
abbrev pub counted_on : ℕ → ℕ → ℕ
counted_on count more = max count (min (count + more) last_count)

-- the count rose: it is at least one higher than before, or it stands at its last value
abbrev pub Rose : ℕ → ℕ → Type 0
Rose before now = min (before + 1) last_count ≤ now

-- the count of faults didn't fall, and where the call failed, it rose
pub record HasCause {T E : Type 0} (before now : ℕ) (result : Result T E) : Type 0 where
  pub later : before ≤ now
  pub failed : OnErr result (Rose before now)

-- the same of a call that can also want memory, which raises no count
pub record HasFeedCause {T : Type 0} (before now : ℕ) (result : Result T FeedRefusal) : Type 0 where
  pub later : before ≤ now
  pub failed : IsErrOf result Failed → Rose before now
  pub memory : IsErrOf result OutOfMemory → now ≡ before
