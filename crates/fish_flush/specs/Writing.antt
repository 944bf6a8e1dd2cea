-- What a commit leaves of a store file, over bytes alone.
use Rattle.std.specs.Prelude.{ℕ, ◌+◌, ◌-◌, ◌/◌}

-- at most so many pages of 32,768 lines do the lines from one up to another touch
abbrev pub pages_between : ℕ → ℕ → ℕ
pages_between from to = (to + 32767) / 32768 - from / 32768
