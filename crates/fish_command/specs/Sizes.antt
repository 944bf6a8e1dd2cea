-- The sizes that a store may be given, and that of a sample.
use Rattle.std.specs.Prelude.{ℕ, ◌≤◌, Option}
use Rattle.std.specs.Option.{ForSome}

-- the most pages
abbrev pub most_pages : ℕ
most_pages = 512

-- the fewest bits
abbrev pub fewest_bits : ℕ
fewest_bits = 4

-- the most bits
abbrev pub most_bits : ℕ
most_bits = 16

-- the most records of a sample
abbrev pub most_sample_records : ℕ
most_sample_records = 60000

-- a number of pages is within its bounds, where one is given
abbrev pub ArePages : Option ℕ → Type 0
ArePages pages = ForSome pages (λ n. (1 ≤ n) × (n ≤ most_pages))

-- a number of bits is within its bounds, where one is given
abbrev pub AreBits : Option ℕ → Type 0
AreBits bits = ForSome bits (λ n. (fewest_bits ≤ n) × (n ≤ most_bits))
