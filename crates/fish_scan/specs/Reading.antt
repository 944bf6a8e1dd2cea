-- What is read number by number, and what each of them gives.
use Rattle.std.specs.Prelude.{ℕ}
use Rattle.fish_catalog.specs.declared.entry.Entry.{Entry}
use Rattle.fish_catalog.specs.declared.entry.Entry.TheVariants as entry

-- how often an entry is parsed: a record once
abbrev pub parses_of : Entry → ℕ
parses_of (entry.Stored lane form payload) = 1
parses_of entry.Void = 0
