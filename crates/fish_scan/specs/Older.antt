-- Which records below the base have a value: what a scan finds there, among the entries for which the disk stands.
use Rattle.std.specs.Prelude.{ℕ, zero, suc, ◌+◌, ◌-◌, List, Option, Some, None, slice_get}
use Rattle.fish_catalog.specs.declared.entry.Entry.{Entry}
use Rattle.fish_catalog.specs.declared.entry.Entry.TheVariants.{Stored, Void}
use Rattle.fish_psf.specs.Select.{Entry as Selectable, stored, void}
use Rattle.fish_scan.specs.Reading.{parses_of}

-- an entry, as a selection sees it
abbrev pub selectable : Entry → Selectable
selectable (Stored lane form payload) = stored lane form payload
selectable Void = void

-- how often an entry is parsed, if there is one
abbrev pub parses_at : Option Entry → ℕ
parses_at (Some entry) = parses_of entry
parses_at None = 0

-- how many of so many entries from a number on are records
abbrev pub stored_from : List Entry → ℕ → ℕ → ℕ
stored_from entries from zero = 0
stored_from entries from (suc count) = parses_at (slice_get entries from) + stored_from entries (from + 1) count

-- and of those from one number on and below another
abbrev pub stored_within : List Entry → ℕ → ℕ → ℕ
stored_within entries from to = stored_from entries from (to - from)
