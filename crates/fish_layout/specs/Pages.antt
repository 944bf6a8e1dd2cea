-- Pages of the log, and places in it.
use Rattle.std.specs.Prelude.{ℕ, ◌+◌, ◌*◌, ◌/◌}
use Rattle.fish_layout.specs.Cleared.{entry_at}

-- the page that a line is in
abbrev pub page_of : ℕ → ℕ
page_of line = line / 32768

-- the place of key entry c of the record at a line, in words from the log's start
abbrev pub place_of : ℕ → ℕ → ℕ
place_of line c = 4 * line + entry_at c
