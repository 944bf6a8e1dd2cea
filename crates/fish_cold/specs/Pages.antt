-- The words of the log in a store file, page by page.
use Rattle.std.specs.Prelude.{ℕ, ◌+◌, ◌-◌, ◌*◌, ◌/◌, List, drop, length, min}
use Rattle.fish_image.specs.Stands.{words_of}
use Rattle.fish_slots.specs.Offsets.{lines_at}

-- so many words of the log from one on, as a file has them
abbrev pub log_words : List ℕ → ℕ → ℕ → List ℕ
log_words content from n = words_of n (drop (lines_at + 8 * from) content)

-- how many whole words of the log a file has from one on
abbrev pub words_left : List ℕ → ℕ → ℕ
words_left content from = (length content - (lines_at + 8 * from)) / 8

-- how many lines of a page lie below a line
abbrev pub lines_below : ℕ → ℕ → ℕ
lines_below end page = min 32768 (end - 32768 * page)

-- how many words of a page below a line a file has
abbrev pub page_size : ℕ → ℕ → List ℕ → ℕ
page_size end page content = min (4 * lines_below end page) (words_left content (131072 * page))

-- the words of a page that lie below a line, as many as the file has
abbrev pub page_words : ℕ → ℕ → List ℕ → List ℕ
page_words end page content = log_words content (131072 * page) (page_size end page content)
