-- The words of the table by their areas, as functions, and what the passes know.
use Rattle.std.specs.Prelude.{ℕ, ◌+◌, ◌-◌, ◌*◌, ◌/◌, ◌%◌, suc, List, slice_index}
use Rattle.std.proofs.Math.Decide.{ℕ_discrete, dec_le}
use Rattle.fish_layout.specs.Cleared.{choose, cleared}
use Rattle.fish_rule.specs.declared.view.Key.{Key}
use Rattle.fish_rule.specs.declared.view.View.{View}

-- all that a moment is: how many numbers and lines are claimed, below which number all is settled,
-- the words of the registry by their index, the head of each chain, the directory by number, the log by
-- place, and each pass's view
pub record World : Type 0 where
  pub count : ℕ
  pub line : ℕ
  pub settled : ℕ
  pub registry : ℕ → ℕ
  pub head : ℕ → ℕ
  pub dir : ℕ → ℕ
  pub log : ℕ → ℕ
  pub views : List View

-- a function with one value put in place of another
unfoldable pub put : {A : Type 0} → (ℕ → A) → ℕ → A → ℕ → A
put f n x m = choose (ℕ_discrete m n) x (f m)

-- ---- packed words

-- 2 ^ 36: a word of the tail or of the directory has its line below it, and after it a number or a kind
abbrev pub line_range : ℕ
line_range = 68719476736

-- the most lines of a region
abbrev pub max_lines : ℕ
max_lines = 18625

-- where a log may end, so that the claims past its end stay within their bits
abbrev pub last_number : ℕ
last_number = 268435439

abbrev pub last_line : ℕ
last_line = 68719176736

-- the high 28 bits of a word
unfoldable pub high : ℕ → ℕ
high w = w / 68719476736

-- the low 36 bits of a word
unfoldable pub low : ℕ → ℕ
low w = w % 68719476736

-- ---- areas

-- how many directory words there are: one a line, and 16 for the claims that end past the log's end
abbrev pub slots : Key → ℕ
slots k = k.end - k.line + 16

-- how many words of the log there are
abbrev pub log_size : Key → ℕ
log_size k = (k.end - k.line) * 4

-- the words of the registry: from the version, which is word 2, up to the heads
abbrev pub registry_size : ℕ
registry_size = 10514

-- the first head, after the tail, the settled number, the version, the count of opened rows, 16
-- epochs, 512 operations and 256 rows of 39 words
abbrev pub heads_at : ℕ
heads_at = 10516

-- the first directory word, after the tail, the settled number, the version, the count of opened
-- rows, 16 epochs, 512 operations, 256 rows of 39 words, and the heads
abbrev pub dir_at : Key → ℕ
dir_at k = 10516 + k.buckets

-- the first word of the log
abbrev pub log_at : Key → ℕ
log_at k = dir_at k + slots k

-- all words
abbrev pub total : Key → ℕ
total k = log_at k + log_size k

-- the words from `at` on, for the indices from `base` up to `base + size`, and 0 elsewhere
unfoldable pub area : List ℕ → ℕ → ℕ → ℕ → ℕ → ℕ
area ws at base size n = choose (dec_le base n)
    (choose (dec_le (suc n) (base + size)) (slice_index ws (at + (n - base))) 0) 0

-- a table's words and views as a world
abbrev pub world : Key → List ℕ → List View → World
world k ws vs = record {
  count = high (slice_index ws 0);
  line = low (slice_index ws 0);
  settled = slice_index ws 1;
  registry = area ws 2 2 registry_size;
  head = area ws heads_at 0 k.buckets;
  dir = area ws (dir_at k) k.number (slots k);
  log = area ws (log_at k) (k.line * 4) (log_size k);
  views = vs;
}

-- the words of the region at a line, but for the previous nodes of its key entries
abbrev pub body : (ℕ → ℕ) → ℕ → ℕ → ℕ
body log line = cleared (λ i. log (line * 4 + i))
