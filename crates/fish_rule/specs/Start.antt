-- The shape of a log, and the words of one that holds no record.
use Rattle.std.specs.Prelude.{ℕ, ◌≡◌, ◌+◌, ◌-◌, ◌*◌, ◌^◌, ◌<◌, ◌≤◌, List, [], ◌∷◌, Some, length, min, slice_get}
use Rattle.std.specs.Prelude.{slice_index, All, map}
use Rattle.fish_catalog.specs.Clamps.{IsClamped, clamped}
use Rattle.fish_catalog.specs.Rows.{IsCatalog}
use Rattle.fish_catalog.specs.Words.{IsWritable, row_word}
use Rattle.fish_catalog.specs.declared.row.CatRow.{CatRow}
use Rattle.fish_rule.specs.Registry.{epoch_at, op_at, opened_at, row_at, version_at}
use Rattle.fish_rule.specs.Parts.{IsOlderPlace, first_head}
use Rattle.fish_rule.specs.Table.{first_view}
use Rattle.fish_rule.specs.World.{last_line, last_number, World}
use Rattle.fish_rule.specs.declared.seats.Start.{Start}
use Rattle.fish_rule.specs.declared.table.Shape.{Shape}
use Rattle.fish_rule.specs.declared.view.Key.{Key}

-- the words of the registry are those of these rows of a catalogue at a version, with every lane out and no
-- operation made; each row's index begins, and neither begins nor ends after the number at which the log begins
pub record IsOpening (s number : ℕ) (rows : List CatRow) (g : ℕ → ℕ) : Type 0 where
  pub version : g version_at ≡ s
  pub few : s ≤ 512
  pub opened : g opened_at ≡ length rows
  pub out : (l : ℕ) → 1 ≤ l → l ≤ 16 → g (epoch_at l) ≡ 0
  pub operations : (v : ℕ) → 1 ≤ v → v ≤ 512 → g (op_at v) ≡ 0
  pub catalog : IsCatalog rows
  pub clamped : All (IsClamped number) rows
  pub words : (id : ℕ) (row : CatRow) → slice_get rows id ≡ Some row
      → IsWritable row × ((i : ℕ) → i < 39 → g (row_at id i) ≡ row_word row i)
  pub rest : (id i : ℕ) → length rows ≤ id → id < 256 → i < 39 → g (row_at id i) ≡ 0

-- 1 to 512 pages, and 4 to 16 bits
pub record IsShape (s : Shape) : Type 0 where
  pub some_pages : 1 ≤ s.pages
  pub few_pages : s.pages ≤ 512
  pub some_bits : 4 ≤ s.bucket_bits
  pub few_bits : s.bucket_bits ≤ 16

-- a table of this shape may begin so: there is one head for each bucket, of older records; versions are left; and
-- each row's index begins, and neither begins nor ends after the base's number
pub record CanOpen (s : Shape) (start : Start) : Type 0 where
  pub number : start.base.number ≤ last_number
  pub line : start.base.line ≤ last_line
  pub version : start.version ≤ 512
  pub heads : length start.heads ≡ 2 ^ s.bucket_bits
  pub older : (b : ℕ) → IsOlderPlace start.base.line (slice_index start.heads b)
  pub rows : All (IsClamped start.base.number) start.catalog

-- there is no older record, and the definitions are these, whose indices begin at 0
pub record IsFirstStart (catalog : List CatRow) (start : Start) : Type 0 where
  pub number : start.base.number ≡ 0
  pub line : start.base.line ≡ 0
  pub version : start.version ≡ 0
  pub rows : start.catalog ≡ map (clamped 0) catalog

-- how many lines a table has: those of its pages, unless numbers or lines would end before
abbrev pub table_lines : ℕ → ℕ → ℕ → ℕ
table_lines pages number line = min (min (pages * 32768) (last_number - number)) (last_line - line)

-- the key of a table of this shape that begins so
pub record IsFirstKey (s : Shape) (start : Start) (k : Key) : Type 0 where
  pub number : k.number ≡ start.base.number
  pub line : k.line ≡ start.base.line
  pub end : k.end ≡ start.base.line + table_lines s.pages start.base.number start.base.line
  pub buckets : k.buckets ≡ 2 ^ s.bucket_bits
  pub version : k.version ≡ start.version
  pub heads : k.heads.value ≡ start.heads
  pub rows : k.rows.value ≡ start.catalog

-- a table without an entry, with these words of the registry, and its control pass
abbrev pub empty_world : Key → (ℕ → ℕ) → World
empty_world k g = record {
  count = k.number;
  line = k.line;
  settled = k.number;
  registry = g;
  head = first_head k;
  dir = λ _. 0;
  log = λ _. 0;
  views = first_view k ∷ [];
}
