-- Where the bytes begin with rows, the first of them were read.
use Rattle.std.proofs.Common.{◌≡◌, ℕ, ◌*◌, ◌-◌, ◌≤◌, List, ◌++◌, drop, length, take}
use Rattle.std.specs.List.{flat_map}
use Rattle.fish_catalog.specs.declared.row.CatRow.{CatRow}
use Rattle.fish_image.specs.within.Reading.{AreRowsOf}
use Rattle.fish_image.specs.Slot.{row_bytes}
use Rattle.fish_image.proofs.read.read_rows.Given as goal

-- where the bytes begin with rows, the first of them were read, and the others and what follows are left
abbrev pub invariant-loop-id : goal.invariant-loop-id
invariant-loop-id l = record {
  room : 320 * (l.count - l.id) ≤ length l.rest;
  read : (rows : List CatRow) (more : List ℕ) → AreRowsOf rows more l.b → length rows ≡ l.count →
      l.rows.items ≡ take l.id rows;
  left : (rows : List CatRow) (more : List ℕ) → AreRowsOf rows more l.b → length rows ≡ l.count →
      l.rest ≡ flat_map row_bytes (drop l.id rows) ++ more;
}
