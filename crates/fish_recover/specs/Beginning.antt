-- A table that begins where a commit ends.
use Rattle.std.specs.Prelude.{ℕ, ◌≡◌, ◌^◌, ◌≤◌, List, Bool, length, map, slice_index}
use Rattle.fish_catalog.specs.Clamps.{clamped}
use Rattle.fish_catalog.specs.declared.row.CatRow.{CatRow}
use Rattle.fish_cold.specs.Cached.{IsReadFrom}
use Rattle.fish_cold.specs.declared.cold.Cold.{Cold}
use Rattle.fish_flush.specs.declared.flusher.Flusher.{Flusher}
use Rattle.fish_rule.specs.Parts.{IsOlderPlace}
use Rattle.fish_rule.specs.Passes.{IsPassOf, view}
use Rattle.fish_rule.specs.Start.{IsFirstKey}
use Rattle.fish_rule.specs.Table.{first_view}
use Rattle.fish_rule.specs.World.{last_line, last_number}
use Rattle.fish_rule.specs.declared.seats.Start.{Start}
use Rattle.fish_rule.specs.declared.table.Base.{Base}
use Rattle.fish_rule.specs.declared.table.Shape.{Shape}
use Rattle.fish_recover.specs.declared.opened.Opened.{Opened}

-- what is kept of a commit is within the limits of a table of this shape: so many heads, each of a record of the commit
pub record IsFlusherKept (s : Shape) (f : Flusher) : Type 0 where
  pub number : f.count ≤ last_number
  pub line : f.line ≤ last_line
  pub heads : length f.heads.items ≡ 2 ^ s.bucket_bits
  pub older : (b : ℕ) → IsOlderPlace f.line (slice_index f.heads.items b)

-- the base is where the commit ends
pub record IsBase (f : Flusher) (base : Base) : Type 0 where
  pub number : base.number ≡ f.count
  pub line : base.line ≡ f.line

-- what a table begins with after the commit that is kept, with these rows and at a version
pub record IsStartAfter (f : Flusher) (rows : List CatRow) (at : ℕ) (start : Start) : Type 0 where
  pub base : IsBase f start.base
  pub heads : start.heads ≡ f.heads.items
  pub catalog : start.catalog ≡ map (clamped f.count) rows
  pub version : start.version ≡ at

-- the commit's records are below the base, and no page of them was read
pub record IsStoreUnread (f : Flusher) (cold : Cold) : Type 0 where
  pub base : IsBase f cold.base
  pub starts : cold.starts ≡ f.starts.items
  pub none : (c : List ℕ) → IsReadFrom c cold

-- the store is open: a table of this shape, at its first view, begins so, and what is kept is this
pub record OpensAt (f : Flusher) (s : Shape) (start : Start) (made : Bool) (o : Opened) : Type 0 where
  pub pass : IsPassOf o.log o.pass
  pub view_is : view o.pass ≡ first_view o.log.key
  pub key : IsFirstKey s start o.log.key
  pub shape : o.log.shape ≡ s
  pub flusher : o.flusher ≡ f
  pub catalog : o.catalog ≡ start.catalog
  pub cold : IsStoreUnread f o.cold
  pub made_is : o.made ≡ made
  pub count : o.count ≡ f.count

-- so it is where the table begins after the commit that is kept, at a version
pub record BeginsAt (f : Flusher) (s : Shape) (rows : List CatRow) (at : ℕ) (made : Bool) (o : Opened) : Type 0 where
  pub start : Start
  pub after : IsStartAfter f rows at start
  pub opens : OpensAt f s start made o
