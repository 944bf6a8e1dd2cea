-- How the control pass makes an operation: of the next row, or of one whose index ends.
use Rattle.std.specs.Prelude.{ℕ, ◌≡◌, ◌≢◌, ◌<◌, ◌≤◌, suc, List, [], ◌∷◌, ◌++◌, Some, None, length, slice_index, true}
use Rattle.fish_catalog.specs.Listing.{IsNewName, IsOnAt, ended_at}
use Rattle.fish_catalog.specs.Rows.{IsActive, IsRow}
use Rattle.fish_catalog.specs.declared.row.CatRow.{CatRow}
use Rattle.fish_registry.specs.Changing.{Changes}
use Rattle.fish_rule.specs.Clocks.{IsLater}
use Rattle.fish_rule.specs.LoadSteps.{after_load_tail}
use Rattle.fish_rule.specs.Registry.{control_word, row_at}
use Rattle.fish_rule.specs.Views.{Among}
use Rattle.fish_rule.specs.World.{high}
use Rattle.fish_rule.specs.declared.view.Epoch.TheVariants.{Out}
use Rattle.fish_rule.specs.declared.view.View.{View}

-- the words of the next row from 2 up to a position are these, the boundaries are as before, and else only what
-- was stored and the clock changed
pub record HasDrafted (v : View) (words : List ℕ) (upto : ℕ) (u : View) : Type 0 where
  pub only : u ≡ record v { control_words = u.control_words; clock = u.clock }
  pub row : (i : ℕ) → 2 ≤ i → i < upto → control_word u.control_words (row_at (length v.rows) i) ≡ slice_index words i
  pub bounds : (n i : ℕ) → i < 2 → control_word u.control_words (row_at n i) ≡ control_word v.control_words (row_at n i)
  pub clock : IsLater v.clock u.clock
  pub loads : u.clock.loads ≡ v.clock.loads

-- the control pass may make an operation: it is out, no registration waits, and versions are left
pub record MayMake (v : View) (version : ℕ) : Type 0 where
  pub control : v.lane ≡ 1
  pub outside : v.epoch ≡ Out
  pub settled : v.round ≡ None
  pub is : version ≡ v.learned.version
  pub few : version < 512

-- the row may be the next one
pub record MayRegisterRow (v : View) (row : CatRow) : Type 0 where
  pub row_of : IsRow row
  pub active : IsActive row
  pub id : row.id ≡ length v.rows
  pub new : IsNewName v.rows row.name row.def

-- the registry has one version more, whose definitions are those before and one of this name and text; its
-- registration waits, and the boundaries are as before
pub record HasAddedRow (v : View) (row : CatRow) (u : View) : Type 0 where
  pub changes : Changes v u
  pub rows : u.rows ≡ v.rows ++ record { id = row.id; name = row.name; def = row.def; active = true } ∷ []
  pub version : u.learned.version ≡ suc v.learned.version
  pub count : u.learned.count ≡ v.learned.count
  pub round : u.round ≡ Some (record { id = row.id; version = suc v.learned.version; checked = 1 ∷ []; bound = None })
  pub tail : u.tail ≡ v.tail
  pub bounds : (n i : ℕ) → i < 2 → control_word u.control_words (row_at n i) ≡ control_word v.control_words (row_at n i)

-- the index of an active row may end at a number of this table, at or past the one at which it began
pub record MayEndRow (v : View) (id to : ℕ) : Type 0 where
  pub on : IsOnAt v.rows id
  pub few : id < 256
  pub from : ℕ
  pub began : control_word v.control_words (row_at id 0) ≡ suc from
  pub endless : control_word v.control_words (row_at id 1) ≡ 0
  pub above : v.about.number ≤ to
  pub after : from ≤ to
  pub within : to ≤ v.learned.count

-- the registry has one version more, in which the row's definition has ended; its index ends at the number, and the
-- other boundaries are as before
pub record HasEnded (v : View) (id to : ℕ) (u : View) : Type 0 where
  pub changes : Changes v u
  pub rows : u.rows ≡ ended_at id v.rows
  pub version : u.learned.version ≡ suc v.learned.version
  pub count : u.learned.count ≡ v.learned.count
  pub round : u.round ≡ None
  pub end : control_word u.control_words (row_at id 1) ≡ suc to
  pub read : Among (record { index = row_at id 1; value = suc to }) u.learned.words
  pub from : control_word u.control_words (row_at id 0) ≡ control_word v.control_words (row_at id 0)
  pub bounds : (n i : ℕ) → i < 2 → n ≢ id → control_word u.control_words (row_at n i) ≡ control_word v.control_words
      (row_at n i)

-- the tail was loaded, and its count is this number, which is one of this table's
pub record HasTailed (v u : View) (n : ℕ) : Type 0 where
  pub tail : ℕ
  pub view : u ≡ after_load_tail v tail
  pub is : n ≡ high tail
  pub from : v.about.number ≤ n
  pub more : v.learned.count ≤ n
