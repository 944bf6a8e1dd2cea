-- How many words the pieces of a plan may load, as the counter that is handed in and the pass's own view count them.
use Rattle.std.specs.Prelude.{ℕ, ◌≡◌, ◌+◌, ◌*◌, ◌<◌, ◌≤◌, List, [], ◌∷◌, length}
use Rattle.fish_chain.specs.Walks.{IsEntryFrom}
use Rattle.fish_plan.specs.declared.pieces.Piece.{Piece}
use Rattle.fish_plan.specs.declared.pieces.Piece.TheVariants.{Full, Index}
use Rattle.fish_rule.specs.Views.{Among}
use Rattle.fish_rule.specs.declared.view.Found.{Found}
use Rattle.fish_rule.specs.declared.view.Kind.TheVariants.{Stored}
use Rattle.fish_rule.specs.declared.view.View.{View}
use Rattle.fish_scan.specs.Indices.{bucket_of_value}
use Rattle.fish_scan.specs.declared.ask.Answer.{Answer}
use Rattle.fish_value.specs.declared.row.Row.{Row}
use Rattle.fish_value.specs.declared.value.Value.{Value}

-- ---- what loads are allowed for

-- the words of records
abbrev pub words_of_found : List Found → ℕ
words_of_found [] = 0
words_of_found (f ∷ found) = f.lines * 4 + words_of_found found

-- records that were found at numbers from one on and below another, the newest first
abbrev pub AreRecords : View → ℕ → ℕ → List Found → Type 0
AreRecords v from to [] = from ≤ to
AreRecords v from to (f ∷ found) = (f.number < to) × Among f v.learned.found × (f.kind ≡ Stored)
    × AreRecords v from f.number found

-- places of entries of a bucket that are known to be linked, of numbers from one on, the higher first: below one place,
-- and none below another
abbrev pub AreEntries : View → ℕ → ℕ → ℕ → ℕ → List ℕ → Type 0
AreEntries v bucket first low high [] = low ≤ high
AreEntries v bucket first low high (place ∷ places) = (place < high) × IsEntryFrom v bucket first place
    × AreEntries v bucket first low place places

-- ---- what a piece is allowed

-- an index piece 38 loads for each entry of the value's bucket that is known to be linked and is of a number from the
-- piece's first one on, one for each word of the records of rows that are given, and two more
pub record IsIndexAllowed (v : View) (value : Value) (rows : List Row) (id from to loads : ℕ) : Type 0 where
  pub top : ℕ
  pub entries : List ℕ
  pub linked : AreEntries v (bucket_of_value v id value) from 0 top entries
  pub records : List Found
  pub are : AreRecords v from to records
  pub given : (f : Found) → Among f records → (row : Row) × Among row rows × (row.number ≡ f.number)
  pub few : loads ≤ 38 * length entries + words_of_found records + 2

-- a full piece one for each of its records that aren't open, and one for each word of these
pub record IsFullAllowed (v : View) (opens : List ℕ) (from to loads : ℕ) : Type 0 where
  pub records : List Found
  pub are : AreRecords v from to records
  pub closed : (f : Found) → Among f records → ¬ Among f.number opens
  pub few : loads ≤ length records + words_of_found records

-- either of them
abbrev pub IsAllowed : View → Value → List ℕ → List Row → Piece → ℕ → Type 0
IsAllowed v value opens rows (Index id from to) loads = IsIndexAllowed v value rows id from to loads
IsAllowed v value opens rows (Full from to) loads = IsFullAllowed v opens from to loads

-- and all pieces together
abbrev pub AreAllowed : View → Value → List ℕ → List Row → List Piece → ℕ → Type 0
AreAllowed v value opens rows [] loads = loads ≡ 0
AreAllowed v value opens rows (piece ∷ pieces) loads = (one : ℕ) × (others : ℕ) × (loads ≡ one + others)
    × IsAllowed v value opens rows piece one × AreAllowed v value opens rows pieces others

-- ---- what was loaded

-- a counter and the pass's own count rose by so much at most
pub record RisesBy (v u : View) (old new most : ℕ) : Type 0 where
  pub counted : new ≤ old + most
  pub own : u.clock.loads ≤ v.clock.loads + most

-- by what the pieces of an answer's plan are allowed
pub record IsWork (v u : View) (value : Value) (answer : Answer) (old new : ℕ) : Type 0 where
  pub most : ℕ
  pub allowed : AreAllowed u value answer.opens answer.rows answer.plan most
  pub rises : RisesBy v u old new most
