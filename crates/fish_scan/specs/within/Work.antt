-- How many words the pieces of a plan may load, as the counter that is handed in and the pass's own view count them.
-- What private clauses need of it.
use Rattle.std.specs.Prelude.{ℕ, ◌≡◌, ◌+◌, ◌*◌, List, [], ◌∷◌, ◌++◌, Option, Some, None, ⊤}
use Rattle.fish_chain.specs.declared.walk.Node.{Node}
use Rattle.fish_plan.specs.declared.pieces.Piece.{Piece}
use Rattle.fish_rule.specs.Views.{Among}
use Rattle.fish_rule.specs.declared.view.Found.{Found}
use Rattle.fish_rule.specs.declared.view.Kind.TheVariants.{Stored}
use Rattle.fish_rule.specs.declared.view.View.{View}
use Rattle.fish_scan.specs.Work.{AreAllowed, IsAllowed, IsFullAllowed, IsIndexAllowed, RisesBy, words_of_found}
use Rattle.fish_value.specs.declared.row.Row.{Row}
use Rattle.fish_value.specs.declared.value.Value.{Value}

-- ---- on the way

-- by what an index piece is allowed
abbrev pub IsIndexWork : View → View → Value → List Row → ℕ → ℕ → ℕ → ℕ → ℕ → Type 0
IsIndexWork v u value rows id from to old new = (most : ℕ) × IsIndexAllowed u value rows id from to most
    × RisesBy v u old new most

-- by what a full piece is
abbrev pub IsFullWork : View → View → List ℕ → ℕ → ℕ → ℕ → ℕ → Type 0
IsFullWork v u opens from to old new = (most : ℕ) × IsFullAllowed u opens from to most × RisesBy v u old new most

-- by what either is
abbrev pub IsPieceWork : View → View → Value → List ℕ → List Row → Piece → ℕ → ℕ → Type 0
IsPieceWork v u value opens rows piece old new = (most : ℕ) × IsAllowed u value opens rows piece most
    × RisesBy v u old new most

-- by what all of these pieces are
abbrev pub ArePiecesWork : View → View → Value → List ℕ → List Row → List Piece → ℕ → ℕ → Type 0
ArePiecesWork v u value opens rows pieces old new = (most : ℕ) × AreAllowed u value opens rows pieces most
    × RisesBy v u old new most

-- the record of a number, as it was found
pub record IsFoundAt (v : View) (n : ℕ) (f : Found) : Type 0 where
  pub among : Among f v.learned.found
  pub number_is : f.number ≡ n
  pub kind : f.kind ≡ Stored

-- the value of an entry was compared, and where it was the one asked for its record was loaded
abbrev pub IsComparison : View → View → Node → Option (List ℕ) → ℕ → ℕ → Type 0
IsComparison v u node None old new = RisesBy v u old new 36
IsComparison v u node (Some payload) old new = (f : Found) × IsFoundAt u node.number f
    × RisesBy v u old new (36 + f.lines * 4)

-- the rows' records, one of each
abbrev pub AreRecordsOf : View → List Row → List Found → Type 0
AreRecordsOf v [] [] = ⊤
AreRecordsOf v (row ∷ rows) (f ∷ found) = IsFoundAt v row.number f × AreRecordsOf v rows found
AreRecordsOf v rows found = ⊥

-- the rows that came after others took at most so many loads beside those of the words of their records
pub record HasLoadedRows (v u : View) (before after : List Row) (old new most : ℕ) : Type 0 where
  pub rows : List Row
  pub added : after ≡ before ++ rows
  pub records : List Found
  pub are : AreRecordsOf u rows records
  pub rises : RisesBy v u old new (most + words_of_found records)
