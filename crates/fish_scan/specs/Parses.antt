-- Which records a scan parses: the stored ones of its plan's full pieces that aren't open, each once.
use Rattle.std.specs.Prelude.{ℕ, ◌≡◌, ◌+◌, ◌<◌, ◌≤◌, List, length}
use Rattle.fish_plan.specs.declared.pieces.Piece.{Piece}
use Rattle.fish_plan.specs.declared.pieces.Piece.TheVariants.{Full}
use Rattle.fish_rule.specs.ChainFacts.{Always}
use Rattle.fish_rule.specs.Regions.{code}
use Rattle.fish_rule.specs.Views.{Among}
use Rattle.fish_rule.specs.World.{high}
use Rattle.fish_rule.specs.declared.view.Found.{Found}
use Rattle.fish_rule.specs.declared.view.Kind.TheVariants.{Stored}
use Rattle.fish_rule.specs.declared.view.View.{View}
use Rattle.fish_scan.specs.Work.{AreRecords}

-- a full piece of these holds the number
pub record IsInFull (pieces : List Piece) (n : ℕ) : Type 0 where
  pub from : ℕ
  pub to : ℕ
  pub among : Among (Full from to) pieces
  pub above : from ≤ n
  pub below : n < to

-- the records at the numbers of the full pieces, less the open ones, each once, the newest first: each was found there,
-- and in every moment of a view that knows as much no other number of these has a record
pub record AreParsed (v : View) (opens : List ℕ) (pieces : List Piece) (from to : ℕ) (records : List Found)
    : Type 0 where
  pub are : AreRecords v from to records
  pub inside : (f : Found) → Among f records → IsInFull pieces f.number
  pub closed : (f : Found) → Among f records → ¬ Among f.number opens
  pub all : (n : ℕ) → IsInFull pieces n → ¬ Among n opens
      → Always v (λ k w. high (w.dir n) ≡ code Stored → (f : Found) × Among f records × (f.number ≡ n))

-- a counter rose by one for each of them
pub record HasParsed (v : View) (opens : List ℕ) (pieces : List Piece) (from to old new : ℕ) : Type 0 where
  pub records : List Found
  pub are : AreParsed v opens pieces from to records
  pub counted : new ≡ old + length records
