-- What plans, and refusals of a range that no index covers, say of the definitions: where pieces by an index lie, and
-- that no number is read one by one that an index was known to hold.
use Rattle.std.specs.Prelude.{ℕ, ◌≡◌, ◌≢◌, ◌<◌, ◌≤◌, cond, drop, List, [], ◌∷◌, Some, slice_get, ⊤}
use Rattle.fish_catalog.specs.declared.listed.Listed.{Listed}
use Rattle.fish_catalog.specs.declared.row.CatRow.{CatRow}
use Rattle.fish_lanes.specs.Registering.{Registry, after}
use Rattle.fish_lanes.specs.Spans.{is_answer}
use Rattle.fish_lanes.specs.declared.work.Work.{Work}
use Rattle.fish_lanes.specs.declared.work.Work.TheVariants as work
use Rattle.fish_plan.specs.declared.pieces.Piece.{Piece}
use Rattle.fish_plan.specs.declared.pieces.Piece.TheVariants.{Full, Index}
use Rattle.fish_registry.specs.Knowing.{HasBegunBy}
use Rattle.fish_report.specs.declared.item.Item.{Item}
use Rattle.fish_report.specs.declared.item.Item.TheVariants as item
use Rattle.fish_report.specs.declared.item.ScanCause.TheVariants as cause
use Rattle.fish_rule.specs.Registry.{KnowsDefinitions}
use Rattle.fish_rule.specs.declared.view.View.{View}
use Rattle.fish_scan.specs.Naming.{IsNewestListed}
use Rattle.fish_scan.specs.declared.ask.Ask.{Ask}
use Rattle.fish_scan.specs.declared.ask.How.{How}
use Rattle.fish_scan.specs.declared.ask.How.TheVariants as how
use Rattle.fish_whole.specs.Whole.{Whole}

-- ---- numbers and pieces, by the rows that were told before, and by those that follows the block

-- the number is covered: a row has the text whose index begins at the number or before it, as was told before, and ends
-- after it, if it has ended when the block has
pub record IsCoveredNumber (told rows : List CatRow) (text : List ℕ) (n : ℕ) : Type 0 where
  pub id : ℕ
  pub row : CatRow
  pub there : slice_get told id ≡ Some row
  pub text_is : row.def ≡ text
  pub begun : HasBegunBy n row
  pub last : CatRow
  pub stands : slice_get rows id ≡ Some last
  pub before : (to : ℕ) → last.to ≡ Some to → n < to

-- none of these numbers is
abbrev pub HoldsNone : List CatRow → List CatRow → List ℕ → ℕ → ℕ → Type 0
HoldsNone told rows text begin end = (n : ℕ) → begin ≤ n → n < end → ¬ IsCoveredNumber told rows text n

-- a piece by the index of a row lies after where the index begins, and below where it ends, if that was told before
pub record IsIndexPiece (told rows : List CatRow) (id begin end : ℕ) : Type 0 where
  pub row : CatRow
  pub there : slice_get rows id ≡ Some row
  pub begun : HasBegunBy begin row
  pub ended : (early : CatRow) (to : ℕ) → slice_get told id ≡ Some early → early.to ≡ Some to → end ≤ to

-- the pieces of a plan by a text: unless all numbers were to be read one by one, none below the log's end before the
-- block is that is covered
pub record IsPlanOf (told rows : List CatRow) (from : ℕ) (text : List ℕ) (way : How) (plan : List Piece) : Type 0 where
  pub indexed : (position id begin end : ℕ) → slice_get plan position ≡ Some (Index id begin end)
      → IsIndexPiece told rows id begin end
  pub full : way ≢ how.Full → (position begin end n : ℕ) → slice_get plan position ≡ Some (Full begin end) → begin ≤ n
      → n < end
      → n < from → ¬ IsCoveredNumber told rows text n

-- ---- items

-- these are the definitions at a version, by the words that the pass knows, or in the whole
abbrev pub KnowsListed : View → ℕ → List Listed → Type 0
KnowsListed v version rows = KnowsDefinitions v.about v.learned version rows

abbrev pub RowsAre : Whole → ℕ → List Listed → Type 0
RowsAre w version rows = w.rows version ≡ rows

-- definitions at a version, and the newest that has the name asked for
pub record IsNamedAt (Are : ℕ → List Listed → Type 0) (ask : Ask) (version : ℕ) : Type 0 where
  pub rows : List Listed
  pub are : Are version rows
  pub position : ℕ
  pub newest : IsNewestListed rows ask.name position

-- a plan, or a refusal, at a version: the text is that which the name means there
pub record SaysPlanned (Are : ℕ → List Listed → Type 0) (told rows : List CatRow) (from : ℕ) (ask : Ask)
    (plan : List Piece)
    (version : ℕ) : Type 0 where
  pub named : IsNamedAt Are ask version
  pub plan_is : IsPlanOf told rows from named.newest.listed.def ask.how plan

pub record SaysUncovered (Are : ℕ → List Listed → Type 0) (told rows : List CatRow) (ask : Ask) (begin end version : ℕ)
    : Type 0 where
  pub named : IsNamedAt Are ask version
  pub none : HoldsNone told rows named.newest.listed.def begin end

abbrev pub SaysPlansOf : (ℕ → List Listed → Type 0) → List CatRow → List CatRow → ℕ → Ask → Item → Type 0
SaysPlansOf Are told rows from ask (item.Explained name value first last plan version) =
    SaysPlanned Are told rows from ask plan version
SaysPlansOf Are told rows from ask (item.ExplainRefused name version (cause.NotCovered first last)) =
    SaysUncovered Are told rows ask first last version
SaysPlansOf Are told rows from ask (item.ScanRefused name version (cause.NotCovered first last)) =
    SaysUncovered Are told rows ask first last version
SaysPlansOf Are told rows from ask x = ⊤

-- the item of a statement
abbrev pub SaysPlans : (ℕ → List Listed → Type 0) → List CatRow → List CatRow → ℕ → Work → Item → Type 0
SaysPlans Are told rows from (work.Scan ask) x = SaysPlansOf Are told rows from ask x
SaysPlans Are told rows from (work.Explain ask) x = SaysPlansOf Are told rows from ask x
SaysPlans Are told rows from w x = ⊤

-- of the first of some statements
abbrev pub SaysFirstPlans : (ℕ → List Listed → Type 0) → List CatRow → List CatRow → ℕ → List Work → Item → Type 0
SaysFirstPlans Are told rows from [] x = ⊤
SaysFirstPlans Are told rows from (w ∷ works) x = SaysPlans Are told rows from w x

-- the statements after the item: a boundary that was found later answers none
abbrev pub works_behind : Item → List Work → List Work
works_behind x works = cond (is_answer x) (drop 1 works) works

-- what the items of a lane say, where the definitions before them are these, and the rows after the block those
abbrev pub PlansHold : (ℕ → List Listed → Type 0) → Registry → List CatRow → ℕ → List Work → List Item → Type 0
PlansHold Are r rows from works [] = ⊤
PlansHold Are r rows from works (x ∷ items) = SaysFirstPlans Are r.rows rows from works x
    × PlansHold Are (after r x) rows from (works_behind x works) items
