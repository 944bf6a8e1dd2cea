-- How the statements of a block are shared out among its rounds.
use Rattle.std.specs.Prelude.{ℕ, ◌≡◌, ◌+◌, ◌⊎◌, List, [], ◌∷◌, ◌++◌, Bool, false, true, Option, ⊤}
use Rattle.fish_feed.specs.Queues.{both}
use Rattle.fish_feed.specs.Works.{AreAnewAfterFirst, AreFirstOf, Triples}
use Rattle.fish_script.specs.Laws.{Pairs}
use Rattle.fish_lanes.specs.Full.{EndsFull}
use Rattle.fish_lanes.specs.Outcome.{LeaveNone}
use Rattle.fish_lanes.specs.declared.lane.Lane.{Lane}
use Rattle.fish_lanes.specs.declared.work.Work.{Work}
use Rattle.fish_lanes.specs.declared.work.Work.TheVariants as work
use Rattle.fish_lines.specs.Resuming.{IsLeftOf}
use Rattle.fish_lines.specs.declared.resuming.Begin.{Begin}
use Rattle.fish_lines.specs.declared.resuming.Begin.TheVariants.{After}
use Rattle.fish_outside.specs.Content.{Files}
use Rattle.fish_report.specs.declared.item.Item.{Item}
use Rattle.fish_report.specs.declared.item.Item.TheVariants as item
use Rattle.fish_run.specs.Blocks.{Round}
use Rattle.fish_run.specs.Works.{AreNumbered, to_do}
use Rattle.fish_script.specs.declared.script.Statement.{Statement}
use Rattle.fish_value.specs.declared.field.Form.{Form}

-- ---- statements

-- the lane's last statement is a file of which records are left, as its last item says, since the table was full: it
-- goes on with these, and then with what it handed back
pub record IsRestOfWorks (x : Lane) (next : List Work) : Type 0 where
  pub before : List Work
  pub form : Form
  pub begin : Begin
  pub name : List ℕ
  pub file : List ℕ
  pub works : x.works ≡ before ++ work.Ingest form begin name file ∷ []
  pub said : List Item
  pub title : List ℕ
  pub line : ℕ
  pub lines : ℕ
  pub end : ℕ
  pub stored : ℕ
  pub refused : ℕ
  pub items : x.items ≡ said ++ item.IngestFull title line lines end stored refused ∷ []
  pub rest : List ℕ
  pub left : IsLeftOf form begin file (stored + refused) rest
  pub is : next ≡ work.Ingest form After name rest ∷ x.left

-- the lane's last statement is a file, and its last item says that the table was full
pub record IsCutFile (x : Lane) : Type 0 where
  pub full : EndsFull x.items
  pub before : List Work
  pub form : Form
  pub begin : Begin
  pub name : List ℕ
  pub file : List ℕ
  pub works : x.works ≡ before ++ work.Ingest form begin name file ∷ []

-- what a lane goes on with in the next round: what it handed back, and where a new table was begun, before that what is
-- left of a file
abbrev pub GoesOnWith : Bool → Lane → List Work → Type 0
GoesOnWith false x next = next ≡ x.left
GoesOnWith true x next = ((IsCutFile x → ⊥) × (next ≡ x.left)) ⊎ IsRestOfWorks x next

-- what a lane is to do in a round: what it goes on with after the one before, and where that is nothing, what it was
-- given, of which the first alone may go on with a file
abbrev pub IsNextLane : Bool → Lane → List Work → Lane → Type 0
IsNextLane fresh x given y =
    (next : List Work) × GoesOnWith fresh x next × (to_do y ≡ next ++ given) × ((next ≡ []) ⊎ (given ≡ []))
    × AreAnewAfterFirst given

-- each round goes on from the one before it
abbrev pub GoOn : Round → List Round → Type 0
GoOn a [] = ⊤
GoOn a (b ∷ rounds) = Triples (IsNextLane b.fresh) a.lanes b.given b.lanes × AreNumbered b.lanes × GoOn b rounds

-- and in the first one lanes do what they were given
abbrev pub FollowOn : List Round → Type 0
FollowOn [] = ⊤
FollowOn (a ∷ rounds) =
    Pairs (λ ws x. (to_do x ≡ ws) × AreAnewAfterFirst ws) a.given a.lanes × AreNumbered a.lanes × (a.fresh ≡ false)
    × GoOn a rounds

-- what lanes were given over rounds
abbrev pub given_after : List (List Work) → List Round → List (List Work)
given_after given [] = given
given_after given (b ∷ rounds) = given_after (both given b.given) rounds

abbrev pub given_in : List Round → List (List Work)
given_in [] = []
given_in (a ∷ rounds) = given_after a.given rounds

-- these are the first rounds of a block whose lanes have these statements, and perhaps all
abbrev pub AreRounds : Option Files → List (List Statement) → List Round → Type 0
AreRounds told texts [] = ⊤
AreRounds told texts (a ∷ rounds) = FollowOn (a ∷ rounds) × Pairs (AreFirstOf told) texts (given_in (a ∷ rounds))

-- and all: in the last one no lane hands anything back
abbrev pub AreAll : List Round → Type 0
AreAll [] = ⊥
AreAll (a ∷ []) = LeaveNone a.lanes
AreAll (a ∷ b ∷ rounds) = AreAll (b ∷ rounds)
