-- The rule as the table's, and what a step tells its pass.
use Rattle.std.specs.Prelude.{ℕ, ◌≡◌, suc, List, [], ◌∷◌, length, map, Bool, Some, None}
use mathlib.Core.Option.{some}
use Rattle.std.proofs.Math.ListN.{get_elem?}
use Rattle.atomic_table.specs.Table.{Me, State}
use Rattle.fish_catalog.specs.Listing.{listed_of}
use Rattle.fish_catalog.specs.Words.{row_word}
use Rattle.fish_catalog.specs.declared.row.CatRow.{CatRow}
use Rattle.fish_rule.specs.BoundarySteps.{with_boundary}
use Rattle.fish_rule.specs.Registry.{row_at}
use Rattle.fish_rule.specs.Rule.{Rule}
use Rattle.fish_rule.specs.SeatSteps.{fresh, unlearned}
use Rattle.fish_rule.specs.World.{World, total, world}
use Rattle.fish_rule.specs.declared.view.Epoch.TheVariants.{Out}
use Rattle.fish_rule.specs.declared.view.Key.{Key}
use Rattle.fish_rule.specs.declared.view.RegistryWord.{RegistryWord}
use Rattle.fish_rule.specs.declared.view.View.{View}

-- the words are as many as the key says, and the rule holds of them and the views
pub record Ruled (k : Key) (s : State Bool View) : Type 0 where
  pub wide : length s.words ≡ total k
  pub rule : Rule k (world k s.words s.views)

-- the boundaries of rows, whose ids begin at n
abbrev pub boundaries_of : ℕ → List CatRow → List RegistryWord
boundaries_of n [] = []
boundaries_of n (row ∷ rows) = record { index = row_at n 0; value = row_word row 0 }
    ∷ record { index = row_at n 1; value = row_word row 1 } ∷ boundaries_of (suc n) rows

-- those that are set, as words that were read
abbrev pub set_boundaries_of : ℕ → List CatRow → List RegistryWord
set_boundaries_of n [] = []
set_boundaries_of n (row ∷ rows) = with_boundary (row_at n 0) (row_word row 0)
    (with_boundary (row_at n 1) (row_word row 1) (set_boundaries_of (suc n) rows))

-- the view of the first pass: the control pass, with all lanes
abbrev pub first_view : Key → View
first_view k = record {
  about = k;
  lane = 1;
  out = [];
  shut = None;
  flight = None;
  epoch = Out;
  rows = map listed_of k.rows.value;
  control_words = boundaries_of 0 k.rows.value;
  round = None;
  tail = Some (record { number = k.number; line = k.line });
  own = [];
  learned = record unlearned {
    count = k.number;
    settled = k.number;
    version = k.version;
    words = set_boundaries_of 0 k.rows.value;
  };
  clock = fresh;
}

-- some moment meets the rule, and a pass has this view there
pub record IsOfMoment (v : View) : Type 0 where
  pub moment : World
  pub rule : Rule v.about moment
  pub seat : ℕ
  pub at : get_elem? moment.views seat ≡ some v

-- a pass before and after a step
abbrev pub Sat : Type 0
Sat = Me Bool View

-- the view is this one, and stands; the pass holds what it held
pub record Told (m : Sat) (v : View) (m' : Sat) : Type 0 where
  pub view : m'.0 ≡ v
  pub held : m'.1 ≡ m.1
  pub stands : IsOfMoment v

-- in some moment that meets the rule a pass has this view, and the directory word of a number is this one
pub record Sees (v : View) (n word : ℕ) : Type 0 where
  pub moment : World
  pub rule : Rule v.about moment
  pub seat : ℕ
  pub at : get_elem? moment.views seat ≡ some v
  pub is : word ≡ moment.dir n
