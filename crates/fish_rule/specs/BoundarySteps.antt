-- How the control pass finds the number at which an index begins or ends, and how any pass learns it: what each knows
-- after these steps, and when it may make them.
use Rattle.std.specs.Prelude.{ℕ, ◌≡◌, ◌≢◌, ◌<◌, ◌≤◌, zero, suc, List, ◌∷◌, Option, Some, None}
use Rattle.std.proofs.Math.Decide.{ℕ_discrete, dec_lt}
use Rattle.fish_catalog.specs.Listing.{IsOnAt}
use Rattle.fish_layout.specs.Cleared.{choose}
use Rattle.fish_rule.specs.Registry.{control_word, row_at}
use Rattle.fish_rule.specs.SpaceSteps.{noted, ticked}
use Rattle.fish_rule.specs.Views.{Among}
use Rattle.fish_rule.specs.World.{high, low}
use Rattle.fish_rule.specs.declared.view.Noted.TheVariants.{Epoch, Tail}
use Rattle.fish_rule.specs.declared.view.RegistryWord.{RegistryWord}
use Rattle.fish_rule.specs.declared.view.Round.{Round}
use Rattle.fish_rule.specs.declared.view.Unended.{Unended}
use Rattle.fish_rule.specs.declared.view.View.{View}

-- ---- check: a load of a lane's epoch word

-- the lane is one of 1 to 16
pub record IsLane (l : ℕ) : Type 0 where
  pub some : 1 ≤ l
  pub few : l ≤ 16

-- one lane more was looked at
abbrev pub with_lane : ℕ → Round → Round
with_lane l o = record o { checked = l ∷ o.checked }

-- a lane's epoch word tells that no pass of it is entered at an older version than the registration's: it is 0, or
-- more than that version
abbrev pub checked_after : ℕ → ℕ → Option Round → Option Round
checked_after l x None = None
checked_after l x (Some o) =
    Some (choose (ℕ_discrete x 0) (with_lane l o) (choose (dec_lt o.version x) (with_lane l o) o))

-- the epoch word is seen
abbrev pub after_check_lane : View → ℕ → ℕ → View
after_check_lane v l x = record v { round = checked_after l x v.round; clock = noted v.clock (Epoch l) x }

-- ---- bound: a load of the tail after the last lane

-- a registration waits, and all lanes were looked at
pub record CanLoadBound (v : View) (o : Round) : Type 0 where
  pub waits : v.round ≡ Some o
  pub all : (l : ℕ) → 1 ≤ l → l ≤ 16 → Among l o.checked

-- the count is where the index begins
abbrev pub after_load_bound : View → Round → ℕ → View
after_load_bound v o x = record v {
  round = Some (record o { bound = Some (high x) });
  learned = record v.learned { count = high x };
  tail = Some (record { number = high x; line = low x });
  clock = noted v.clock Tail x;
}

-- ---- set boundary: a store of a boundary word

-- the word at an index is this one from now on, and the pass knows it as if it had loaded it
abbrev pub after_store_boundary : View → ℕ → ℕ → Option Round → View
after_store_boundary v p n round = record v {
  control_words = record { index = p; value = suc n } ∷ v.control_words;
  round = round;
  learned = record v.learned { words = record { index = p; value = suc n } ∷ v.learned.words };
  clock = ticked v.clock;
}

-- the control pass may store where the index of the row that waits begins
pub record CanStoreFrom (v : View) (o : Round) (n : ℕ) : Type 0 where
  pub control : v.lane ≡ 1
  pub waits : v.round ≡ Some o
  pub bound : o.bound ≡ Some n

-- no registration waits any more
abbrev pub after_store_from : View → Round → ℕ → View
after_store_from v o n = after_store_boundary v (row_at o.id 0) n None

-- the control pass may store where the index of an active row ends: it began, it has no end, and the number is one of
-- this table's that was counted, not before the one at which it began
pub record CanStoreTo (v : View) (id n : ℕ) : Type 0 where
  pub control : v.lane ≡ 1
  pub on : IsOnAt v.rows id
  pub few : id < 256
  pub began : control_word v.control_words (row_at id 0) ≢ 0
  pub endless : control_word v.control_words (row_at id 1) ≡ 0
  pub above : v.about.number ≤ n
  pub after : (from : ℕ) → control_word v.control_words (row_at id 0) ≡ suc from → from ≤ n
  pub within : n ≤ v.learned.count

-- the index ends there
abbrev pub after_store_to : View → ℕ → ℕ → View
after_store_to v id n = after_store_boundary v (row_at id 1) n v.round

-- ---- load boundary

-- the row is one of 256, and the word one of its boundaries
pub record CanLoadBoundary (id i : ℕ) : Type 0 where
  pub few : id < 256
  pub bound : i < 2

-- a boundary that is set lasts
abbrev pub with_boundary : ℕ → ℕ → List RegistryWord → List RegistryWord
with_boundary p zero words = words
with_boundary p (suc n) words = record { index = p; value = suc n } ∷ words

-- up to where the definition had not ended: its end, or else what is settled
abbrev pub end_told : ℕ → ℕ → ℕ
end_told settled zero = settled
end_told settled (suc n) = n

-- the word of an end tells that the definition had not ended before
abbrev pub with_end : ℕ → ℕ → ℕ → ℕ → List Unended → List Unended
with_end id zero settled x unended = unended
with_end id (suc i) settled x unended = record { id = id; below = end_told settled x } ∷ unended

-- the boundary is seen
abbrev pub after_load_boundary : View → ℕ → ℕ → ℕ → View
after_load_boundary v id i x = record v {
  learned = record v.learned {
    words = with_boundary (row_at id i) x v.learned.words;
    unended = with_end id i v.learned.settled x v.learned.unended;
  };
  clock = ticked v.clock;
}
