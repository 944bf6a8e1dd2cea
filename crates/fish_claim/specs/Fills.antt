-- The words of a record in flight.
use Rattle.std.specs.Prelude.{ℕ, ◌≡◌, ◌+◌, ◌*◌, ◌≤◌, List, [], length, Some}
use Rattle.fish_layout.specs.Cleared.{body_of}
use Rattle.fish_layout.specs.Header.{keys_of}
use Rattle.fish_rule.specs.ChainSteps.{HasBody}
use Rattle.fish_rule.specs.SpaceSteps.{flight_kind}
use Rattle.fish_rule.specs.declared.view.Flight.{Flight}
use Rattle.fish_rule.specs.declared.view.Kind.TheVariants.{Stored}
use Rattle.fish_rule.specs.declared.view.View.{View}

-- a record in flight with these words
abbrev pub with_words : Flight → List ℕ → Flight
with_words f words = record f { words = words }

-- f is the record in flight, with nothing stored, and the words are all of a record for it: of the pass's lane, with
-- f's number and lines, of the version at which the pass is entered, and with the keys of that version
pub record CanFill (v : View) (f : Flight) (words : List ℕ) : Type 0 where
  pub flying : v.flight ≡ Some f
  pub unfilled : f.words ≡ []
  pub unlinked : f.linked ≡ 0
  pub stored : flight_kind v f ≡ Stored
  pub full : length words ≡ f.lines * 4
  pub body : HasBody v (with_words f words)

-- f is the record in flight of a pass that is live, with all words of a record of its version with the keys of that
-- version, and no more of its key entries are linked than it has
pub record IsFilled (v : View) (f : Flight) : Type 0 where
  pub live : 1 ≤ v.lane
  pub flying : v.flight ≡ Some f
  pub stored : flight_kind v f ≡ Stored
  pub full : length f.words ≡ f.lines * 4
  pub body : HasBody v f
  pub linked : f.linked ≤ keys_of (body_of f.words 0)

-- the words are stored, a step each
abbrev pub filled_view : View → Flight → List ℕ → View
filled_view v f words = record v {
  flight = Some (with_words f words);
  clock = record v.clock { steps = v.clock.steps + length words };
}
