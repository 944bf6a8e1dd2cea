-- A place in the log for a record that is prepared, its words there, and its entries in their chains.
use Rattle.std.specs.Prelude.{ℕ, ◌≡◌, ◌*◌, List, [], length, map, Some}
use Rattle.fish_ingest.specs.Preparation.{IsPreparedFor}
use Rattle.fish_ingest.specs.declared.placement.Pending.{Pending}
use Rattle.fish_ingest.specs.declared.preparation.Origin.{Origin}
use Rattle.fish_ingest.specs.declared.preparation.Prepared.{Prepared}
use Rattle.fish_layout.specs.Body.{IsBody}
use Rattle.fish_layout.specs.Cleared.{body_of}
use Rattle.fish_layout.specs.declared.parts.BodyParts.{BodyParts}
use Rattle.fish_psf.specs.declared.key.ActiveDef.{ActiveDef}
use Rattle.fish_rule.specs.Clocks.{IsLater}
use Rattle.fish_rule.specs.Flying.{region_of}
use Rattle.fish_rule.specs.Keys.{text_of}
use Rattle.fish_rule.specs.Logs.{Learns}
use Rattle.fish_rule.specs.Registry.{KnowsActive}
use Rattle.fish_rule.specs.SpaceSteps.{CanPublishRegion, flight_kind}
use Rattle.fish_rule.specs.declared.view.Epoch.TheVariants.{Confirmed}
use Rattle.fish_rule.specs.declared.view.Flight.{Flight}
use Rattle.fish_rule.specs.declared.view.Kind.TheVariants.{Stored}
use Rattle.fish_rule.specs.declared.view.View.{View}

-- ---- the words

-- what was prepared is a record of the pass's lane and of the version at which it is entered, with the keys of the
-- definitions that it knows to be active there
pub record IsPreparedIn (v : View) (prepared : Prepared) : Type 0 where
  pub defs : List ActiveDef
  pub origin : Origin
  pub payload : List ℕ
  pub made : IsPreparedFor defs origin payload prepared
  pub active : KnowsActive v.about v.learned origin.version (map text_of defs)
  pub lane_is : origin.lane ≡ v.lane
  pub entered : v.epoch ≡ Confirmed origin.version

-- f was just claimed for the lines of what was prepared, which is a record of the pass
pub record CanWrite (v : View) (f : Flight) (prepared : Prepared) : Type 0 where
  pub flying : v.flight ≡ Some f
  pub unfilled : f.words ≡ []
  pub unlinked : f.linked ≡ 0
  pub stored : flight_kind v f ≡ Stored
  pub lines : length prepared.body ≡ f.lines * 4
  pub fits : IsPreparedIn v prepared

-- the parts of the record that was prepared, with the number of the claim
abbrev pub claimed_parts : (v : View) (f : Flight) (prepared : Prepared) → CanWrite v f prepared → BodyParts
claimed_parts v f prepared can = record can.fits.made.0.0 { number = f.number }

-- the words of the record in flight are those of these parts, but for the links
pub record HoldsParts (p : BodyParts) (u : View) : Type 0 where
  pub flight : Flight
  pub flying : u.flight ≡ Some flight
  pub words : List ℕ
  pub made : IsBody p words
  pub same : body_of flight.words ≡ body_of words

-- the pass is as it was, but for its record in flight and what it learned of chains since
pub record OnlyWrites (v u : View) : Type 0 where
  pub learns : Learns v u
  pub clock : IsLater v.clock u.clock
  pub frame : u ≡ record v { flight = u.flight; learned = u.learned; clock = u.clock }
  pub count : u.learned.count ≡ v.learned.count
  pub found : u.learned.found ≡ v.learned.found

-- the record of the claim f is written with all its entries linked, and else the pass is as it was, but for what it
-- learned since
pub record HasWrittenRegion (v : View) (f : Flight) (u : View) : Type 0 where
  pub flight : Flight
  pub ready : CanPublishRegion u flight
  pub stored : flight_kind u flight ≡ Stored
  pub region : region_of flight ≡ region_of f
  pub only : OnlyWrites v u

-- ---- the place

-- the number of a record that isn't published yet
abbrev pub pending_number : Pending → ℕ
pending_number pending = pending.number
