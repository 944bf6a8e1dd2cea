-- A place in the log for a record that is prepared, its words there, and its entries in their chains. What private
-- clauses need of it.
use Rattle.std.specs.Prelude.{ℕ, ◌≡◌, ◌≢◌, ◌<◌, ◌≤◌, None, Some}
use Rattle.fish_ingest.specs.Passing.{OnlyIngests, HasMark, FoundSince}
use Rattle.fish_ingest.specs.Placement.{HoldsParts, IsPreparedIn}
use Rattle.fish_ingest.specs.declared.placement.Pending.{Pending}
use Rattle.fish_ingest.specs.declared.preparation.Prepared.{Prepared}
use Rattle.fish_layout.specs.Body.{body_lines}
use Rattle.fish_rule.specs.SpaceSteps.{CanClaimLines, CanPublishRegion, flight_at, flight_kind}
use Rattle.fish_rule.specs.declared.view.Flight.{Flight}
use Rattle.fish_rule.specs.declared.view.Kind.TheVariants.{Stored, Void}
use Rattle.fish_rule.specs.declared.view.Shut.{Shut}
use Rattle.fish_rule.specs.declared.view.View.{View}

-- ---- the place

-- what was prepared is a record of the pass, which may claim its lines
pub record CanPlace (v : View) (prepared : Prepared) : Type 0 where
  pub claim : CanClaimLines v
  pub fits : IsPreparedIn v prepared
  pub lines : ℕ
  pub size : lines ≡ body_lines fits.made.0.0

-- the pass has these lines for a record under a number that was not counted before; all else that it claimed since
-- is void
pub record HasPlace (v : View) (lines number : ℕ) (u : View) : Type 0 where
  pub on : OnlyIngests v u
  pub line : ℕ
  pub flying : u.flight ≡ Some (flight_at number line lines)
  pub kind : flight_kind u (flight_at number line lines) ≡ Stored
  pub fresh : v.learned.count ≤ number
  pub counted : number < u.learned.count
  pub epoch : u.epoch ≡ v.epoch
  pub shut : u.shut ≡ v.shut
  pub own : u.own ≡ v.own
  pub voids : FoundSince (λ kind. kind ≡ Void) v u

-- a claim of these lines shut the pass; all that it claimed since is void, but for the mark
pub record IsShutBy (v : View) (lines : ℕ) (shut : Shut) (u : View) : Type 0 where
  pub on : OnlyIngests v u
  pub version : u.learned.version ≡ v.learned.version
  pub idle : u.flight ≡ None
  pub shut_is : u.shut ≡ Some shut
  pub lines_is : shut.lines ≡ lines
  pub mark : HasMark u shut
  pub epoch : u.epoch ≡ v.epoch
  pub own : u.own ≡ v.own
  pub unstored : FoundSince (λ kind. kind ≢ Stored) v u

-- the record that was prepared is in flight and may be published, under a number that was not counted before
pub record IsInPlace (v : View) (prepared : Prepared) (can : CanPlace v prepared) (pending : Pending) (u : View)
    : Type 0 where
  pub on : OnlyIngests v u
  pub flight : Flight
  pub ready : CanPublishRegion u flight
  pub stored : flight_kind u flight ≡ Stored
  pub number_is : flight.number ≡ pending.number
  pub words : HoldsParts (record can.fits.made.0.0 { number = flight.number }) u
  pub fresh : v.learned.count ≤ flight.number
  pub counted : flight.number < u.learned.count
  pub epoch : u.epoch ≡ v.epoch
  pub shut : u.shut ≡ v.shut
  pub own : u.own ≡ v.own
  pub voids : FoundSince (λ kind. kind ≡ Void) v u
