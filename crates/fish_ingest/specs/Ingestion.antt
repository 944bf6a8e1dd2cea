-- What an ingest asks of a pass, and what it leaves.
use Rattle.std.specs.Prelude.{ℕ, ◌≡◌, ◌⊎◌, ◌<◌, ◌≤◌, List, [], ◌∷◌, ◌++◌, None, true}
use Rattle.fish_catalog.specs.declared.entry.Entry.TheVariants as entry
use Rattle.fish_epoch.specs.Definitions.{IsDefsOf}
use Rattle.fish_epoch.specs.declared.definitions.Defs.{Defs}
use Rattle.fish_ingest.specs.Passing.{OnlyIngests, FoundSince}
use Rattle.fish_ingest.specs.Placement.{HoldsParts, pending_number}
use Rattle.fish_ingest.specs.Preparation.{IsRecordFor}
use Rattle.fish_ingest.specs.declared.placement.Pending.{Pending}
use Rattle.fish_layout.specs.declared.parts.BodyParts.{BodyParts}
use Rattle.fish_psf.specs.Records.{is_record}
use Rattle.fish_rule.specs.Logs.{KnowsAs}
use Rattle.fish_rule.specs.Passes.{IsPassOf, view}
use Rattle.fish_rule.specs.SpaceSteps.{CanPublishRegion, flight_kind}
use Rattle.fish_rule.specs.Views.{Among}
use Rattle.fish_rule.specs.declared.table.Log.{Log}
use Rattle.fish_rule.specs.declared.table.Pass.{Pass}
use Rattle.fish_rule.specs.declared.view.Epoch.TheVariants.{Out}
use Rattle.fish_rule.specs.declared.view.Flight.{Flight}
use Rattle.fish_rule.specs.declared.view.Found.{Found}
use Rattle.fish_rule.specs.declared.view.Kind.TheVariants.{Stored, Void}
use Rattle.fish_rule.specs.declared.view.View.{View}
use Rattle.fish_value.specs.declared.field.Form.{Form}

-- ---- before

-- the pass is live and isn't entered
pub record CanStart (v : View) : Type 0 where
  pub live : 1 ≤ v.lane
  pub outside : v.epoch ≡ Out

-- the pass is one of the log and may start, and its definitions are those that it read
pub record CanIngest (log : Log) (pass : Pass) (defs : Defs) : Type 0 where
  pub of : IsPassOf log pass
  pub start : CanStart (view pass)
  pub read : IsDefsOf (view pass) defs

-- the record in flight is the pending one, and may be published
pub record IsPending (v : View) (pending : Pending) : Type 0 where
  pub flight : Flight
  pub ready : CanPublishRegion v flight
  pub stored : flight_kind v flight ≡ Stored
  pub number_is : flight.number ≡ pending_number pending

-- ---- afterwards

-- exactly that record is in flight, whole and with all its entries linked, under a number that the pass had not
-- counted; all else that it claimed is void
pub record HasStarted (v : View) (form : Form) (payload : List ℕ) (pending : Pending) (u : View) : Type 0 where
  pub on : OnlyIngests v u
  pub unshut : v.shut ≡ None
  pub waits : IsPending u pending
  pub parts : BodyParts
  pub are : IsRecordFor u form payload parts
  pub words : HoldsParts (record parts { number = pending_number pending }) u
  pub fresh : v.learned.count ≤ pending_number pending
  pub counted : pending_number pending < u.learned.count
  pub shut : u.shut ≡ v.shut
  pub own : u.own ≡ v.own
  pub voids : FoundSince (λ kind. kind ≡ Void) v u

-- the payload is a record, and it is published: the pass's own numbers have gained this one and nothing else, and in
-- every later moment the entry at the number is the pass's lane, the form and the payload
pub record HasIngested (v : View) (form : Form) (payload : List ℕ) (number : ℕ) (u : View) : Type 0 where
  pub accepted : is_record form payload ≡ true
  pub unshut : v.shut ≡ None
  pub on : OnlyIngests v u
  pub outside : u.epoch ≡ Out
  pub idle : u.flight ≡ None
  pub shut : u.shut ≡ v.shut
  pub own : u.own ≡ v.own ++ record { lane = v.lane; number = number } ∷ []
  pub entry : KnowsAs u number (entry.Stored v.lane form payload)
  pub fresh : v.learned.count ≤ number
  pub counted : number < u.learned.count
  pub found : (x : Found) → Among x u.learned.found
      → Among x v.learned.found ⊎ ((x.kind ≡ Void) ⊎ (x.number ≡ number))
