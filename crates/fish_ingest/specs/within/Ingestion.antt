-- What an ingest asks of a pass, and what it leaves. What private clauses need of it.
use Rattle.std.specs.Prelude.{ℕ, ◌≡◌, List}
use Rattle.fish_epoch.specs.Entering.{OnlyEnters}
use Rattle.fish_ingest.specs.within.Placement.{CanPlace}
use Rattle.fish_ingest.specs.declared.preparation.Prepared.{Prepared}
use Rattle.fish_rule.specs.Clocks.{HasLoaded}
use Rattle.fish_rule.specs.declared.view.Noted.TheVariants.{Version}
use Rattle.fish_rule.specs.declared.view.View.{View}
use Rattle.fish_value.specs.declared.field.Form.{Form}

-- ---- on the way

-- the pass is entered with the record that a payload is, at the version that it found by a load on the way and that it
-- knows to be the last, and may place it; else it is as it was, but for what it learned of the registry
pub record CanPlaceFor (v : View) (form : Form) (payload : List ℕ) (prepared : Prepared) (u : View) : Type 0 where
  pub keeps : OnlyEnters v u
  pub can : CanPlace u prepared
  pub form_is : can.fits.origin.form ≡ form
  pub payload_is : can.fits.payload ≡ payload
  pub known : u.learned.version ≡ can.fits.origin.version
  pub loaded : HasLoaded v.clock u.clock Version can.fits.origin.version
