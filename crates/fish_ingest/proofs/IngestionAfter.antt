-- Where an ingest leaves a pass, whatever it answers.
use Rattle.std.proofs.Common.{◌≤◌, ℕ, List, Result, Ok, Err, sym, subst}
use Rattle.std.specs.Prelude.{IfErr, IfOk}
use Rattle.fish_ingest.proofs.Passing.{on_lane}
use Rattle.fish_ingest.specs.Passing.{OnlyIngests}
use Rattle.fish_ingest.specs.Refusal.{HasLeft, HasRefused}
use Rattle.fish_ingest.specs.Ingestion.{CanStart, HasIngested}
use Rattle.fish_ingest.specs.declared.refusal.IngestRefusal.{IngestRefusal}
use Rattle.fish_ingest.specs.declared.refusal.IngestRefusal.TheVariants as refusal
use Rattle.fish_rule.specs.declared.view.View.{View}
use Rattle.fish_value.specs.declared.field.Form.{Form}

-- it may start again after a record
pub starts_again : (v u : View) (form : Form) (payload : List ℕ) (number : ℕ) → CanStart v
    → HasIngested v form payload number u → CanStart u
starts_again v u form payload number can h = record {
  live = subst (λ (z : ℕ). 1 ≤ z) (sym (on_lane h.on)) can.live;
  outside = h.outside;
}

-- after a refusal it has left
pub left_refused : (v u : View) (form : Form) (payload : List ℕ) (e : IngestRefusal) → HasRefused v form payload e u
    → HasLeft v u
left_refused v u form payload refusal.TooLong h = h.left
left_refused v u form payload refusal.NotRecord h = h.left
left_refused v u form payload refusal.OutOfMemory h = h.left
left_refused v u form payload (refusal.Full line lines end) h = h.left

-- so it may start again there too
pub starts_refused : (v u : View) → CanStart v → HasLeft v u → CanStart u
starts_refused v u can h = record {
  live = subst (λ (z : ℕ). 1 ≤ z) (sym (on_lane h.on)) can.live;
  outside = h.outside;
}

-- whatever it answers, the pass goes on and may start again
pub goes_on : (v u : View) (form : Form) (payload : List ℕ) (answer : Result ℕ IngestRefusal) → CanStart v
    → IfOk answer (λ number. HasIngested v form payload number u) → IfErr answer (λ e. HasRefused v form payload e u)
    → CanStart u × OnlyIngests v u
goes_on v u form payload (Ok number) can done refused = (starts_again v u form payload number can done, done.on)
goes_on v u form payload (Err e) can done refused =
    let left = left_refused v u form payload e refused in (starts_refused v u can left, left.on)
