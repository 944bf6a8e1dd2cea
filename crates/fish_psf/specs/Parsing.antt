-- What reading a payload answers, whatever it is read as.
use Rattle.std.specs.Prelude.{ℕ, ◌≡◌, ◌≢◌, ◌↔◌, ◌<◌, ◌≤◌, List, length, true, false, Result, IfOk, IfErr, IsErrOf, OnOk}
use Rattle.fish_value.specs.Limits.{longest_payload}
use Rattle.fish_value.specs.declared.field.Form.{Form}
use Rattle.fish_psf.specs.Eval.{Fields}
use Rattle.fish_psf.specs.Records.{fields_of_payload, is_record}
use Rattle.fish_psf.specs.declared.reading.PsfRefusal.{PsfRefusal}
use Rattle.fish_psf.specs.declared.reading.PsfRefusal.TheVariants as refusal

-- a payload of a form is read as a record of that form with its fields, as `form_in` and `fields_in` tell them, or is
-- refused: as too long exactly over the limit, and as no record only where it is none
pub record IsParsed {R : Type 0} (form_in : R → Form) (fields_in : R → Fields) (form : Form) (b : List ℕ)
    (result : Result R PsfRefusal) : Type 0 where
  pub form_is : IfOk result (λ found. form_in found ≡ form)
  pub fields : IfOk result (λ found. fields_in found ≡ fields_of_payload form b)
  pub accepted : OnOk result (is_record form b ≡ true)
  pub too_long : IsErrOf result refusal.TooLong ↔ (longest_payload < length b)
  pub not_record : IsErrOf result refusal.NotRecord → (length b ≤ longest_payload) × (is_record form b ≡ false)
  pub none : IfErr result (λ e. e ≢ refusal.OutOfMemory → is_record form b ≡ false)
