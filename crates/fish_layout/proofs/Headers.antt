-- What a header says of itself, and that it says only that.
use Rattle.std.proofs.Common.{◌≡◌, ℕ, ◌^◌, ◌<◌, ◌≤◌, Option, Some, None, MatchOption, refl, sym, ap, ◌∙◌, subst, arith}
use Rattle.fish_value.specs.declared.field.Form.{Form}
use Rattle.fish_value.specs.declared.field.Form.TheVariants.{Json, Csv}
use Rattle.fish_layout.specs.Header.{form_code, form_of, keys_of, lane_of, length_of, lines_of, void_word}
use Rattle.fish_layout.specs.within.Header.{header_version}
use Rattle.fish_layout.specs.Headers.{IsHeader, IsHeaderOf, IsRecordHeader, IsVoidHeader}
use Rattle.fish_layout.specs.declared.header.Header.{Header}
use Rattle.fish_layout.proofs.Fields.{FitHeader, form_code_fits, form_of-header, keys_of-header}
use Rattle.fish_layout.proofs.Fields.{lane_of-header, length_of-header, lines_of-header, header_version-header}

-- the fields of a word are those of a header
pub record Says (w : ℕ) (h : Header) : Type 0 where
  pub lines : lines_of w ≡ h.lines
  pub keys : keys_of w ≡ h.keys
  pub lane : lane_of w ≡ h.lane
  pub version : header_version w ≡ h.version
  pub length : length_of w ≡ h.length

-- limits are within the bits
fits : {w : ℕ} {f : Form} {h : Header} → IsRecordHeader w f h →
    FitHeader h.lines (form_code f) h.keys h.lane h.version h.length
fits {w} {f} {h} is =
    record {
      lines_fit = is.lines;
      form_fit = omega (arith, form_code_fits f);
      keys_fit = omega (arith, is.limits.keys);
      lane_fit = omega (arith, is.limits.lane);
      version_fit = omega (arith, is.limits.version);
      length_fit = omega (arith, is.limits.length);
    }

-- a record's header says what it was made from
pub header_says : {w : ℕ} {f : Form} {h : Header} → IsRecordHeader w f h → Says w h
header_says {w} {f} {h} is =
    record {
      lines = ap lines_of is.is ∙ lines_of-header (fits is);
      keys = ap keys_of is.is ∙ keys_of-header (fits is);
      lane = ap lane_of is.is ∙ lane_of-header (fits is);
      version = ap header_version is.is ∙ header_version-header (fits is);
      length = ap length_of is.is ∙ length_of-header (fits is);
    }

-- and its form
header_form : {w : ℕ} {f : Form} {h : Header} → IsRecordHeader w f h → form_of w ≡ form_code f
header_form {w} {f} {h} is = ap form_of is.is ∙ form_of-header (fits is)

-- a void's header is one with form 2 and else zeros
void_fits : (lines : ℕ) → lines < 2 ^ 16 → FitHeader lines 2 0 0 0 0
void_fits lines h =
    record {
      lines_fit = h;
      form_fit = omega arith;
      keys_fit = omega arith;
      lane_fit = omega arith;
      version_fit = omega arith;
      length_fit = omega arith;
    }

-- the lines in a void's header are its own
pub lines_of-void : (lines : ℕ) → lines < 2 ^ 16 → lines_of (void_word lines) ≡ lines
lines_of-void lines h = ap lines_of (omega arith) ∙ lines_of-header (void_fits lines h)

-- a void's header has form 2
pub form_of-void : (lines : ℕ) → lines < 2 ^ 16 → form_of (void_word lines) ≡ 2
form_of-void lines h = ap form_of (omega arith) ∙ form_of-header (void_fits lines h)

-- a void's header has no key entry
pub keys_of-void : (lines : ℕ) → lines < 2 ^ 16 → keys_of (void_word lines) ≡ 0
keys_of-void lines h = ap keys_of (omega arith) ∙ keys_of-header (void_fits lines h)

-- two forms with one code are one
pub same_form : (f g : Form) → form_code f ≡ form_code g → g ≡ f
same_form Json Json e = refl
same_form Csv Csv e = refl
same_form Json Csv e = absurd (omega arith)
same_form Csv Json e = absurd (omega arith)

-- a word with a form's code is a header of that form alone
header_by_form : (w : ℕ) (f : Form) (h : Header) (o : Option Form) → form_of w ≡ form_code f → IsHeaderOf w h o →
    IsRecordHeader w f h
header_by_form w f h (Some g) code is = subst (λ x. IsRecordHeader w x h) (same_form f g (sym code ∙ header_form is)) is
header_by_form w f h None code is =
    absurd (omega (arith, form_code_fits f, form_of-void h.lines is.lines, ap form_of is.is))

-- a word with no form's code is a header of a void alone
header_by_none : (w : ℕ) (h : Header) (o : Option Form) → 2 ≤ form_of w → IsHeaderOf w h o → IsVoidHeader w h
header_by_none w h (Some g) code is = absurd (omega (arith, form_code_fits g, header_form is))
header_by_none w h None code is = is

-- what was found for a word's form is what there is for the word
pub IsHeader-form : (w : ℕ) (f : Form) (o : Option Header) → form_of w ≡ form_code f →
    MatchOption o (¬ ((h : Header) × IsRecordHeader w f h)) (λ h. (h.form ≡ Some f) × IsRecordHeader w f h) →
    MatchOption o (¬ ((h : Header) × IsHeader w h)) (IsHeader w)
IsHeader-form w f (Some h) code found = subst (IsHeaderOf w h) (sym found.0) found.1
IsHeader-form w f None code none = λ some. none (some.0, header_by_form w f some.0 some.0.form code some.1)

-- the same for a void
pub IsHeader-void : (w : ℕ) (o : Option Header) → 2 ≤ form_of w →
    MatchOption o (¬ ((h : Header) × IsVoidHeader w h)) (λ h. (h.form ≡ None) × IsVoidHeader w h) →
    MatchOption o (¬ ((h : Header) × IsHeader w h)) (IsHeader w)
IsHeader-void w (Some h) code found = subst (IsHeaderOf w h) (sym found.0) found.1
IsHeader-void w None code none = λ some. none (some.0, header_by_none w some.0 some.0.form code some.1)
