-- Each field of a header word is what it was made from.
use Rattle.std.proofs.Common.{◌≡◌, ℕ, ◌+◌, ◌*◌, ◌/◌, ◌%◌, ◌^◌, ◌<◌, ap, ◌∙◌, arith}
use Rattle.std.proofs.lemmas.Nat.{shr_high, mod_low}
use Rattle.fish_value.specs.declared.field.Form.{Form}
use Rattle.fish_value.specs.declared.field.Form.TheVariants.{Json, Csv}
use Rattle.fish_layout.specs.Header.{field, form_code, form_of, header_word, keys_of}
use Rattle.fish_layout.specs.Header.{lane_of, length_of, lines_of}
use Rattle.fish_layout.specs.within.Header.{header_version}

-- the fields of a header are within their bits
pub record FitHeader (lines form keys lane version length : ℕ) : Type 0 where
  pub lines_fit : lines < 2 ^ 16
  pub form_fit : form < 2 ^ 2
  pub keys_fit : keys < 2 ^ 9
  pub lane_fit : lane < 2 ^ 5
  pub version_fit : version < 2 ^ 10
  pub length_fit : length < 2 ^ 20

-- a value between what stands above and what stands below it is the field there
pub field_is : (top width value at low w : ℕ) → w ≡ (top * 2 ^ width + value) * 2 ^ at + low → low < 2 ^ at →
    value < 2 ^ width → field w at width ≡ value
unfolding field
field_is top width value at low w is below fits =
    ap (λ x. x / 2 ^ at % 2 ^ width) is ∙ ap (λ x. x % 2 ^ width) (shr_high (top * 2 ^ width + value) at low below)
    ∙ mod_low top width value fits

-- a form's code has two bits
pub form_code_fits : (f : Form) → form_code f < 2
form_code_fits Json = omega arith
form_code_fits Csv = omega arith

-- the lines in a header is what it was made from
pub lines_of-header : {lines form keys lane version length : ℕ} → FitHeader lines form keys lane version length →
    lines_of (header_word lines form keys lane version length) ≡ lines
unfolding lines_of
lines_of-header {lines} {form} {keys} {lane} {version} {length} fit =
    field_is (form + keys * 2 ^ 2 + lane * 2 ^ 11 + version * 2 ^ 16 + length * 2 ^ 26) 16 lines 0 0 _
    (omega arith) (omega arith) fit.lines_fit

-- the code of the form in a header is what it was made from
pub form_of-header : {lines form keys lane version length : ℕ} → FitHeader lines form keys lane version length →
    form_of (header_word lines form keys lane version length) ≡ form
unfolding form_of
form_of-header {lines} {form} {keys} {lane} {version} {length} fit =
    field_is (keys + lane * 2 ^ 9 + version * 2 ^ 14 + length * 2 ^ 24) 2 form 16 lines _ (omega arith)
    fit.lines_fit fit.form_fit

-- the number of key entries in a header is what it was made from
pub keys_of-header : {lines form keys lane version length : ℕ} → FitHeader lines form keys lane version length →
    keys_of (header_word lines form keys lane version length) ≡ keys
unfolding keys_of
keys_of-header {lines} {form} {keys} {lane} {version} {length} fit =
    field_is (lane + version * 2 ^ 5 + length * 2 ^ 15) 9 keys 18 (lines + form * 2 ^ 16) _ (omega arith)
    (omega arith) fit.keys_fit

-- the lane in a header is what it was made from
pub lane_of-header : {lines form keys lane version length : ℕ} → FitHeader lines form keys lane version length →
    lane_of (header_word lines form keys lane version length) ≡ lane
unfolding lane_of
lane_of-header {lines} {form} {keys} {lane} {version} {length} fit =
    field_is (version + length * 2 ^ 10) 5 lane 27 (lines + form * 2 ^ 16 + keys * 2 ^ 18) _ (omega arith)
    (omega arith) fit.lane_fit

-- the version in a header is what it was made from
pub header_version-header : {lines form keys lane version length : ℕ} → FitHeader lines form keys lane version length →
    header_version (header_word lines form keys lane version length) ≡ version
unfolding header_version
header_version-header {lines} {form} {keys} {lane} {version} {length} fit =
    field_is length 10 version 32 (lines + form * 2 ^ 16 + keys * 2 ^ 18 + lane * 2 ^ 27) _ (omega arith)
    (omega arith) fit.version_fit

-- the length of the payload in a header is what it was made from
pub length_of-header : {lines form keys lane version length : ℕ} → FitHeader lines form keys lane version length →
    length_of (header_word lines form keys lane version length) ≡ length
unfolding length_of
length_of-header {lines} {form} {keys} {lane} {version} {length} fit =
    field_is 0 20 length 42 (lines + form * 2 ^ 16 + keys * 2 ^ 18 + lane * 2 ^ 27 + version * 2 ^ 32) _
    (omega arith) (omega arith) fit.length_fit
