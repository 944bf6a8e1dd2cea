-- The bytes after the minus, or all bytes, are the numeral.
use Rattle.std.proofs.Common.{◌≡◌, drop, get_or, true, false, ◌==◌, refl, sym, ap, ◌∙◌}
use Rattle.fast_float.specs.Text.{scan}
use Rattle.serde_json.specs.Read.{number_of, number_from}
use Rattle.fish_json.proofs.number.parts.Goals as goal

pub returns-then-has_minus : goal.returns-then-has_minus
unfolding number_of
returns-then-has_minus c =
    let s = c.as_bytes-bytes.result.now in
    let signed : (get_or s 0 0 == 45) ≡ true = sym c.if-has_minus.ensures.value in
    let parts : c.scan.result ≡ scan (drop 1 s) = c.scan.ensures.parts ∙ ap scan c.split_at.ensures.back in
    let read : number_of s ≡ number_from true (scan (drop 1 s)) = rw signed refl in
    ap number_of (sym c.as_bytes-bytes.ensures.value) ∙ read ∙ ap (number_from true) (sym parts)

pub returns-else-has_minus : goal.returns-else-has_minus
unfolding number_of
returns-else-has_minus c =
    let s = c.as_bytes-bytes.result.now in
    let unsigned : (get_or s 0 0 == 45) ≡ false = sym c.if-has_minus.ensures.value in
    let read : number_of s ≡ number_from false (scan s) = rw unsigned refl in
    ap number_of (sym c.as_bytes-bytes.ensures.value) ∙ read
    ∙ ap (number_from false) (sym c.scan-else-has_minus.ensures.parts)
