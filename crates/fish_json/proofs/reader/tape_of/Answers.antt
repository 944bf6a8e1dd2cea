-- The three cases: no document, one that does not fit, and one that fits.
use Rattle.std.proofs.Common.{◌≡◌, Err, true, false, is_some, sym, ap, ◌∙◌}
use Rattle.fish_json.specs.within.Tape.{open_after}
use Rattle.fish_json.proofs.Readings.{read-no_document, read-no_fit, read-fits}
use Rattle.fish_json.proofs.reader.tape_of.Goals as goal

pub returns-then-fits : goal.returns-then-fits
returns-then-fits c =
    let fit : is_some (open_after 0 c.in-Ok.tape) ≡ true =
    ap (λ l. is_some (open_after 0 l)) (sym c.nodes.ensures.tokens) ∙ sym c.if-fits.ensures in
    let ok = c.in-Ok.ensures.ok in
    read-fits c.args.text.now c.in-Ok.tape ok.0 ok.1 fit

pub returns-in-Ok : goal.returns-in-Ok
returns-in-Ok c =
    let fit : is_some (open_after 0 c.in-Ok.tape) ≡ false =
    ap (λ l. is_some (open_after 0 l)) (sym c.nodes.ensures.tokens) ∙ sym c.if-fits.ensures in
    let ok = c.in-Ok.ensures.ok in
    read-no_fit c.args.text.now c.in-Ok.tape ok.0 fit

pub returns-in-Err-Invalid : goal.returns-in-Err-Invalid
returns-in-Err-Invalid c =
    read-no_document c.args.text.now (c.in-Err-Invalid.ensures.invalid (ap Err c.in-Err-Invalid.field-0-is))
