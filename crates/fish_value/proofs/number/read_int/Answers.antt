-- Off the form there is no number; on it the bytes are a text, and `parse` reads the number.
use Rattle.std.proofs.Common.{sym, ◌∙◌}
use Rattle.std.proofs.lemmas.Str.{IsUtf8-from_ascii}
use Rattle.fish_value.proofs.NumberLemmas.{IsNumberText-is_number, int_of-other, int_of-parsed}
use Rattle.fish_value.proofs.number.read_int.Goals as goal

pub returns-then-not-has_number_form : goal.returns-then-not-has_number_form
returns-then-not-has_number_form c =
    sym (int_of-other c.args.b.now (sym c.has_number_form.ensures ∙ c.if-not-has_number_form.true))

pub returns-in_default : goal.returns-in_default
returns-in_default c =
    let form = sym c.has_number_form.ensures ∙ c.if-not-has_number_form.false in
    absurd (c.in_default.ensures.cases.0 (IsUtf8-from_ascii c.args.b.now (IsNumberText-is_number c.args.b.now form).1))

pub returns : goal.returns
returns c =
    let form = sym c.has_number_form.ensures ∙ c.if-not-has_number_form.false in
    c.ok.ensures.value ∙ int_of-parsed c.args.b.now c.parse.result form (rw c.in-Ok.ensures.cases.0 at c.parse.ensures.value.0)
