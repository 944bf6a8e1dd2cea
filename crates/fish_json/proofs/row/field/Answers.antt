-- Each test of the tape's value finds the kind of its data.
use Rattle.std.proofs.Common.{sym, ◌∙◌}
use Rattle.fish_json.proofs.Elements.{kind_text, kind_number, kind_bool, kind_null, kind_other}
use Rattle.fish_json.proofs.row.field.Goals as goal

pub returns-in-Some : goal.returns-in-Some
returns-in-Some c =
    λ d h. kind_text h.0 d c.in-Some.text.now (sym (c.in-Some.ensures h.0 h.1)) h.2

pub returns-in-Some-as_number : goal.returns-in-Some-as_number
returns-in-Some-as_number c =
    λ d h. c.number.ensures
    ∙ kind_number h.0 d c.in-Some-as_number.text.now (sym (c.in-Some-as_number.ensures h.0 h.1)) h.2

pub returns-in-Some-as_bool : goal.returns-in-Some-as_bool
returns-in-Some-as_bool c = λ d h. kind_bool h.0 d c.in-Some-as_bool.truth (sym (c.in-Some-as_bool.ensures h.0 h.1)) h.2

pub returns-then-is_null : goal.returns-then-is_null
returns-then-is_null c = λ d h. kind_null h.0 d (sym (c.if-is_null.ensures h.0 h.1)) h.2

pub returns : goal.returns
returns c = λ d h.
    kind_other h.0 d
    (sym (c.in_default.ensures h.0 h.1))
    (sym (c.in_default-as_number.ensures h.0 h.1))
    (sym (c.in_default-as_bool.ensures h.0 h.1))
    (sym (c.if-is_null.ensures h.0 h.1))
    h.2
