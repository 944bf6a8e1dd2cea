-- The payload stands where the outline says, and is a text.
use Rattle.std.proofs.Common.{◌∙◌, sym, subst}
use Rattle.std.specs.Prelude.{IsUtf8}
use Rattle.fish_layout.proofs.Outlines.{outline_payload}
use Rattle.fish_layout.proofs.read.read_payload.Goals as goal

pub text_of-requires : goal.text_of-requires
text_of-requires c =
    let h = c.requires.1 in
    let is = c.in-Some.ensures.1 c.requires.0 h in
    let text = outline_payload h is c.payload_at.result c.payload_at.ensures in
    subst IsUtf8 (sym (c.in_ok-payload.ensures ∙ text)) h.proper.text

pub returns-clause-payload : goal.returns-clause-payload
returns-clause-payload c p h =
    let is = c.in-Some.ensures.1 p h in
    c.text_of.ensures ∙ c.in_ok-payload.ensures ∙ outline_payload h is c.payload_at.result c.payload_at.ensures
