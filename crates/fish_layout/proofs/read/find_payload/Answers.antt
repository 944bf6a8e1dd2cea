-- The payload of a record stands where the outline says, and is a text.
use Rattle.std.proofs.Common.{◌∙◌, sym, subst}
use Rattle.std.specs.Prelude.{IsUtf8}
use Rattle.fish_layout.proofs.Outlines.{outline_payload}
use Rattle.fish_layout.proofs.read.find_payload.Goals as goal

pub returns-in_default-2 : goal.returns-in_default-2
returns-in_default-2 c body =
    let h = body.1 in
    let is = c.in-Some.ensures.1 body.0 h in
    let text = outline_payload h is c.payload_at.result c.payload_at.ensures in
    let some = c.in_ok-payload.ensures.text.1 (subst IsUtf8 (sym text) h.proper.text) in
    let none = rw c.in_default-2.is at some in
    cc

pub returns : goal.returns
returns c p h =
    let is = c.in-Some.ensures.1 p h in
    let value = rw c.in-Some-2.is at c.in_ok-payload.ensures.value in
    record {
      lane = is.lane;
      form = is.form;
      payload = value ∙ outline_payload h is c.payload_at.result c.payload_at.ensures;
    }
