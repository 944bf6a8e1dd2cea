-- What a record's words say is read part by part, so the candidate has a record's parts.
use Rattle.std.proofs.Common.{◌≡◌, ◌<◌, length, sym, ◌∙◌, subst, refl, arith}
use Rattle.std.specs.Prelude.{IsUtf8}
use Rattle.fish_layout.specs.declared.parts.BodyParts.{BodyParts}
use Rattle.fish_layout.proofs.Candidates.{candidate}
use Rattle.fish_layout.proofs.Entries.{some_same}
use Rattle.fish_layout.proofs.Outlines.{outline_payload, outline_values}
use Rattle.fish_layout.proofs.read.read_parts.Goals as goal

pub returns-in_default-2-clause-found : goal.returns-in_default-2-clause-found
returns-in_default-2-clause-found c p h =
    let is = c.in-Some.ensures.1 p h in
    let values =
    c.as_slice.ensures.value ∙ c.in_ok-values.ensures
    ∙ outline_values h is c.values_at.result c.values_at.ensures in
    let found = c.in_ok-keys.ensures.keys p h is.keys values in
    let none = c.in_default-2.is in
    cc

pub returns-in_default-3-clause-found : goal.returns-in_default-3-clause-found
returns-in_default-3-clause-found c p h =
    let is = c.in-Some.ensures.1 p h in
    let text = outline_payload h is c.payload_at.result c.payload_at.ensures in
    let some = c.in_ok-payload.ensures.text.1 (subst IsUtf8 (sym text) h.proper.text) in
    let none = rw c.in_default-3.is at some in
    cc

pub returns-clause-found : goal.returns-clause-found
returns-clause-found c p h =
    let is = c.in-Some.ensures.1 p h in
    let values =
    c.as_slice.ensures.value ∙ c.in_ok-values.ensures
    ∙ outline_values h is c.values_at.result c.values_at.ensures in
    let keys : c.in-Some-2.keys ≡ p.keys =
    some_same (sym c.in-Some-2.is ∙ c.in_ok-keys.ensures.keys p h is.keys values) in
    let value = rw c.in-Some-3.is at c.in_ok-payload.ensures.value in
    let payload : c.in-Some-3.payload ≡ p.payload =
    value ∙ outline_payload h is c.payload_at.result c.payload_at.ensures in
    let number : 0 < length p.keys → c.number_of.result ≡ p.number =
    λ some. c.number_of.ensures.value p h is.keys (omega arith) in
    let parts : BodyParts =
    record {
      form = c.in-Some.outline.form;
      lane = c.in-Some.outline.lane;
      version = c.in-Some.outline.version;
      number = c.number_of.result;
      keys = c.in-Some-2.keys;
      payload = c.in-Some-3.payload;
    } in
    (parts, refl, candidate parts h is.form is.lane is.version keys payload c.number_of.ensures.fits number)

pub returns-clause-number : goal.returns-clause-number
returns-clause-number c none =
    let count = rw c.in-Some-2.is at c.in_ok-keys.ensures.count in
    c.number_of.ensures.none (omega arith)
