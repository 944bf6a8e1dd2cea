-- A tape that was made tells the reading of the bytes; what is left is whether it is an object.
use Rattle.std.proofs.Common.{Some, sym, ap, ◌∙◌, arith}
use Rattle.fish_json.proofs.Readings.{root-stands, record_yes, record_no}
use Rattle.fish_json.proofs.reader.JsonReader.read.Goals as goal

pub returns-then-not-is_object-clause-not_object : goal.returns-then-not-is_object-clause-not_object
returns-then-not-is_object-clause-not_object c = λ _.
    let told = rw c.in-Some-2.is at c.in_ok-tape.ensures in
    let at_root = root-stands c.root.result c.in-Some-2.tape c.root.ensures.same told.0 in
    let other = sym (c.if-not-is_object.ensures _ at_root) in
    let no = record_no c.args.b.now c.in-Some-2.tape (omega arith) (c.in-Some.ensures ∙ told.1) told.0 other in
    (omega arith, no.0, no.1)

pub returns-then-not-is_object-clause-none : goal.returns-then-not-is_object-clause-none
returns-then-not-is_object-clause-none c = λ _.
    let told = rw c.in-Some-2.is at c.in_ok-tape.ensures in
    let at_root = root-stands c.root.result c.in-Some-2.tape c.root.ensures.same told.0 in
    let other = sym (c.if-not-is_object.ensures _ at_root) in
    let no = record_no c.args.b.now c.in-Some-2.tape (omega arith) (c.in-Some.ensures ∙ told.1) told.0 other in
    no.1

pub returns-clause-ok : goal.returns-clause-ok
returns-clause-ok c =
    let told = rw c.in-Some-2.is at c.in_ok-tape.ensures in
    let at_root = root-stands c.root.result c.in-Some-2.tape c.root.ensures.same told.0 in
    let object = sym (c.if-not-is_object.ensures _ at_root) in
    record_yes c.args.b.now c.in-Some-2.tape (omega arith) (c.in-Some.ensures ∙ told.1) told.0 object
    ∙ ap Some (sym c.of_tape.ensures)
