-- What came is kept, or lost; where the read failed, nothing came.
use Rattle.std.proofs.Common.{◌≡◌, ◌∙◌, [], append-nil, false, refl, sym, take, true}
use Rattle.fish_feed.proofs.part.read_some.Goals as goal

pub returns-in-Err-append-clause-on : goal.returns-in-Err-append-clause-on
returns-in-Err-append-clause-on g c = record {
  more = [];
  gone = take c.in-Ok.count c.read.new.buf;
  took = c.in-Ok.ensures.bytes.0;
  rest_is = c.in-Err-append.ensures.err ∙ sym (append-nil c.args.file.now.rest);
  whole = λ bad. absurd (let no : true ≡ false = bad in cc);
  none = λ _. refl;
  form_is = refl;
  begin_is = refl;
  name_is = refl;
  room_is = refl;
}

pub returns-in-Err-clause-on : goal.returns-in-Err-clause-on
returns-in-Err-clause-on g c = record {
  more = [];
  gone = [];
  took = c.in-Err.ensures.bytes;
  rest_is = sym (append-nil c.args.file.now.rest);
  whole = λ whole. (whole, refl);
  none = λ _. refl;
  form_is = refl;
  begin_is = refl;
  name_is = refl;
  room_is = refl;
}
