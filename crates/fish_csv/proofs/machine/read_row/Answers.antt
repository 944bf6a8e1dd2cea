-- A run joins the field; after it the text ends, or one byte leads on or ends the row.
use Rattle.std.proofs.Common.{◌∙◌, [], length, refl, ap, length-drop, arith}
use Rattle.csv.specs.Records.{fields_of}
use Rattle.fish_csv.specs.within.Machine.{row_from}
use Rattle.csv.specs.declared.parser.State.TheVariants as st
use Rattle.fish_csv.proofs.Records.{rows-more, rows-none, turn-end, turn-run}
use Rattle.fish_csv.proofs.machine.read_row.Goals as goal

pub returns-then-not-found : goal.returns-then-not-found
returns-then-not-found c =
    let on = turn-run _ _ _ _ _ _ _ _ _ c.loop-c.invariant.same c.run_len.ensures.runs c.split_at.ensures.front
    c.split_at.ensures.back c.in_ok-extend_from_slice.ensures.items in
    rows-none c.args.b.now
    (turn-end c.args.b.now c.loop-c.position _ _ _ _ c.in_ok-found.found on c.in_default.ensures c.in_ok-found.ensures
    ∙ rw c.if-not-found.true refl)

pub returns-in_default : goal.returns-in_default
returns-in_default c =
    let on = turn-run _ _ _ _ _ _ _ _ _ c.loop-c.invariant.same c.run_len.ensures.runs c.split_at.ensures.front
    c.split_at.ensures.back c.in_ok-extend_from_slice.ensures.items in
    let found = turn-end c.args.b.now c.loop-c.position _ _ _ _ c.in_ok-found.found on c.in_default.ensures
    c.in_ok-found.ensures ∙ rw c.if-not-found.false refl in
    rw c.in_default.ensures (rows-more c.args.b.now _ st.StartRecord [] found)

pub returns-in_default-2 : goal.returns-in_default-2
returns-in_default-2 c =
    let on = turn-run _ _ _ _ _ _ _ _ _ c.loop-c.invariant.same c.run_len.ensures.runs c.split_at.ensures.front
    c.split_at.ensures.back c.in_ok-extend_from_slice.ensures.items in
    let last = (rw c.in_default-2.is at c.in_ok-next.ensures.goes) c.in-Some.more.now in
    rows-more c.args.b.now _ last.0 c.in-Some.more.now
    (on ∙ ap (λ t. row_from c.loop-c.position
    (fields_of c.loop-c.row) c.extend_from_slice.new.self.items t) c.in-Some.ensures ∙ last.2)

pub loop-c-preserved : goal.loop-c-preserved
loop-c-preserved c =
    let on = turn-run _ _ _ _ _ _ _ _ _ c.loop-c.invariant.same c.run_len.ensures.runs c.split_at.ensures.front
    c.split_at.ensures.back c.in_ok-extend_from_slice.ensures.items in
    let next = (rw c.in-Some-2.is at c.in_ok-next.ensures.goes) c.in-Some.more.now in
    record {
      within = omega (
        arith,
        ap length c.in-Some.ensures,
        length-drop c.run_len.result c.loop-c.rest.now,
        ap length c.split_at.ensures.back,
      );
      whole = c.in_ok-next.ensures.whole;
      same = on
          ∙ ap (λ t. row_from c.loop-c.position (fields_of c.loop-c.row) c.extend_from_slice.new.self.items t) c.in-Some.ensures
          ∙ next;
    }
