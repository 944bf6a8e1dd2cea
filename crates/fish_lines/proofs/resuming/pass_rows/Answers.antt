-- One of the rows less is left.
use Rattle.std.proofs.Common.{◌≡◌, ◌∙◌, ◌+◌, ap, drop, map, ℕ, suc, List, length, subst, sym, arith}
use Rattle.fish_csv.specs.Reading.{rows_in}
use Rattle.fish_csv.specs.Rows.{payload_of_row}
use Rattle.fish_lines.proofs.ResumingLemmas.{drop_more, drop_next, if_some, of_none, of_some}
use Rattle.fish_csv.specs.Left.{rows_left}
use Rattle.fish_lines.proofs.resuming.pass_rows.Goals as goal

pub returns-in-None-clause-others : goal.returns-in-None-clause-others
unfolding rows_left
returns-in-None-clause-others c =
    let i = c.loop.invariant in
    let none = of_none _ _ c.in_ok-next_row.field-0 c.in-None.is c.in_ok-next_row.ensures.rows in
    subst (λ (z : List ℕ). map payload_of_row (rows_in z) ≡ drop c.args.many (rows_left c.args.rows.now)) (sym i.at)
    (none ∙ sym (drop_more c.loop.counter c.args.many (rows_left c.args.rows.now) (omega (c.loop-test.true, arith))
    (sym i.left_are ∙ none)))

pub loop-preserved : goal.loop-preserved
loop-preserved c =
    let i = c.loop.invariant in
    let last = c.rest-rest-in-Some.ensures in
    let some = of_some _ _ c.in_ok-next_row.field-0 c.in-Some.field-0 c.in-Some.is c.in_ok-next_row.ensures.rows in
    let next : rows_left c.next_row.new.self ≡ drop (suc c.loop.counter) (rows_left c.args.rows.now)
    = sym (drop_next c.loop.counter (rows_left c.args.rows.now) _ _ (sym i.left_are ∙ some)) in
    record {
      within =
          let same = ap length last in
          let same_before = ap length i.at in
          let within = i.within in
          let shorter = if_some _ c.in_ok-next_row.field-0 c.in-Some.field-0 c.in-Some.is c.in_ok-next_row.ensures.shorter in
          omega arith;
      at = last;
      left_are = next ∙ ap (λ (z : ℕ). drop z (rows_left c.args.rows.now))
          (let e : suc c.loop.counter ≡ c.loop.counter + 1 = omega arith in e);
    }

pub returns-clause-others : goal.returns-clause-others
unfolding rows_left
returns-clause-others c =
    let i = c.loop.invariant in
    let all : c.loop.counter ≡ c.args.many = omega (c.loop.auto.counter-end, c.loop-test.false, arith) in
    subst (λ (z : List ℕ). map payload_of_row (rows_in z) ≡ drop c.args.many (rows_left c.args.rows.now)) (sym i.at)
    (i.left_are ∙ ap (λ (z : ℕ). drop z (rows_left c.args.rows.now)) all)
