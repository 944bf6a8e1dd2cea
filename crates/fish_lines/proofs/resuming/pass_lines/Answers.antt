-- One of the lines less is left.
use Rattle.std.proofs.Common.{◌≡◌, ◌∙◌, ◌+◌, ap, drop, ℕ, suc, List, length, subst, sym, arith}
use Rattle.std.specs.List.{slice_split}
use Rattle.fish_json.specs.Lines.{is_line_end, lines_of_parts}
use Rattle.fish_lines.proofs.ResumingLemmas.{drop_more, drop_next}
use Rattle.fish_lines.specs.Left.{lines_left}
use Rattle.fish_lines.proofs.resuming.pass_lines.Goals as goal

pub returns-in-None-clause-others : goal.returns-in-None-clause-others
unfolding lines_left
returns-in-None-clause-others c =
    let i = c.loop.invariant in
    let none = c.in-None.ensures.lines in
    subst (λ (z : List ℕ). lines_of_parts (slice_split is_line_end z) ≡ drop c.args.many (lines_left c.args.lines)) (sym i.at)
    (none ∙ sym (drop_more c.loop.counter c.args.many (lines_left c.args.lines) (omega (c.loop-test.true, arith)) (sym i.left_are ∙ none)))

pub loop-preserved : goal.loop-preserved
loop-preserved c =
    let i = c.loop.invariant in
    let last = c.rest-rest-in-Some.ensures in
    let next : lines_left c.next_line.new.self ≡ drop (suc c.loop.counter) (lines_left c.args.lines)
    = sym (drop_next c.loop.counter (lines_left c.args.lines) _ _ (sym i.left_are ∙ c.in-Some.ensures.lines)) in
    record {
      within =
          let same = ap length last in
          let same_before = ap length i.at in
          let within = i.within in
          let shorter = c.in-Some.ensures.shorter in
          omega arith;
      at = last;
      left_are = next ∙ ap (λ (z : ℕ). drop z (lines_left c.args.lines))
          (let e : suc c.loop.counter ≡ c.loop.counter + 1 = omega arith in e);
    }

pub returns-clause-others : goal.returns-clause-others
unfolding lines_left
returns-clause-others c =
    let i = c.loop.invariant in
    let all : c.loop.counter ≡ c.args.many = omega (c.loop.auto.counter-end, c.loop-test.false, arith) in
    subst (λ (z : List ℕ). lines_of_parts (slice_split is_line_end z) ≡ drop c.args.many (lines_left c.args.lines)) (sym i.at)
    (i.left_are ∙ ap (λ (z : ℕ). drop z (lines_left c.args.lines)) all)
