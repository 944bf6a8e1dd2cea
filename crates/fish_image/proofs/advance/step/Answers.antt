-- A region that stands there is whole and ends within the committed lines, and was cut out of the words.
use Rattle.std.proofs.Common.{◌≡◌, ℕ, ◌*◌, ◌<◌, ◌++◌, length, arith, sym, ap, ◌∙◌}
use Rattle.std.proofs.lemmas.Bool.{eqb-true, eqb-false}
use Rattle.fish_image.specs.Log.{region_lines}
use Rattle.fish_image.proofs.Agreement.{at_less, cut_in, cut_out, not_empty, same_lines, within_lines}
use Rattle.fish_image.proofs.advance.step.Goals as goal

pub returns-then-is_empty : goal.returns-then-is_empty
returns-then-is_empty c k s terms h = (
  h,
  λ m follows. not_empty k s c.args.rest.now m follows
      (eqb-true (length c.args.rest.now) 0 (sym c.is_empty.ensures ∙ c.if-is_empty.true)),
)

pub returns-then-not-is_within : goal.returns-then-not-is_within
returns-then-not-is_within c k s terms h more m follows =
    let rest = c.args.rest.now in
    let none = eqb-false (length rest) 0 (sym c.is_empty.ensures ∙ c.if-is_empty.false) in
    let some : 0 < length rest = omega arith in
    let w = within_lines k s _ _ m follows in
    let lines : region_lines (rest ++ more) ≡ c.lines_in-lines.result = same_lines rest more some ∙ sym c.lines_in-lines.ensures.value in
    let first = w.0 in
    let last = w.1 in
    let line = h.line in
    let all = terms.lines in
    let can = c.is_within.ensures.1 (omega arith, omega arith) in
    absurd (cc (can, c.if-not-is_within.true))

pub returns-then-branch : goal.returns-then-branch
returns-then-branch c k s terms h =
    let rest = c.args.rest.now in
    let within = c.is_within.ensures.0 c.if-not-is_within.false in
    let some = within.0 in
    let lines : 4 * c.lines_in-lines.result ≡ 4 * region_lines rest = ap (λ (n : ℕ). 4 * n) c.lines_in-lines.ensures.value in
    let took = rw c.if-branch.true at (c.in_ok-take_region.ensures k s terms h) in
    let enough = c.if-rest-words.false in
    (took.0, cut_out k s rest (4 * c.lines_in-lines.result) lines (omega arith) took.0 took.1, took.2, lines, enough)

pub returns-else-branch : goal.returns-else-branch
returns-else-branch c k s terms h more m follows =
    let rest = c.args.rest.now in
    let within = c.is_within.ensures.0 c.if-not-is_within.false in
    let some = within.0 in
    let lines : 4 * c.lines_in-lines.result ≡ 4 * region_lines rest = ap (λ (n : ℕ). 4 * n) c.lines_in-lines.ensures.value in
    let none = rw c.if-branch.false at (c.in_ok-take_region.ensures k s terms h) in
    let enough = c.if-rest-words.false in
    none m (cut_in k s rest (4 * c.lines_in-lines.result) lines (omega arith) m
    (at_less k s rest more m (omega arith) (omega arith) follows))
