-- What is left of the lines gives what the others of the file give.
use Rattle.std.proofs.Common.{◌≡◌, ◌∙◌, ap, drop, ℕ, List, length, subst, sym, arith}
use Rattle.std.specs.List.{slice_split}
use Rattle.fish_json.specs.Lines.{is_line_end, lines_of_parts}
use Rattle.fish_lines.proofs.ResumingLemmas.{left_lines, lines_left_after}
use Rattle.fish_lines.specs.Left.{lines_left}
use Rattle.fish_lines.specs.Resuming.{IsLeftOf}
use Rattle.fish_lines.specs.declared.resuming.Begin.{Begin}
use Rattle.fish_value.specs.declared.field.Form.TheVariants.{Json}
use Rattle.fish_lines.proofs.resuming.lines_after.Goals as goal

pub returns-in-Start : goal.returns-in-Start
returns-in-Start c =
    subst (λ (z : Begin). IsLeftOf Json z c.args.file.now c.args.many c.pass_lines.result.now) (sym c.in-Start.is)
    (left_lines c.in-Start.header c.args.file.now c.pass_lines.result.now c.args.many
    (omega (c.pass_lines.ensures.within, c.new.ensures.within, arith))
    (c.pass_lines.ensures.others ∙ ap (drop c.args.many) c.new.ensures.lines))

pub returns-in-After : goal.returns-in-After
unfolding lines_left
returns-in-After c =
    let rest = c.pass_lines-in-After.result.now in
    subst (λ (z : Begin). IsLeftOf Json z c.args.file.now c.args.many rest) (sym c.in-After.is)
    (lines_left_after c.args.file.now rest c.args.many
    (let same = ap length c.after.ensures in let less = c.pass_lines-in-After.ensures.within in omega arith)
    (subst (λ (z : List ℕ). lines_of_parts (slice_split is_line_end rest) ≡ drop c.args.many (lines_of_parts (slice_split is_line_end z)))
    c.after.ensures c.pass_lines-in-After.ensures.others))
