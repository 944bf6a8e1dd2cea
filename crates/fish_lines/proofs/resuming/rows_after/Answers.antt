-- What is left of the rows gives what the others of the file give.
use Rattle.std.proofs.Common.{◌≡◌, ◌∙◌, ap, drop, map, ℕ, List, length, subst, sym, arith}
use Rattle.fish_csv.specs.Left.{rows_left}
use Rattle.fish_csv.specs.Reading.{rows_in}
use Rattle.fish_csv.specs.Rows.{payload_of_row}
use Rattle.fish_lines.proofs.ResumingLemmas.{left_rows, rows_left_after, if_both}
use Rattle.fish_lines.specs.Resuming.{IsLeftOf}
use Rattle.fish_lines.specs.declared.resuming.Begin.{Begin}
use Rattle.fish_value.specs.declared.field.Form.TheVariants.{Csv}
use Rattle.fish_lines.proofs.resuming.rows_after.Goals as goal

pub returns-in-Ok : goal.returns-in-Ok
returns-in-Ok c =
    if_both c.pass_rows.result
    (λ rest less is.
    subst (λ (z : Begin). IsLeftOf Csv z c.args.file.now c.args.many rest.now) (sym c.in-Start.is)
    (left_rows c.in-Start.header c.args.file.now rest.now c.args.many
    (let within = c.in-Ok.ensures.within in omega arith)
    (is ∙ ap (drop c.args.many) c.in-Ok.ensures.rows)))
    c.pass_rows.ensures.within c.pass_rows.ensures.others

pub returns-in-After : goal.returns-in-After
unfolding rows_left
returns-in-After c =
    if_both c.pass_rows-in-After.result
    (λ rest less is.
    subst (λ (z : Begin). IsLeftOf Csv z c.args.file.now c.args.many rest.now) (sym c.in-After.is)
    (rows_left_after c.args.file.now rest.now c.args.many
    (let same = ap length c.after-rows.ensures in omega arith)
    (subst (λ (z : List ℕ). map payload_of_row (rows_in rest.now)
    ≡ drop c.args.many (map payload_of_row (rows_in z))) c.after-rows.ensures is)))
    c.pass_rows-in-After.ensures.within c.pass_rows-in-After.ensures.others
