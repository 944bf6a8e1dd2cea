-- The search found the first LF, or that there is none.
use Rattle.fish_json.proofs.LineParts.{slice_split_nowhere, slice_split_first_end, slice_split_front}
use Rattle.std.proofs.Common.{arith}
use Rattle.fish_json.proofs.line.cut_line.Goals as goal

pub returns-in_err-end-clause-parts : goal.returns-in_err-end-clause-parts
returns-in_err-end-clause-parts c =
    rw c.from_residual.ensures
    (slice_split_nowhere c.args.b.now (λ k within. c.in_err-end.ensures k (omega arith) within))

pub returns-clause-parts : goal.returns-clause-parts
returns-clause-parts c =
    let found = c.in_ok-end.ensures in
    rw (c.split_at.ensures.front, c.split_at-2.ensures.back)
    (slice_split_first_end c.args.b.now c.in_ok-end.end found.0.high
    (λ j less. found.0.before j (omega arith) less) found.1)

pub returns-clause-no_end : goal.returns-clause-no_end
returns-clause-no_end c =
    let found = c.in_ok-end.ensures in
    rw c.split_at.ensures.front
    (slice_split_front c.args.b.now c.in_ok-end.end found.0.high (λ j less. found.0.before j (omega arith) less))
