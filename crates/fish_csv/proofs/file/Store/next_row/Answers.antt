-- A line without quotes is stored as it stands.
use Rattle.std.proofs.Common.{sym, arith}
use Rattle.std.proofs.lemmas.List.{take-append-drop}
use Rattle.fish_csv.proofs.Lines.{IsStored-line, TakesRow-line, TakesRow-same}
use Rattle.fish_csv.proofs.file.Store.next_row.Goals as goal

pub payload-requires : goal.payload-requires
payload-requires c =
    IsStored-line c.split_at.result.0.now (omega (arith, c.split_at.ensures.front_len))
    (rw c.split_at.ensures.front c.plain_len-len.ensures.plain)

pub returns : goal.returns
returns c =
    TakesRow-same c.args.b.now c.without_ends-b.result.now c.split_at.result.1.now c.in_ok-outcome.outcome
    c.without_ends-b.ensures.same c.without_ends-b.ensures.within
    (TakesRow-line c.without_ends-b.result.now c.split_at.result.0.now c.split_at.result.1.now c.in_ok-outcome.outcome
    (rw (c.split_at.ensures.front, c.split_at.ensures.back) (sym (take-append-drop c.plain_len-len.result c.without_ends-b.result.now)))
    (omega (arith, c.split_at.ensures.front_len))
    (rw c.split_at.ensures.front c.plain_len-len.ensures.plain)
    (rw c.split_at.ensures.back (c.plain_len-len.ensures.ends (omega arith)))
    c.in_ok-outcome.ensures)
