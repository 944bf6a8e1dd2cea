-- The first row is the only one where line ends alone come after it.
use Rattle.fish_csv.proofs.Readings.{one_row}
use Rattle.fish_csv.proofs.text.read_one.Goals as goal

pub returns : goal.returns
returns c =
    let first = rw c.in-Some.is at c.in_ok-behind.ensures in
    one_row c.args.b.now _ c.in-Some.behind.now c.without_ends.result.now c.is_empty.result first.0
    c.without_ends.ensures.same c.without_ends.ensures.begins c.is_empty.ensures
