-- The next payload is a row.
use Rattle.std.proofs.Common.{◌≡◌, ◌∷◌, ap, ◌∙◌, ℕ, List, Option}
use Rattle.fish_csv.specs.Left.{rows_left}
use Rattle.fish_select.proofs.RowLemmas.{next_is_row}
use Rattle.fish_select.proofs.rows.add_rows.Goals as goal

pub add_row-requires-clause-is : goal.add_row-requires-clause-is
add_row-requires-clause-is c =
    let behind = rows_left c.next_row.new.self in
    let next : rows_left c.loop-reader.rows ≡ c.in-Some.row ∷ behind = rw c.in-Some.is at c.in_ok-row.ensures.rows in
    next_is_row c.loop-reader.rows c.in-Some-row.text behind
    (next ∙ ap (λ (row : Option (List ℕ)). row ∷ behind) c.in-Some-row.is)
