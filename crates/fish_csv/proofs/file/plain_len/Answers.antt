-- No mark stands before the first.
use Rattle.std.proofs.Common.{arith, length, ◌≤◌}
use Rattle.std.proofs.lemmas.List.{take_all}
use Rattle.fish_csv.specs.within.Turns.{is_mark}
use Rattle.fish_csv.proofs.Found.{none-before, none-in}
use Rattle.fish_csv.proofs.file.plain_len.Goals as goal

pub returns-in_default-clause-plain : goal.returns-in_default-clause-plain
returns-in_default-clause-plain c = let all : length c.args.b.now ≤ length c.args.b.now = omega arith in
    rw take_all (none-in is_mark c.args.b.now c.in_default.ensures)

pub returns-else-b-at-eq34-clause-plain : goal.returns-else-b-at-eq34-clause-plain
returns-else-b-at-eq34-clause-plain c = none-before is_mark c.args.b.now c.in-Some.at c.in-Some.ensures
