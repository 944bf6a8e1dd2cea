-- The candidate is the record that the words are, and no other record has these words.
use Rattle.std.proofs.Common.{ap}
use Rattle.std.specs.Prelude.{Some}
use Rattle.fish_layout.proofs.Once.{body_back}
use Rattle.fish_layout.proofs.read.read_body.Goals as goal

pub returns-then-branch-clause-back : goal.returns-then-branch-clause-back
returns-then-branch-clause-back c p h none =
    let read = c.in_ok-is_body.ensures.0 c.if-branch.true in
    let number = rw c.in-Some.is at c.in_ok-parts.ensures.number in
    ap Some (body_back read h number none)
