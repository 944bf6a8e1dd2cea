-- The second of two quotes joins the field.
use Rattle.fish_csv.proofs.Steps.{closed-quote}
use Rattle.fish_csv.proofs.machine.advance_doubled.Goals as goal

pub returns : goal.returns
returns c = λ fields rest. rw c.in_ok-push.ensures.items (closed-quote fields _ rest)
