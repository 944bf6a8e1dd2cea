-- A quote may end the field, another byte joins it.
use Rattle.fish_csv.proofs.Steps.{quoted-quote, quoted-other}
use Rattle.fish_csv.proofs.machine.advance_quoted.Goals as goal

pub returns-then-c-eq34 : goal.returns-then-c-eq34
returns-then-c-eq34 c = λ fields rest. quoted-quote c.args.c fields _ rest c.if-c-eq34.true

pub returns : goal.returns
returns c = λ fields rest. rw c.in_ok-push.ensures.items (quoted-other c.args.c fields _ rest c.if-c-eq34.false)
