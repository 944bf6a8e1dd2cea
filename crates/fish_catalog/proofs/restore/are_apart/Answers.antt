-- Each active row was compared with those before it.
use Rattle.std.proofs.Common.{arith, refl}
use Rattle.fish_catalog.proofs.Lookups.{apart_all}
use Rattle.fish_catalog.proofs.restore.are_apart.Goals as goal

pub returns : goal.returns
returns c = ((λ _. apart_all c.args.rows.now (λ k less. c.loop-position.invariant k (omega arith))), λ _. refl)
