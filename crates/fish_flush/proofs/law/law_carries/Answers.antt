-- Nothing was committed of a store that was made; and what is asked of a view stays known.
use Rattle.fish_flush.proofs.Lasting.{carries_on, first_carries}
use Rattle.fish_flush.proofs.law.law_carries.Goals as goal

pub returns-clause-first : goal.returns-clause-first
returns-clause-first g c = λ disk. first_carries (g.D.Disk.images disk)

pub returns-clause-on : goal.returns-clause-on
returns-clause-on g c = λ disk. carries_on (g.D.Disk.images disk)
