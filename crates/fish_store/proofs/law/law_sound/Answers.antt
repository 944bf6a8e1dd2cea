-- Each part is a lemma.
use Rattle.fish_store.proofs.Opening.{opened_sound, stands_part}
use Rattle.fish_store.proofs.Running.{here_both, here_stays}
use Rattle.fish_store.proofs.law.law_sound.Goals as goal

pub returns-clause-opens : goal.returns-clause-opens
returns-clause-opens g c = λ disk d log o h. opened_sound g.D.Disk disk d log o h

pub returns-clause-parts : goal.returns-clause-parts
returns-clause-parts g c = λ disk d log o h. stands_part g.D.Disk disk d log o h

pub returns-clause-steps : goal.returns-clause-steps
returns-clause-steps g c = λ p q h. here_stays g.D.Disk p q h

pub returns-clause-both : goal.returns-clause-both
returns-clause-both g c = λ p m q h t. here_both g.D.Disk p m q h t
