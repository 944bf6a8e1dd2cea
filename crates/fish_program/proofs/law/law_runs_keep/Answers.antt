-- Each part is a lemma.
use Rattle.fish_program.proofs.Laws.{stopped_keeps, whole_keeps}
use Rattle.fish_program.proofs.law.law_runs_keep.Goals as goal

pub returns-clause-whole : goal.returns-clause-whole
returns-clause-whole g c = λ disk disk' asked told text old new o r some.
    whole_keeps g.D.Disk disk disk' asked told text old new o r some

pub returns-clause-stopped : goal.returns-clause-stopped
returns-clause-stopped g c = λ disk disk' asked told text old new why o r log is some.
    stopped_keeps g.D.Disk disk disk' asked told text old new why o r log is some
