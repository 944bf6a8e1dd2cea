-- The shape is held first, and then the lines.
use Rattle.fish_disk.proofs.Regions.{still_holds}
use Rattle.fish_recover.proofs.Holding.{held, held_not, held_other}
use Rattle.fish_recover.specs.within.Choosing.{IsChosen}
use Rattle.fish_recover.proofs.finding.hold.Goals as goal

pub returns-then-differs-clause-refused : goal.returns-then-differs-clause-refused
returns-then-differs-clause-refused g c =
    let chosen = c.args.chosen in
    held_other (g.D.Disk.content c.args.disk.now) c.args.asked chosen.slot chosen.both chosen.commit c.requires.chosen
    (c.differs.ensures.0 c.if-differs.true)

pub returns-in-Ok-clause-found : goal.returns-in-Ok-clause-found
returns-in-Ok-clause-found g c =
    let chosen = c.args.chosen in
    let old = g.D.Disk.content c.args.disk.now in
    let new = g.D.Disk.content c.check_lines.new.disk in
    held new c.args.asked _
    (still_holds (λ i. IsChosen i chosen.slot chosen.both chosen.commit) old new c.check_lines.ensures.content c.requires.chosen)
    (λ is. absurd (cc (c.differs.ensures.1 is, c.if-differs.false))) c.in-Ok.ensures.found

pub returns-in-Err-clause-refused : goal.returns-in-Err-clause-refused
returns-in-Err-clause-refused g c =
    let chosen = c.args.chosen in
    let old = g.D.Disk.content c.args.disk.now in
    let new = g.D.Disk.content c.check_lines.new.disk in
    held_not new c.args.asked chosen.slot chosen.both chosen.commit c.in-Err.refusal
    (still_holds (λ i. IsChosen i chosen.slot chosen.both chosen.commit) old new c.check_lines.ensures.content c.requires.chosen)
    (λ is. absurd (cc (c.differs.ensures.1 is, c.if-differs.false))) c.in-Err.ensures.refused
