-- What was written is kept.
use Rattle.std.proofs.Common.{sym, subst}
use Rattle.fish_flush.specs.within.Carrying.{IsSaved}
use Rattle.fish_flush.specs.declared.flusher.Flusher.{Flusher}
use Rattle.fish_rule.specs.Passes.{view}
use Rattle.fish_flush.proofs.saving.save.Goals as goal

pub returns-in-Ok-clause-saved : goal.returns-in-Ok-clause-saved
returns-in-Ok-clause-saved g c =
    subst (λ (z : Flusher). IsSaved (g.D.Disk.images c.args.disk.now) (g.D.Disk.images c.write_draft.new.disk) (view c.args.pass.now)
    (view c.write_draft.new.pass) c.args.log.now.key.end c.args.log.now.shape c.args.flusher.now c.args.draft z) (sym c.keep.ensures)
    c.in-Ok.ensures.saved
