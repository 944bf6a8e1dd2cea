-- The definition more is what its text is read as.
use Rattle.std.proofs.Common.{All, subst, sym}
use Rattle.std.proofs.lemmas.List.Elements.{All-push}
use Rattle.fish_psf.specs.declared.key.ActiveDef.{ActiveDef}
use Rattle.fish_rule.specs.Keys.{IsWritten}
use Rattle.tests_log.proofs.openings.add_def.Goals as goal

pub returns-in-Ok-clause-written : goal.returns-in-Ok-clause-written
returns-in-Ok-clause-written c =
    let d : ActiveDef = record { id = c.in-Ok.id; def = c.in_ok-def.def } in
    subst (All IsWritten) (sym c.in_ok-push-in-Ok.ensures.items)
    (All-push IsWritten c.args.defs.now.items d c.requires.written c.in_ok-def.ensures.read)
