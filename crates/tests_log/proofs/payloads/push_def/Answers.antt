-- The definition more is what its text is read as.
use Rattle.std.proofs.Common.{All, subst, sym}
use Rattle.std.proofs.lemmas.List.Elements.{All-push}
use Rattle.fish_psf.specs.declared.key.ActiveDef.{ActiveDef}
use Rattle.fish_rule.specs.Keys.{IsWritten}
use Rattle.tests_log.proofs.payloads.push_def.Goals as goal

pub returns-in-Ok : goal.returns-in-Ok
returns-in-Ok c =
    let d : ActiveDef = record { id = c.args.id; def = c.in_ok-def.def } in
    record {
      written = subst (All IsWritten) (sym c.in-Ok.ensures.items)
          (All-push IsWritten c.args.defs.now.items d c.requires.written c.in_ok-def.ensures.read);
    }
