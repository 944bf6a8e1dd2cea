-- The definition more is what its text is read as.
use Rattle.std.proofs.Common.{All, subst, sym}
use Rattle.std.proofs.lemmas.List.Elements.{All-push}
use Rattle.fish_lang.specs.Definition.{definition_of}
use Rattle.fish_psf.specs.declared.key.ActiveDef.{ActiveDef}
use Rattle.fish_rule.specs.Keys.{IsWritten}
use Rattle.bench.proofs.definitions.add.Goals as goal

pub returns-clause-written : goal.returns-clause-written
returns-clause-written c =
    let d : ActiveDef = record { id = c.in-Ok-add.id; def = c.in-Ok.def } in
    subst (All IsWritten) (sym c.in_ok-push.ensures.items)
    (All-push IsWritten c.args.definitions.now.defs.items d c.requires.written
    (c.reads_back.ensures c.as_bytes.result.now (definition_of c.in-Ok.def) c.in-Ok.ensures.answer))
