-- The definition is the one that its text is, and is written as it.
use Rattle.std.proofs.Common.{◌∙◌, ℕ, List, sym, ap, subst}
use Rattle.fish_lang.specs.Definition.{definition_of}
use Rattle.fish_lang.specs.Language.{IsAccepted}
use Rattle.fish_epoch.proofs.definitions.parse_row.Goals as goal

pub returns-clause-text : goal.returns-clause-text
returns-clause-text c = ap (λ (t : List ℕ). (c.args.row.now.id, t)) (c.in_ok-def.ensures.written ∙ c.as_bytes.ensures)

pub returns-clause-written : goal.returns-clause-written
returns-clause-written c =
    subst (λ (b : List ℕ). IsAccepted b (definition_of c.in_ok-def.def)) (sym c.in_ok-def.ensures.written) c.in_ok-def.ensures.read
