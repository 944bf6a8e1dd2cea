-- A catalogue's rows are numbered, so the ids of its active rows ascend.
use Rattle.std.proofs.Common.{◌∙◌, List, subst, sym}
use Rattle.fish_catalog.specs.Rows.{IsCatalog}
use Rattle.fish_catalog.specs.declared.row.CatRow.{CatRow}
use Rattle.fish_ingest.proofs.PreparationDefs.{active_clamped, active_defs}
use Rattle.fish_rule.specs.within.Keys.{AreActive}
use Rattle.tests_log.proofs.openings.defined.Goals as goal

-- they are the ids of the definitions
pub returns-in-Ok-clause-defs : goal.returns-in-Ok-clause-defs
returns-in-Ok-clause-defs c =
    active_defs (subst IsCatalog c.rows-rows.ensures.value c.rows-rows.ensures.kept) c.in_ok-catalog.ensures.active
    c.in_ok-catalog.ensures.written

-- and the rows that the log begins with have the same active ones
pub returns-in-Ok-clause-active : goal.returns-in-Ok-clause-active
returns-in-Ok-clause-active c =
    subst (λ (rows : List CatRow). AreActive rows c.in_ok-catalog.defs.items) (sym c.in-Ok.ensures.is.rows)
    (c.in_ok-catalog.ensures.active ∙ sym (active_clamped 0 c.in_ok-catalog.catalog))
