-- The log begins with the rows of the catalogue, whose ids ascend.
use Rattle.std.proofs.Common.{List, ◌∙◌, sym, subst}
use Rattle.bench.proofs.Splitting.{first_controls}
use Rattle.fish_catalog.specs.Rows.{IsCatalog}
use Rattle.fish_catalog.specs.declared.row.CatRow.{CatRow}
use Rattle.fish_ingest.proofs.PreparationDefs.{active_clamped, active_defs}
use Rattle.fish_rule.specs.within.Keys.{AreActive}
use Rattle.fish_rule.specs.Passes.{view}
use Rattle.bench.proofs.opening.open.Goals as goal

pub returns : goal.returns
returns c =
    let active = c.requires.active in
    let kept = subst IsCatalog c.rows-rows.ensures.value c.rows-rows.ensures.kept in
    record {
      pass = c.in_ok-log.ensures.pass;
      control = first_controls (view c.in_ok-log.control) c.in_ok-log.log.key c.in_ok-log.ensures.view;
      active = subst (λ (rows : List CatRow). AreActive rows c.args.definitions.defs.items)
          (sym (c.in_ok-log.ensures.key.rows ∙ c.in_ok-start.ensures.is.rows))
          (active ∙ sym (active_clamped 0 c.args.definitions.catalog));
      defs = active_defs kept active c.requires.written;
    }
