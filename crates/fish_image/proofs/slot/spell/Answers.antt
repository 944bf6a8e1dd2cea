-- The rows are those of a catalogue, and all texts.
use Rattle.std.proofs.Common.{subst, All}
use Rattle.fish_catalog.specs.Rows.{IsCatalog}
use Rattle.fish_image.specs.Commits.{HasTexts}
use Rattle.fish_image.proofs.slot.spell.Goals as goal

pub returns-clause-commit : goal.returns-clause-commit
returns-clause-commit c = record {
  within = c.requires.within;
  format = c.requires.format;
  rows = subst IsCatalog c.rows.ensures.value c.rows.ensures.kept;
  texts = subst (All HasTexts) c.rows.ensures.value c.in_ok-push_rows.ensures.texts;
}
