-- The law, as its lemma has it.
use Rattle.fish_scan.proofs.Selecting.{finds_selection}
use Rattle.fish_scan.proofs.law.law_selection.Goals as goal

pub returns : goal.returns
returns c = finds_selection
