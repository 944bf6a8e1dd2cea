-- The law, as its lemma has it.
use Rattle.fish_psf.proofs.SelectLemmas.{selects}
use Rattle.fish_psf.proofs.law.selects_matches.Goals as goal

pub returns : goal.returns
returns c = selects
