-- The law, as its lemma has it.
use Rattle.fish_psf.proofs.RoundingLemmas.{rounds}
use Rattle.fish_psf.proofs.law.buckets_round_down.Goals as goal

pub returns : goal.returns
returns c = rounds
