-- The canonical text is lexed to the tokens of the canonical derivation.
use Rattle.fish_lang.proofs.Accepted.{accepted-again}
use Rattle.fish_lang.proofs.law.reads_back.Goals as goal

pub returns : goal.returns
returns c = accepted-again
