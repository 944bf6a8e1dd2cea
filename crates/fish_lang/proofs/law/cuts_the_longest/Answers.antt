-- The lexer takes the longest piece, one after the other.
use Rattle.fish_lang.proofs.Cuts.{has-cut}
use Rattle.fish_lang.proofs.law.cuts_the_longest.Goals as goal

pub returns : goal.returns
returns c = has-cut
