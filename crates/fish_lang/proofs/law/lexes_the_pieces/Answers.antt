-- Each longest piece is the one that the lexer takes.
use Rattle.fish_lang.proofs.Cuts.{cut-tokens}
use Rattle.fish_lang.proofs.law.lexes_the_pieces.Goals as goal

pub returns : goal.returns
returns c = cut-tokens
