-- What was found and the tokens of the rest are all tokens.
use Rattle.std.proofs.Common.{◌≡◌, ◌+◌, ◌++◌, length}
use Rattle.fish_lang.specs.Token.{tokens, tokens_from}
use Rattle.fish_lang.proofs.token.tokens_of.Given as goal

abbrev pub invariant-loop-first : goal.invariant-loop-first
invariant-loop-first l = record {
  found : l.found.items ++ tokens_from (length l.rest) l.at l.rest ≡ tokens l.b;
  position : l.at + length l.rest ≡ length l.b;
}

abbrev pub decreases-loop-first : goal.decreases-loop-first
decreases-loop-first l = length l.rest
