-- A turn takes one token, or one blank, from the front of the rest.
use Rattle.std.proofs.Common.{arith}
use Rattle.fish_lang.specs.Token.{tokens}
use Rattle.fish_lang.proofs.TokenLemmas.{tokens-turn}
use Rattle.fish_lang.proofs.token.tokens_of.Goals as goal

pub loop-first-init : goal.loop-first-init
unfolding tokens
loop-first-init c = record { found = rw c.new-found.ensures.items; position = omega arith }

pub loop-first-preserved : goal.loop-first-preserved
loop-first-preserved c =
    let parts = c.split_at.ensures in
    record {
      found = tokens-turn _ _ _ _ _ _ _ _ _ _ c.in-Some.ensures.cases.0
          c.length_behind.ensures.value parts.front parts.front_len parts.back c.in_ok-list.ensures
          c.loop-first.invariant.found;
      position = omega (arith, parts.back_len, parts.front_len);
    }
