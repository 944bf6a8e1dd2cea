-- What all passes know stands after a step, where what the stepping pass knows does.
use Rattle.std.proofs.Common.{ℕ, set}
use Rattle.fish_rule.proofs.basics.Lists.{each_set}
use Rattle.fish_rule.proofs.classes.FactsStay.{chained_later, facts_later, shut_later}
use Rattle.fish_rule.proofs.classes.OpensStay.{opens_later}
use Rattle.fish_rule.specs.Chains.{Chained}
use Rattle.fish_rule.specs.Facts.{AreOpens, Facts, ShutOk}
use Rattle.fish_rule.proofs.basics.Context.{Final, Key, Rule, View, World}
use Rattle.fish_rule.specs.Views.{AllOf, Each}

module _ {k : Key} {w w' : World} (r : Rule k w) {start lane_of : ℕ → ℕ}
    (final : Final k r.start start r.lane_of lane_of w w') (id : ℕ) (v' : View) where
  -- facts
  pub each_facts : Facts k w'.count w'.dir w'.log start v'.learned
      → Each (λ u. Facts k w'.count w'.dir w'.log start u.learned) (set w.views id v')
  each_facts = each_set _ w.views id v' (λ j u ne at_u. facts_later final (r.facts j u at_u))

  -- what is learned of chains
  pub each_chained : Chained k w'.dir w'.log w'.views w'.head v'.learned
      → Each (λ u. Chained k w'.dir w'.log w'.views w'.head u.learned) (set w.views id v')
  each_chained = each_set _ w.views id v' (λ j u ne at_u. chained_later final (r.chained j u at_u))

  -- the claims that shut passes
  pub each_shut : ShutOk k w'.count w'.dir start v'.shut
      → Each (λ u. ShutOk k w'.count w'.dir start u.shut) (set w.views id v')
  each_shut = each_set _ w.views id v' (λ j u ne at_u. shut_later final u.shut (r.shuts j u at_u))

  -- numbers that were found unpublished
  pub each_opens : AllOf (AreOpens k w'.count w'.dir lane_of) v'.learned.opens
      → Each (λ u. AllOf (AreOpens k w'.count w'.dir lane_of) u.learned.opens) (set w.views id v')
  each_opens = each_set _ w.views id v' (λ j u ne at_u. opens_later final u.learned.opens (r.opens j u at_u))
