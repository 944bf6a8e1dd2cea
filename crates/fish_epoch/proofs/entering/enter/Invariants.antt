-- The last round announced `version` and found `found`, and versions only rise, up to 512.
use Rattle.std.proofs.Common.{◌-◌}
use Rattle.fish_epoch.proofs.Rounds.{IsRound}
use Rattle.fish_rule.specs.Passes.{IsPassOf, view}
use Rattle.fish_epoch.proofs.entering.enter.Given as goal

abbrev pub invariant-loop-found : goal.invariant-loop-found
invariant-loop-found l = record {
  of : IsPassOf l.log l.pass;
  round : IsRound (view l.fn.pass) l.version l.found (view l.pass);
}

abbrev pub decreases-loop-found : goal.decreases-loop-found
decreases-loop-found l = 512 - l.version
