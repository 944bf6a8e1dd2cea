-- A linked entry of the bucket is above the own one, lower with each turn.
use Rattle.std.proofs.Common.{◌≡◌, Some}
use Rattle.fish_chain.specs.within.Links.{IsLinkBelow}
use Rattle.fish_rule.specs.Passes.{IsPassOf, view}
use Rattle.fish_rule.specs.declared.view.Flight.{Flight}
use Rattle.fish_chain.proofs.chain.link.Given as goal

abbrev pub invariant-loop-next : goal.invariant-loop-next
invariant-loop-next l = record {
  of : IsPassOf l.log l.pass;
  below : (f : Flight) → (view l.fn.pass).flight ≡ Some f → IsLinkBelow (view l.fn.pass) f l.bucket l.above (view l.pass);
}

abbrev pub decreases-loop-next : goal.decreases-loop-next
decreases-loop-next l = l.above
