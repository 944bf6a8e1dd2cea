-- The entries so far are of lower ids, so those that are left have all values of the definition.
use Rattle.std.proofs.Common.{◌≡◌, length}
use Rattle.fish_image.specs.Log.{values_under}
use Rattle.fish_layout.specs.Body.{AreProperKeys}
use Rattle.fish_image.proofs.keys.has_none.Given as goal

abbrev pub invariant-loop-rest : goal.invariant-loop-rest
invariant-loop-rest l =
    record {
      proper : AreProperKeys 0 l.rest;
      same : values_under l.id l.rest ≡ values_under l.id l.keys;
    }

abbrev pub decreases-loop-rest : goal.decreases-loop-rest
decreases-loop-rest l = length l.rest
