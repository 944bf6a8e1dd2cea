-- The values so far are those of the definitions so far.
use Rattle.std.proofs.Common.{◌≡◌, take}
use Rattle.fish_psf.specs.Keys.{keys_for}
use Rattle.fish_psf.proofs.properties.keys.Given as goal

abbrev pub invariant-loop-active : goal.invariant-loop-active
invariant-loop-active g l = l.keys ≡ keys_for (g.R.Parsed.fields l.rec) (take l.active-index l.defs)
