-- The scans of the bands so far come after the others.
use Rattle.std.proofs.Common.{◌≡◌, ◌++◌}
use Rattle.fish_sample.specs.within.Works.{band_scans}
use Rattle.fish_sample.proofs.asking.push_bands.Given as goal

abbrev pub invariant-loop-band : goal.invariant-loop-band
invariant-loop-band l = l.works ≡ l.fn.works ++ band_scans l.band
