-- One band more.
use Rattle.fish_sample.proofs.Naming.{scans_more}
use Rattle.fish_sample.specs.within.Works.{scan_band}
use Rattle.fish_sample.proofs.asking.push_bands.Goals as goal

pub loop-band-preserved : goal.loop-band-preserved
loop-band-preserved c = scans_more scan_band c.args.works.now _ _ c.loop-band.band c.loop-band.invariant c.in_ok-push_band.ensures
