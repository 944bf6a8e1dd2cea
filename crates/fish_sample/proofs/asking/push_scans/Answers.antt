-- All scans, one after the other.
use Rattle.fish_sample.proofs.Naming.{are_scans}
use Rattle.fish_sample.proofs.asking.push_scans.Goals as goal

pub returns : goal.returns
returns c = are_scans c.push_bands.result c.args.works.now _ _ _ c.in_ok-push_kinds.ensures c.in_ok-push_scan.ensures c.push_bands.ensures
