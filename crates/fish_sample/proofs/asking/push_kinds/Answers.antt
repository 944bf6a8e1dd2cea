-- One kind more.
use Rattle.fish_sample.proofs.Naming.{scans_more}
use Rattle.fish_sample.specs.within.Works.{scan_kind}
use Rattle.fish_sample.proofs.asking.push_kinds.Goals as goal

pub loop-kind-preserved : goal.loop-kind-preserved
loop-kind-preserved c = scans_more scan_kind c.args.works.now _ _ c.loop-kind.kind c.loop-kind.invariant c.in_ok-push_kind.ensures
