-- Four lanes, one after the other.
use Rattle.fish_sample.proofs.Naming.{are_shares}
use Rattle.fish_sample.proofs.filling.push_shares.Goals as goal

pub returns : goal.returns
returns c = are_shares c.push_share-4.result c.args.number c.args.lanes.now.items _ _ _ _ c.requires c.in_ok-push_share.ensures
    c.in_ok-push_share-2.ensures c.in_ok-push_share-3.ensures c.push_share-4.ensures
