-- Of the numbers that were claimed by one load of the tail, each that a pass found unpublished since is the last that is
-- ever stored by its lane.
use Rattle.std.proofs.Common.{sym, ◌∙◌}
use Rattle.fish_rule.proofs.basics.OneMoment.{stored_by, stored_above}
use Rattle.fish_rule.proofs.basics.Lists.{all_among}
use Rattle.fish_rule.specs.Facts.{AreOpens}
use Rattle.fish_rule.specs.OpenNumbers.{OpensAreLast}
use Rattle.fish_rule.specs.declared.view.Key.{Key}

-- each of them is its lane's last below the count
pub opens_last : OpensAreLast
opens_last v o among m n lane f g p q at more below u learns w r seat at_u stored_m stored_n =
    let k : Key = u.about in
    let h = all_among (AreOpens k w.count w.dir r.lane_of) o u.learned.opens (r.opens seat u at_u) (learns.opens o among) in
    let a = stored_by r m lane f p (stored_above r m stored_m.1.stored) stored_m in
    let b = stored_by r n lane g q (stored_above r n stored_n.1.stored) stored_n in
    h.latest m n at more below (a.lane ∙ sym b.lane)
