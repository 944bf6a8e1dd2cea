-- New lanes may run, since they have no statement.
use Rattle.std.proofs.lemmas.Result.{IfOk-weaker}
use Rattle.std.proofs.Common.{◌≡◌, length}
use Rattle.fish_feed.specs.Queues.{AreIdle}
use Rattle.fish_lanes.specs.Blocks.{AreLanes}
use Rattle.fish_run.proofs.Works.{idle_new, lanes_new}
use Rattle.fish_run.specs.within.Parts.{AreNewLanes}
use Rattle.fish_run.proofs.parts.new_lanes.Goals as goal

pub returns-clause-lanes : goal.returns-clause-lanes
returns-clause-lanes c =
    IfOk-weaker c.numbered_lanes.result (λ v. AreNewLanes c.args.count v.items) (λ v. AreLanes v.items)
    (λ v h. lanes_new c.args.count v.items h c.requires.some c.requires.few) c.numbered_lanes.ensures

pub returns-clause-idle : goal.returns-clause-idle
returns-clause-idle c =
    IfOk-weaker c.numbered_lanes.result (λ v. AreNewLanes c.args.count v.items) (λ v. AreIdle v.items)
    (λ v h. idle_new v.items (λ i x at. (h.new i x at).1)) c.numbered_lanes.ensures

pub returns-clause-many : goal.returns-clause-many
returns-clause-many c =
    IfOk-weaker c.numbered_lanes.result (λ v. AreNewLanes c.args.count v.items) (λ v. length v.items ≡ c.args.count)
    (λ v h. h.many) c.numbered_lanes.ensures
