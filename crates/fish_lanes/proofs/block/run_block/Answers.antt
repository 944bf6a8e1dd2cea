-- The first lane and the others.
use Rattle.std.proofs.Common.{◌≡◌, ◌∷◌, ◌∙◌, List, get_or, sym, subst}
use Rattle.fish_lanes.proofs.Firsts.{put_together, taken_apart}
use Rattle.fish_lanes.specs.Blocks.{AreLanes}
use Rattle.fish_lanes.specs.Leaving.{ItemsHold, LeavesLanes, LeavesStore}
use Rattle.fish_lanes.specs.declared.lane.Lane.{Lane}
use Rattle.fish_lanes.specs.within.Parts.{store_of}
use Rattle.fish_rule.specs.Passes.{view}
use Rattle.fish_store.specs.Points.{Behind}
use Rattle.fish_lanes.proofs.block.run_block.Goals as goal

pub run_lanes-requires-clause-lanes : goal.run_lanes-requires-clause-lanes
run_lanes-requires-clause-lanes g c κs bounds =
    let lanes = c.args.lanes.now in
    let d = c.index-first-0.result in
    subst (λ (z : List Lane × List Lane). AreLanes (get_or z.0 0 d ∷ z.1))
    (λ i. (sym c.split_at_mut-first.ensures.front i, sym c.split_at_mut-first.ensures.back i))
    (subst AreLanes (sym (taken_apart lanes d c.requires.lanes)) c.requires.lanes)

pub returns-clause-store : goal.returns-clause-store
returns-clause-store g c =
    let after = store_of c.run_lanes.new.file c.args.store.now.log c.run_lanes.new.control c.run_lanes.new.registrar in
    subst (λ (z : List Lane). LeavesStore g.D.Disk c.args.disk.now c.args.store.now c.run_lanes.new.disk after z c.run_lanes.result)
    (put_together c.split_at_mut-first.result.0.now c.args.lanes.now c.run_lanes.new.first c.run_lanes.new.others c.requires.lanes
    c.split_at_mut-first.ensures.front) c.run_lanes.ensures.store

pub returns-clause-lanes : goal.returns-clause-lanes
returns-clause-lanes g c =
    let disk = g.D.Disk in
    let lanes = c.args.lanes.now in
    let d = c.index-first-0.result in
    let front = c.split_at_mut-first.ensures.front in
    let back = c.split_at_mut-first.ensures.back in
    let apart : get_or c.split_at_mut-first.result.0.now 0 d ∷ c.split_at_mut-first.result.1.now ≡ lanes =
    (λ i. get_or (front i) 0 d ∷ back i) ∙ taken_apart lanes d c.requires.lanes in
    let again = put_together c.split_at_mut-first.result.0.now lanes c.run_lanes.new.first c.run_lanes.new.others c.requires.lanes front in
    subst (λ (z : List Lane × List Lane). LeavesLanes (Behind disk c.args.disk.now c.args.store.now c.run_lanes.new.disk)
    (disk.faults c.args.disk.now) (disk.faults c.run_lanes.new.disk) (view c.args.store.now.pass) (view c.run_lanes.new.control) z.0 z.1)
    (λ i. (apart i, again i)) c.run_lanes.ensures.lanes

pub returns-clause-items : goal.returns-clause-items
returns-clause-items g c =
    let disk = g.D.Disk in
    let lanes = c.args.lanes.now in
    let d = c.index-first-0.result in
    let front = c.split_at_mut-first.ensures.front in
    let back = c.split_at_mut-first.ensures.back in
    let apart : get_or c.split_at_mut-first.result.0.now 0 d ∷ c.split_at_mut-first.result.1.now ≡ lanes =
    (λ i. get_or (front i) 0 d ∷ back i) ∙ taken_apart lanes d c.requires.lanes in
    let again = put_together c.split_at_mut-first.result.0.now lanes c.run_lanes.new.first c.run_lanes.new.others c.requires.lanes front in
    subst (λ (z : List Lane × List Lane). ItemsHold (Behind disk c.args.disk.now c.args.store.now c.run_lanes.new.disk)
    (view c.args.store.now.pass) (view c.run_lanes.new.control) c.args.store.now.registrar c.run_lanes.new.registrar z.0 z.1
    c.run_lanes.result) (λ i. (apart i, again i)) c.run_lanes.ensures.items
