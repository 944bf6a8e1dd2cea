-- The head of a block, its lanes, and its foot.
use Rattle.std.proofs.lemmas.Result.{on_err_weaker, on_ok_weaker}
use Rattle.std.proofs.Common.{◌++◌}
use Rattle.std.specs.List.{flat_map}
use Rattle.fish_run.proofs.Written.{on_err_any, part_first, part_then, written_both}
use Rattle.fish_run.specs.Reports.{block_foot, block_head, lane_items}
use Rattle.fish_run.proofs.telling.write_block.Goals as goal

pub returns-in_err-write_head-clause-part : goal.returns-in_err-write_head-clause-part
returns-in_err-write_head-clause-part g c =
    let head = block_head c.args.several c.args.from c.args.end.to in
    let lanes = flat_map (lane_items c.args.several c.args.end) c.args.said.now in
    on_err_any c.from_residual.result
    (part_first (g.W.Sink.written c.args.out.now) (g.W.Sink.written c.write_head.new.out) head
    (lanes ++ block_foot c.args.several) c.in_err-write_head.ensures.part)

pub returns-in_err-write_lanes-clause-part : goal.returns-in_err-write_lanes-clause-part
returns-in_err-write_lanes-clause-part g c =
    let head = block_head c.args.several c.args.from c.args.end.to in
    let lanes = flat_map (lane_items c.args.several c.args.end) c.args.said.now in
    let foot = block_foot c.args.several in
    let old = g.W.Sink.written c.args.out.now in
    let mid = g.W.Sink.written c.write_head.new.out in
    let new = g.W.Sink.written c.write_lanes.new.out in
    on_err_any c.from_residual-in_err-write_lanes.result
    (part_then old mid new head (lanes ++ foot) c.in_ok-write_head.ensures.written
    (part_first mid new lanes foot c.in_err-write_lanes.ensures.part))

pub returns-clause-written : goal.returns-clause-written
returns-clause-written g c =
    let head = block_head c.args.several c.args.from c.args.end.to in
    let lanes = flat_map (lane_items c.args.several c.args.end) c.args.said.now in
    let foot = block_foot c.args.several in
    let old = g.W.Sink.written c.args.out.now in
    let first = g.W.Sink.written c.write_head.new.out in
    let second = g.W.Sink.written c.write_lanes.new.out in
    let new = g.W.Sink.written c.write_foot.new.out in
    on_ok_weaker c.write_foot.result
    (λ last. written_both old first new head (lanes ++ foot) c.in_ok-write_head.ensures.written
    (written_both first second new lanes foot c.in_ok-write_lanes.ensures.written last)) c.write_foot.ensures.written

pub returns-clause-part : goal.returns-clause-part
returns-clause-part g c =
    let head = block_head c.args.several c.args.from c.args.end.to in
    let lanes = flat_map (lane_items c.args.several c.args.end) c.args.said.now in
    let foot = block_foot c.args.several in
    let old = g.W.Sink.written c.args.out.now in
    let first = g.W.Sink.written c.write_head.new.out in
    let second = g.W.Sink.written c.write_lanes.new.out in
    let new = g.W.Sink.written c.write_foot.new.out in
    on_err_weaker c.write_foot.result
    (λ last. part_then old first new head (lanes ++ foot) c.in_ok-write_head.ensures.written
    (part_then first second new lanes foot c.in_ok-write_lanes.ensures.written last)) c.write_foot.ensures.part
