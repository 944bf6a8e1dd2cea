-- The number of a lane, its items, and what follows them.
use Rattle.std.proofs.lemmas.Result.{on_err_weaker, on_ok_weaker}
use Rattle.std.proofs.Common.{◌++◌, List, subst}
use Rattle.fish_outside.specs.Content.{Gained, GainedPart}
use Rattle.fish_report.specs.ReportText.{report_text}
use Rattle.fish_report.specs.declared.item.Item.{Item}
use Rattle.fish_run.proofs.Written.{on_err_any, part_first, part_then, written_both}
use Rattle.fish_run.specs.Reports.{lane_foot, lane_head}
use Rattle.fish_run.proofs.telling.write_lane.Goals as goal

pub returns-in_err-write_number-clause-part : goal.returns-in_err-write_number-clause-part
returns-in_err-write_number-clause-part g c =
    let x = c.args.lane.now in
    on_err_any c.from_residual.result
    (part_first (g.W.Sink.written c.args.out.now) (g.W.Sink.written c.write_number.new.out) (lane_head c.args.several x.number)
    (x.items ++ lane_foot x.number c.args.end) c.in_err-write_number.ensures.part)

pub returns-in_err-write_items-clause-part : goal.returns-in_err-write_items-clause-part
returns-in_err-write_items-clause-part g c =
    let x = c.args.lane.now in
    let foot = lane_foot x.number c.args.end in
    let mid = g.W.Sink.written c.write_number.new.out in
    let new = g.W.Sink.written c.write_items.new.out in
    on_err_any c.from_residual-in_err-write_items.result
    (part_then (g.W.Sink.written c.args.out.now) mid new (lane_head c.args.several x.number) (x.items ++ foot)
    c.in_ok-write_number.ensures.written (part_first mid new x.items foot
    (subst (λ (z : List Item). GainedPart mid new (report_text z)) c.as_slice.ensures c.in_err-write_items.ensures.part)))

pub returns-clause-written : goal.returns-clause-written
returns-clause-written g c =
    let x = c.args.lane.now in
    let foot = lane_foot x.number c.args.end in
    let old = g.W.Sink.written c.args.out.now in
    let first = g.W.Sink.written c.write_number.new.out in
    let second = g.W.Sink.written c.write_items.new.out in
    let new = g.W.Sink.written c.write_bound.new.out in
    on_ok_weaker c.write_bound.result
    (λ last. written_both old first new (lane_head c.args.several x.number) (x.items ++ foot) c.in_ok-write_number.ensures.written
    (written_both first second new x.items foot
    (subst (λ (z : List Item). Gained first second (report_text z)) c.as_slice.ensures c.in_ok-write_items.ensures.written) last))
    c.write_bound.ensures.written

pub returns-clause-part : goal.returns-clause-part
returns-clause-part g c =
    let x = c.args.lane.now in
    let foot = lane_foot x.number c.args.end in
    let old = g.W.Sink.written c.args.out.now in
    let first = g.W.Sink.written c.write_number.new.out in
    let second = g.W.Sink.written c.write_items.new.out in
    let new = g.W.Sink.written c.write_bound.new.out in
    on_err_weaker c.write_bound.result
    (λ last. part_then old first new (lane_head c.args.several x.number) (x.items ++ foot) c.in_ok-write_number.ensures.written
    (part_then first second new x.items foot
    (subst (λ (z : List Item). Gained first second (report_text z)) c.as_slice.ensures c.in_ok-write_items.ensures.written) last))
    c.write_bound.ensures.part
