-- A read of one byte gives the gate, or nothing past the file's end.
use Rattle.std.proofs.Common.{◌≡◌, length, rules, subst}
use Rattle.fish_disk.specs.Content.{Gave}
use Rattle.fish_slots.proofs.Reading.{gate_missing, gate_read}
use Rattle.fish_slots.proofs.slot.is_open.Goals as goal

pub returns-then-count-eq1-clause-gate : goal.returns-then-count-eq1-clause-gate
returns-then-count-eq1-clause-gate g c =
    let content = g.D.Disk.content c.read.new.self in
    let read = c.in_ok-count.ensures in
    let gave = subst (λ at. Gave content at c.in_ok-count.count c.read.new.buf) c.gate_offset.ensures read.bytes in
    gate_read c.args.slot c.in_ok-count.count c.read.new.buf content read.bound c.if-count-eq1.true gave

pub returns-else-count-eq1-clause-gate : goal.returns-else-count-eq1-clause-gate
returns-else-count-eq1-clause-gate g c =
    let content = g.D.Disk.content c.read.new.self in
    let read = c.in_ok-count.ensures in
    let gave = subst (λ at. Gave content at c.in_ok-count.count c.read.new.buf) c.gate_offset.ensures read.bytes in
    let size : length c.read.new.buf ≡ 1 = search rules in
    gate_missing c.args.slot c.in_ok-count.count c.read.new.buf content size c.if-count-eq1.false gave
