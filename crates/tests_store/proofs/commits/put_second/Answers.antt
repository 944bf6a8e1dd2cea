-- After a sync every image is what is read, so that gates can be relied on.
use Rattle.std.specs.Prelude.{Some}
use Rattle.fish_disk.specs.Memory.{bytes_of, images_of}
use Rattle.fish_slots.proofs.Keeping.{one_gates, one_slot}
use Rattle.tests_store.proofs.commits.put_second.Goals as goal

pub seal-requires-clause-gates : goal.seal-requires-clause-gates
seal-requires-clause-gates c =
    let disk = c.best.new.disk in
    one_gates (Some (bytes_of disk)) (images_of disk) c.in_ok-gates.ensures.synced

pub open_gate-requires-clause-gates : goal.open_gate-requires-clause-gates
open_gate-requires-clause-gates c =
    let disk = c.seal.new.disk in
    one_gates (Some (bytes_of disk)) (images_of disk) c.in_ok-seal.ensures.done.durable

pub open_gate-requires-clause-sealed : goal.open_gate-requires-clause-sealed
open_gate-requires-clause-sealed c =
    let disk = c.seal.new.disk in
    one_slot (Some (bytes_of disk)) (images_of disk) c.in_ok-seal.ensures.done.durable 1
