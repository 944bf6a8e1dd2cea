-- After a sync every image is what is read, so that gates can be relied on.
use Rattle.std.specs.Prelude.{Some}
use Rattle.fish_disk.specs.Memory.{bytes_of, images_of}
use Rattle.fish_slots.proofs.Keeping.{one_gates}
use Rattle.tests_store.proofs.commits.close_first.Goals as goal

pub close_old-requires-clause-gates : goal.close_old-requires-clause-gates
close_old-requires-clause-gates c =
    let disk = c.best.new.disk in
    one_gates (Some (bytes_of disk)) (images_of disk) c.in_ok-gates.ensures.synced
