-- After a sync every image is what is read, and reads keep it so.
use Rattle.fish_disk.proofs.Regions.{still_told}
use Rattle.fish_slots.proofs.Keeping.{on_ok}
use Rattle.fish_slots.proofs.slot.best.Goals as goal

pub returns-clause-synced : goal.returns-clause-synced
returns-clause-synced g c =
    let disk = g.D.Disk in
    let mid = c.sync.new.self in
    let new = c.read_gates.new.disk in
    on_ok c.read_gates.result
    (λ d image.
    still_told (disk.content mid) (disk.content new) d c.read_gates.ensures.content
    (g.met.D.Disk.told new d image) (c.in_ok-sync.ensures.synced d (c.read_gates.ensures.crash.now d image)))
