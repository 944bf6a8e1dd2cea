-- The second read changes nothing of what the first one saw.
use Rattle.std.specs.Prelude.{◌↔◌, IsTrue}
use Rattle.fish_disk.proofs.Regions.{still_holds}
use Rattle.fish_slots.specs.Slots.{IsOpen}
use Rattle.fish_slots.proofs.slot.read_gates.Goals as goal

pub returns-clause-first : goal.returns-clause-first
returns-clause-first g c =
    let disk = g.D.Disk in
    still_holds (λ d. IsTrue c.in_ok-first.first ↔ IsOpen 0 d)
    (disk.content c.is_open.new.disk) (disk.content c.is_open-2.new.disk)
    c.is_open-2.ensures.content c.in_ok-first.ensures.gate
