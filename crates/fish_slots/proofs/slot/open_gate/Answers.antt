-- One byte opens the gate of a slot that all images agree on.
use Rattle.std.proofs.Common.{subst, [], ◌∷◌}
use Rattle.std.proofs.lemmas.Result.{on_ok_weaker}
use Rattle.fish_disk.specs.Content.{WrittenThrough}
use Rattle.fish_disk.specs.Crash.{LeavesOnly, TornFrom}
use Rattle.fish_disk.proofs.Regions.{through_part}
use Rattle.fish_slots.specs.Offsets.{gate_at}
use Rattle.fish_slots.proofs.Keeping.{torn_since, written_gates}
use Rattle.fish_slots.proofs.slot.open_gate.Goals as goal

pub returns-clause-opened : goal.returns-clause-opened
returns-clause-opened g c =
    let disk = g.D.Disk in
    let old = disk.content c.args.disk.now in
    let new = disk.content c.write_synced.new.disk in
    let images = disk.images c.write_synced.new.disk in
    on_ok_weaker c.write_synced.result
    (λ through. λ d image.
    let placed : WrittenThrough old new images (gate_at c.args.slot) (1 ∷ []) =
    subst (λ at. WrittenThrough old new images at (1 ∷ [])) c.gate_offset.ensures through in
    through_part old new images (gate_at c.args.slot) (1 ∷ []) c.requires.within placed d image)
    c.write_synced.ensures.done

pub returns-clause-gates : goal.returns-clause-gates
returns-clause-gates g c =
    let disk = g.D.Disk in
    let old = c.args.disk.now in
    let new = c.write_synced.new.disk in
    let leaves = subst (λ at. LeavesOnly disk.images disk.since disk.moment old new (TornFrom (disk.images old) at 1))
    c.gate_offset.ensures c.write_synced.ensures.crash in
    written_gates (disk.images old) (disk.since new (disk.moment old)) c.args.slot c.requires.slot c.requires.gates c.requires.sealed
    (torn_since disk.images disk.since disk.moment old new (gate_at c.args.slot) 1 (g.met.D.Disk.only_now old) leaves)
