-- One byte closes a gate that is open in every image, so that all images agree on its slot.
use Rattle.std.proofs.Common.{subst, [], ◌∷◌}
use Rattle.std.proofs.lemmas.Result.{on_ok_weaker}
use Rattle.fish_disk.specs.Content.{WrittenThrough}
use Rattle.fish_disk.specs.Crash.{LeavesOnly, TornFrom}
use Rattle.fish_disk.proofs.Regions.{through_part}
use Rattle.fish_slots.specs.Offsets.{gate_at}
use Rattle.fish_slots.proofs.Keeping.{not_open, torn_since, written_gates}
use Rattle.fish_slots.proofs.slot.close_old.Goals as goal

pub returns-clause-closed : goal.returns-clause-closed
returns-clause-closed g c =
    let disk = g.D.Disk in
    let old = disk.content c.args.disk.now in
    let new = disk.content c.write_synced.new.disk in
    let images = disk.images c.write_synced.new.disk in
    on_ok_weaker c.write_synced.result
    (λ through. λ d image.
    let placed : WrittenThrough old new images (gate_at c.args.slot) (0 ∷ []) =
    subst (λ at. WrittenThrough old new images at (0 ∷ [])) c.gate_offset.ensures through in
    not_open c.args.slot d
    (through_part old new images (gate_at c.args.slot) (0 ∷ []) c.requires.within placed d image))
    c.write_synced.ensures.done

pub returns-clause-gates : goal.returns-clause-gates
returns-clause-gates g c =
    let disk = g.D.Disk in
    let old = c.args.disk.now in
    let new = c.write_synced.new.disk in
    let leaves = subst (λ at. LeavesOnly disk.images disk.since disk.moment old new (TornFrom (disk.images old) at 1))
    c.gate_offset.ensures c.write_synced.ensures.crash in
    written_gates (disk.images old) (disk.since new (disk.moment old)) c.args.slot c.requires.slot c.requires.gates
    (λ e d one other. c.requires.gates c.args.slot e d c.requires.slot one other (c.requires.opened e one))
    (torn_since disk.images disk.since disk.moment old new (gate_at c.args.slot) 1 (g.met.D.Disk.only_now old) leaves)
