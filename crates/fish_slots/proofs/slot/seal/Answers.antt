-- The body goes where its gate is closed, and meets nothing else.
use Rattle.std.proofs.Common.{◌≡◌, subst, subst₂}
use Rattle.std.proofs.lemmas.Result.{on_ok_weaker}
use Rattle.fish_disk.specs.Content.{WrittenThrough, part}
use Rattle.fish_disk.specs.Crash.{LeavesOnly, TornFrom}
use Rattle.fish_disk.proofs.Regions.{through_part}
use Rattle.fish_slots.specs.Offsets.{body_at, body_bytes}
use Rattle.fish_slots.proofs.Keeping.{sealed_gates, torn_since}
use Rattle.fish_slots.proofs.slot.seal.Goals as goal

pub returns-clause-sealed : goal.returns-clause-sealed
returns-clause-sealed g c =
    let disk = g.D.Disk in
    let old = disk.content c.args.disk.now in
    let new = disk.content c.write_synced.new.disk in
    let images = disk.images c.write_synced.new.disk in
    let body = c.args.body.now in
    on_ok_weaker c.write_synced.result
    (λ through. λ d image.
    let placed : WrittenThrough old new images (body_at c.args.slot) body =
    subst (λ at. WrittenThrough old new images at body) c.body_offset.ensures through in
    subst (λ n. part (body_at c.args.slot) n d ≡ body) c.requires.size
    (through_part old new images (body_at c.args.slot) body c.requires.within placed d image))
    c.write_synced.ensures.done

pub returns-clause-gates : goal.returns-clause-gates
returns-clause-gates g c =
    let disk = g.D.Disk in
    let old = c.args.disk.now in
    let new = c.write_synced.new.disk in
    let leaves = subst₂ (λ at n. LeavesOnly disk.images disk.since disk.moment old new (TornFrom (disk.images old) at n))
    c.body_offset.ensures c.requires.size c.write_synced.ensures.crash in
    sealed_gates (disk.images old) (disk.since new (disk.moment old)) c.args.slot c.requires.slot c.requires.gates c.requires.closed
    (torn_since disk.images disk.since disk.moment old new (body_at c.args.slot) body_bytes (g.met.D.Disk.only_now old) leaves)
