-- The slot that counts, with the commit that its body tells.
use Rattle.std.specs.Prelude.{◌↔◌, IsTrue}
use Rattle.fish_disk.proofs.Regions.{still_holds}
use Rattle.fish_recover.proofs.Slots.{body_cause, chosen}
use Rattle.fish_recover.specs.within.Choosing.{IsNewer}
use Rattle.fish_slots.specs.Slots.{IsOpen}
use Rattle.fish_recover.proofs.choosing.read_chosen.Goals as goal

pub returns-in-Ok-clause-found : goal.returns-in-Ok-clause-found
returns-in-Ok-clause-found g c =
    let old = g.D.Disk.content c.args.disk.now in
    let new = g.D.Disk.content c.read_commit.new.disk in
    let still = c.read_commit.ensures.content in
    chosen new c.args.slot c.args.gates.first c.args.gates.second c.are_both-both.result c.in-Ok.commit c.requires.slot
    (still_holds (λ e. IsTrue c.args.gates.first ↔ IsOpen 0 e) old new still c.requires.first)
    (still_holds (λ e. IsTrue c.args.gates.second ↔ IsOpen 1 e) old new still c.requires.second)
    c.are_both-both.ensures (still_holds (IsNewer c.args.slot) old new still c.requires.counts) c.in-Ok.ensures.body

pub returns-in-Err-clause-refused : goal.returns-in-Err-clause-refused
returns-in-Err-clause-refused g c =
    let old = g.D.Disk.content c.args.disk.now in
    let new = g.D.Disk.content c.read_commit.new.disk in
    body_cause new c.args.slot c.in-Err.refusal c.requires.slot
    (still_holds (IsNewer c.args.slot) old new c.read_commit.ensures.content c.requires.counts) c.in-Err.ensures.refused
