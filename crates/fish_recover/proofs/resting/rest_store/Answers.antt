-- The other gate is closed first, and then the file is long enough.
use Rattle.std.proofs.lemmas.Result.{on_ok_weaker}
use Rattle.fish_disk.proofs.Moments.{leaves_more, leaves_then}
use Rattle.fish_slots.proofs.Commits.{rests_commit}
use Rattle.fish_slots.specs.Commits.{HasCommit, SlotRests}
use Rattle.fish_recover.proofs.resting.rest_store.Goals as goal

pub returns-clause-rests : goal.returns-clause-rests
returns-clause-rests g c =
    on_ok_weaker c.fill.result (λ f. λ b w h. f b w (c.in_ok-close_other.ensures.rests b w h)) c.fill.ensures.rests

pub returns-clause-crash : goal.returns-clause-crash
returns-clause-crash g c = λ b w h.
    let disk = g.D.Disk in
    leaves_then disk.images disk.since disk.moment c.args.disk.now c.close_other.new.disk c.fill.new.disk (HasCommit b w)
    (c.close_other.ensures.crash b w h)
    (leaves_more disk.images disk.since disk.moment c.close_other.new.disk c.fill.new.disk (SlotRests c.args.slot b w) (HasCommit b w)
    (λ i rests. rests_commit c.args.slot b w i c.requires.slot rests)
    (c.fill.ensures.crash b w (c.in_ok-close_other.ensures.rests b w h)))
