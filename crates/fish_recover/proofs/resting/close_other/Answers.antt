-- The other gate alone is written, and only where it is open.
use Rattle.std.proofs.Common.{◌-◌}
use Rattle.std.proofs.lemmas.Result.{on_ok_weaker}
use Rattle.fish_disk.proofs.Moments.{leaves_more, leaves_none}
use Rattle.fish_disk.specs.Crash.{TornFrom}
use Rattle.fish_slots.proofs.Keeping.{one_gates}
use Rattle.fish_slots.specs.Commits.{HasCommit}
use Rattle.fish_slots.specs.Offsets.{gate_at}
use Rattle.fish_recover.proofs.Closings.{alone_rest, closed_rest, closing_commit, gate_within, stored_commit}
use Rattle.fish_recover.proofs.resting.close_other.Goals as goal

pub begin-requires-clause-within : goal.begin-requires-clause-within
begin-requires-clause-within g c =
    let disk = g.D.Disk in
    let s = c.requires.stored in
    gate_within (disk.images c.args.disk.now) c.args.slot c.args.both c.requires.slot s.0 s.1 s.2 (disk.content c.args.disk.now)
    (g.met.D.Disk.as_read c.args.disk.now)

pub begin-requires-clause-gates : goal.begin-requires-clause-gates
begin-requires-clause-gates g c =
    one_gates (g.D.Disk.content c.args.disk.now) (g.D.Disk.images c.args.disk.now) c.requires.synced

pub returns-then-both-clause-rests : goal.returns-then-both-clause-rests
returns-then-both-clause-rests g c =
    let disk = g.D.Disk in
    on_ok_weaker c.begin.result
    (λ closed. λ b w h. closed_rest (disk.images c.args.disk.now) c.args.slot c.args.both c.requires.slot b w h
    (disk.images c.begin.new.disk) c.begin.ensures.crash.now closed)
    c.begin.ensures.closed

pub returns-then-both-clause-synced : goal.returns-then-both-clause-synced
returns-then-both-clause-synced g c = on_ok_weaker c.begin.result (λ done. done.durable) c.begin.ensures.done

pub returns-then-both-clause-crash : goal.returns-then-both-clause-crash
returns-then-both-clause-crash g c = λ b w h.
    let disk = g.D.Disk in
    leaves_more disk.images disk.since disk.moment c.args.disk.now c.begin.new.disk
    (TornFrom (disk.images c.args.disk.now) (gate_at (1 - c.args.slot)) 1) (HasCommit b w)
    (closing_commit (disk.images c.args.disk.now) c.args.slot c.args.both c.requires.slot b w h c.if-both.true)
    c.begin.ensures.crash

pub returns-then-both-clause-before : goal.returns-then-both-clause-before
returns-then-both-clause-before g c i here = (let from = c.begin.ensures.crash.now i here in (from.0, from.1))

pub returns-else-both-clause-rests : goal.returns-else-both-clause-rests
returns-else-both-clause-rests g c = λ b w h.
    alone_rest (g.D.Disk.images c.args.disk.now) c.args.slot c.args.both c.requires.slot b w h (λ is. absurd (cc (is, c.if-both.false)))

pub returns-else-both-clause-crash : goal.returns-else-both-clause-crash
returns-else-both-clause-crash g c = λ b w h.
    let disk = g.D.Disk in
    leaves_none disk.images disk.since disk.moment c.args.disk.now (HasCommit b w)
    (stored_commit (disk.images c.args.disk.now) c.args.slot c.args.both c.requires.slot b w h)
