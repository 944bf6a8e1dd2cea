-- Of two turns one is the one after the other, or none is.
use Rattle.std.proofs.Common.{◌≡◌}
use Rattle.fish_disk.proofs.Regions.{still_holds}
use Rattle.fish_recover.proofs.Slots.{neither, still_then, turn_newer}
use Rattle.fish_slots.specs.Commits.{turn_of}
use Rattle.fish_slots.specs.Slots.{IsOpen, body_in_slot}
use Rattle.fish_recover.proofs.choosing.newer_of_both.Goals as goal

pub returns-then-follows-clause-content : goal.returns-then-follows-clause-content
returns-then-follows-clause-content g c =
    still_then (g.D.Disk.content c.args.disk.now) (g.D.Disk.content c.turn_at.new.disk) (g.D.Disk.content c.turn_at-2.new.disk)
    c.turn_at.ensures.content c.turn_at-2.ensures.content

pub returns-then-follows-2-clause-content : goal.returns-then-follows-2-clause-content
returns-then-follows-2-clause-content g c =
    still_then (g.D.Disk.content c.args.disk.now) (g.D.Disk.content c.turn_at.new.disk) (g.D.Disk.content c.turn_at-2.new.disk)
    c.turn_at.ensures.content c.turn_at-2.ensures.content

pub returns-else-follows-2-clause-content : goal.returns-else-follows-2-clause-content
returns-else-follows-2-clause-content g c =
    still_then (g.D.Disk.content c.args.disk.now) (g.D.Disk.content c.turn_at.new.disk) (g.D.Disk.content c.turn_at-2.new.disk)
    c.turn_at.ensures.content c.turn_at-2.ensures.content

pub returns-then-follows-clause-counts : goal.returns-then-follows-clause-counts
returns-then-follows-clause-counts g c =
    let old = g.D.Disk.content c.args.disk.now in
    let mid = g.D.Disk.content c.turn_at.new.disk in
    let new = g.D.Disk.content c.turn_at-2.new.disk in
    let still = still_then old mid new c.turn_at.ensures.content c.turn_at-2.ensures.content in
    turn_newer new 1 c.in_ok-second.second c.in_ok-first.first (still_holds (IsOpen 1) old new still c.requires.second)
    c.in_ok-second.ensures.turn
    (still_holds (λ e. c.in_ok-first.first ≡ turn_of (body_in_slot 0 e)) mid new c.turn_at-2.ensures.content c.in_ok-first.ensures.turn)
    (c.follows.ensures.0 c.if-follows.true)

pub returns-then-follows-2-clause-counts : goal.returns-then-follows-2-clause-counts
returns-then-follows-2-clause-counts g c =
    let old = g.D.Disk.content c.args.disk.now in
    let mid = g.D.Disk.content c.turn_at.new.disk in
    let new = g.D.Disk.content c.turn_at-2.new.disk in
    let still = still_then old mid new c.turn_at.ensures.content c.turn_at-2.ensures.content in
    turn_newer new 0 c.in_ok-first.first c.in_ok-second.second (still_holds (IsOpen 0) old new still c.requires.first)
    (still_holds (λ e. c.in_ok-first.first ≡ turn_of (body_in_slot 0 e)) mid new c.turn_at-2.ensures.content c.in_ok-first.ensures.turn)
    c.in_ok-second.ensures.turn
    (c.follows-else-follows.ensures.0 c.if-follows-2.true)

pub returns-else-follows-2-clause-refused : goal.returns-else-follows-2-clause-refused
returns-else-follows-2-clause-refused g c =
    let old = g.D.Disk.content c.args.disk.now in
    let mid = g.D.Disk.content c.turn_at.new.disk in
    let new = g.D.Disk.content c.turn_at-2.new.disk in
    let still = still_then old mid new c.turn_at.ensures.content c.turn_at-2.ensures.content in
    neither new c.in_ok-first.first c.in_ok-second.second (still_holds (IsOpen 0) old new still c.requires.first)
    (still_holds (IsOpen 1) old new still c.requires.second)
    (still_holds (λ e. c.in_ok-first.first ≡ turn_of (body_in_slot 0 e)) mid new c.turn_at-2.ensures.content c.in_ok-first.ensures.turn)
    c.in_ok-second.ensures.turn
    (λ is. absurd (cc (c.follows.ensures.1 is, c.if-follows.false)))
    (λ is. absurd (cc (c.follows-else-follows.ensures.1 is, c.if-follows-2.false)))
