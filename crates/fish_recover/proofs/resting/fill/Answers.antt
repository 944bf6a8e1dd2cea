-- Nothing is written but after the end of the file.
use Rattle.std.proofs.Common.{◌≤◌, ◌+◌, ℕ, List, ap, length, arith}
use Rattle.std.proofs.lemmas.Option.{IfSome_then}
use Rattle.fish_disk.proofs.Regions.{through_part}
use Rattle.fish_recover.proofs.Closings.{fewer_rest, fill_leaves, image_long, lines_long, part_long}
use Rattle.fish_recover.proofs.resting.fill.Goals as goal

pub returns-then-size-ge-LINES_AT-clause-rests : goal.returns-then-size-ge-LINES_AT-clause-rests
returns-then-size-ge-LINES_AT-clause-rests g c = λ b w h.
    let disk = g.D.Disk in
    let fewer = c.length.ensures.crash.now in
    let test = c.if-size-ge-LINES_AT.true in (
      fewer_rest (disk.images c.args.disk.now) (disk.images c.length.new.self) c.args.slot b w fewer h,
      λ i here.
          let size = image_long (disk.content c.args.disk.now) (disk.content c.length.new.self) c.in_ok-size.size i
          c.length.ensures.content c.in_ok-size.ensures.length (g.met.D.Disk.told c.length.new.self i here)
          (c.requires.synced i (fewer i here)) in
          lines_long c.args.slot b w i h.whole (h.rests i (fewer i here)) (omega arith),
    )

pub returns-in_err-write_synced-clause-crash : goal.returns-in_err-write_synced-clause-crash
returns-in_err-write_synced-clause-crash g c = λ b w h.
    let disk = g.D.Disk in
    let test = c.if-size-ge-LINES_AT.false in
    fill_leaves disk.images disk.since disk.moment c.args.disk.now c.length.new.self c.write_synced.new.disk c.args.slot c.in_ok-size.size
    (length c.as_slice.result.now) b w c.requires.slot (omega arith)
    (λ i here. image_long (disk.content c.args.disk.now) (disk.content c.length.new.self) c.in_ok-size.size i
    c.length.ensures.content c.in_ok-size.ensures.length (g.met.D.Disk.told c.length.new.self i here)
    (c.requires.synced i (c.length.ensures.crash.now i here))) h c.length.ensures.crash c.write_synced.ensures.crash

pub returns-clause-crash : goal.returns-clause-crash
returns-clause-crash g c = λ b w h.
    let disk = g.D.Disk in
    let test = c.if-size-ge-LINES_AT.false in
    fill_leaves disk.images disk.since disk.moment c.args.disk.now c.length.new.self c.write_synced.new.disk c.args.slot c.in_ok-size.size
    (length c.as_slice.result.now) b w c.requires.slot (omega arith)
    (λ i here. image_long (disk.content c.args.disk.now) (disk.content c.length.new.self) c.in_ok-size.size i
    c.length.ensures.content c.in_ok-size.ensures.length (g.met.D.Disk.told c.length.new.self i here)
    (c.requires.synced i (c.length.ensures.crash.now i here))) h c.length.ensures.crash c.write_synced.ensures.crash

pub returns-clause-rests : goal.returns-clause-rests
returns-clause-rests g c = λ b w h.
    let disk = g.D.Disk in
    let test = c.if-size-ge-LINES_AT.false in
    let rests = (returns-clause-crash g c b w h).now in
    let count = c.in_ok-rest.ensures in
    let items = ap (λ (l : List ℕ). length l) c.as_slice.ensures.value in (
      record { whole = h.whole; rests = rests },
      λ i here.
          let piece : List ℕ = c.as_slice.result.now in
          let there = through_part (disk.content c.length.new.self) (disk.content c.write_synced.new.disk)
          (disk.images c.write_synced.new.disk) c.in_ok-size.size piece
          (IfSome_then (disk.content c.length.new.self) c.in_ok-size.ensures.length (λ e is. omega arith))
          c.in_ok-write_synced.ensures.done i here in
          let all : c.in_ok-size.size + length piece ≤ length i =
          part_long c.in_ok-size.size (length piece) i (ap (λ (l : List ℕ). length l) there) (omega arith) in
          lines_long c.args.slot b w i h.whole (rests i here) (omega arith),
    )
