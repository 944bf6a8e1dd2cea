-- One page after the other is given to the checker.
use Rattle.std.proofs.Common.{◌≡◌, ◌+◌, ℕ, [], subst, arith}
use Rattle.std.proofs.lemmas.Option.{IfSome_then}
use Rattle.fish_disk.proofs.Moments.{leaves_more, leaves_none, leaves_then}
use Rattle.fish_disk.proofs.Regions.{still_holds}
use Rattle.fish_image.specs.Checking.{HasChecked, HasSeen}
use Rattle.fish_recover.proofs.Feeding.{all_cause, any_holds, both_hold, lines_read, read_none}
use Rattle.fish_recover.proofs.Slots.{still_same, still_then}
use Rattle.fish_recover.specs.within.Opening.{IsPieceCause, first_words}
use Rattle.fish_recover.proofs.lines.check_lines.Goals as goal

pub loop-line-preserved : goal.loop-line-preserved
loop-line-preserved g c =
    let disk = g.D.Disk in
    let i = c.loop-line.invariant in
    let old = disk.content c.args.disk.now in
    let mid = disk.content c.loop-line.disk in
    let new = disk.content c.feed_lines.new.disk in
    let test = c.loop-line-test.true in
    let count = c.min-count.ensures in
    let before = i.upto in
    let faults = i.faults in
    let later = c.feed_lines.ensures.cause.later in
    let whole = i.whole test in
    let calls = i.calls in
    let one = c.feed_lines.ensures.calls in
    record {
      upto = omega arith;
      whole = λ less. omega arith;
      calls = omega arith;
      checker = c.feed_lines.ensures.checker;
      seen = both_hold (λ e. HasSeen c.args.commit.now c.loop-line.checker (first_words c.loop-line.line e))
          (λ e. HasSeen c.args.commit.now c.feed_lines.new.checker (first_words (c.loop-line.line + c.min-count.result) e)) new
          (still_holds (λ e. HasSeen c.args.commit.now c.loop-line.checker (first_words c.loop-line.line e)) mid new
          c.feed_lines.ensures.content i.seen) (c.in-Ok.ensures.fed c.args.commit.now);
      read = c.in-Ok.ensures.read c.args.commit.now i.read;
      content = still_then old mid new i.content c.feed_lines.ensures.content;
      crash = leaves_then disk.images disk.since disk.moment c.args.disk.now c.loop-line.disk c.feed_lines.new.disk
          (disk.images c.args.disk.now) i.crash
          (leaves_more disk.images disk.since disk.moment c.loop-line.disk c.feed_lines.new.disk (disk.images c.loop-line.disk)
          (disk.images c.args.disk.now) i.crash.now c.feed_lines.ensures.crash);
      faults = omega arith;
    }

pub returns-in-Err-clause-refused : goal.returns-in-Err-clause-refused
returns-in-Err-clause-refused g c =
    let disk = g.D.Disk in
    let i = c.loop-line.invariant in
    let mid = disk.content c.loop-line.disk in
    let new = disk.content c.feed_lines.new.disk in
    let test = c.loop-line-test.true in
    let count = c.min-count.ensures in
    IfSome_then new
    (both_hold (λ e. HasSeen c.args.commit.now c.loop-line.checker (first_words c.loop-line.line e))
    (λ e. IsPieceCause c.args.commit.now (first_words (c.loop-line.line + c.min-count.result) e) c.in-Err.refusal) new
    (still_holds (λ e. HasSeen c.args.commit.now c.loop-line.checker (first_words c.loop-line.line e)) mid new
    c.feed_lines.ensures.content i.seen) (c.in-Err.ensures.refused c.args.commit.now))
    (λ e cause. all_cause c.in-Err.refusal c.args.commit.now (c.loop-line.line + c.min-count.result) c.args.commit.now.lines e
    (omega arith) cause)

-- the page that was read before the refusal is one of them
pub returns-in-Err-clause-calls : goal.returns-in-Err-clause-calls
returns-in-Err-clause-calls g c =
    let i = c.loop-line.invariant in
    let test = c.loop-line-test.true in
    let whole = i.whole test in
    let calls = i.calls in
    let one = c.feed_lines.ensures.calls in
    omega arith

pub returns-in-Ok-finish-clause-found : goal.returns-in-Ok-finish-clause-found
returns-in-Ok-finish-clause-found g c =
    let i = c.loop-line.invariant in
    let test = c.loop-line-test.false in
    let before = i.upto in
    let all : c.loop-line.line ≡ c.args.commit.now.lines = omega arith in
    IfSome_then (g.D.Disk.content c.loop-line.disk) i.seen
    (λ e seen. subst (λ (k : ℕ). HasChecked c.args.commit.now (first_words k e) c.in-Ok-finish.checked) all
    (c.in-Ok-finish.ensures.found c.args.commit.now (first_words c.loop-line.line e) seen))

pub returns-in-Ok-finish-clause-read : goal.returns-in-Ok-finish-clause-read
returns-in-Ok-finish-clause-read g c =
    let i = c.loop-line.invariant in
    lines_read c.args.commit.now c.loop-line.checker c.loop-line.line c.in-Ok-finish.checked i.upto i.read
    (c.in-Ok-finish.ensures.found c.args.commit.now)

pub loop-line-init : goal.loop-line-init
loop-line-init g c =
    let disk = g.D.Disk in
    let seen = c.in_ok-checker.ensures.seen in
    record {
      upto = omega arith;
      whole = λ less. omega arith;
      calls = omega arith;
      checker = c.in_ok-checker.ensures.checker;
      seen = any_holds (λ e. HasSeen c.args.commit.now c.in_ok-checker.checker []) (disk.content c.args.disk.now) (λ e. seen);
      read = read_none c.args.commit.now c.in_ok-checker.checker seen;
      content = still_same (disk.content c.args.disk.now);
      crash = leaves_none disk.images disk.since disk.moment c.args.disk.now (disk.images c.args.disk.now) (λ e here. here);
      faults = omega arith;
    }
