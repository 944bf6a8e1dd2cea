-- The bytes of this turn follow those of the turns before.
use Rattle.std.proofs.Common.{take, arith}
use Rattle.std.proofs.Math.Seq.{take-add}
use Rattle.fish_outside.proofs.ContentLemmas.{Gained_trans}
use Rattle.fish_outside.proofs.sink.write_whole.Goals as goal

pub loop-sent-preserved : goal.loop-sent-preserved
loop-sent-preserved g c =
    let sent = c.loop-sent.sent in
    let count = c.in_ok-count.count in
    let piece = c.args.piece.now in
    let written = g.W.Sink.written in
    let now = Gained_trans (written c.args.sink.now) (written c.loop-sent.sink) (written c.write.new.self)
    (take sent piece) (take count c.split_at.result.1.now) c.loop-sent.invariant.gained c.in_ok-count.ensures.bytes.0 in
    record {
      within = omega (arith, c.in_ok-count.ensures.bound);
      gained = rw (take-add sent count piece, ← c.split_at.ensures.back) now;
      later = omega (arith, c.write.ensures.cause.later);
    }
