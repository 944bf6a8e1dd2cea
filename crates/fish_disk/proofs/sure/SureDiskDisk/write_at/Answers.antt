-- A write is done at once: a crash leaves what is read, which is one way for the write to end.
use Rattle.std.proofs.Common.{inr, rules, arith}
use Rattle.fish_outside.specs.Bounded.{content_in}
use Rattle.fish_disk.specs.Content.{HasWritten}
use Rattle.fish_disk.proofs.Regions.{written_torn}
use Rattle.fish_disk.proofs.sure.SureDiskDisk.write_at.Goals as goal

pub returns-then-at-as_bytes-clause-crash : goal.returns-then-at-as_bytes-clause-crash
returns-then-at-as_bytes-clause-crash c =
    let old = content_in c.args.self.now in
    let new = content_in c.put_within.new.bytes in
    let written : HasWritten old new c.args.at c.args.piece.now = search rules in
    let torn = written_torn old new c.args.at c.args.piece.now c.requires written in
    record {
      later = omega arith;
      now = torn;
      before = λ t d le left. inr (torn d left);
    }
