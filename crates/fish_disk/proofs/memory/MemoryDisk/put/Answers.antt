-- What was put is one way for the write to end.
use Rattle.std.proofs.Common.{length, arith, rules, ◌∙◌, ap}
use Rattle.fish_disk.specs.Content.{put_at}
use Rattle.fish_disk.specs.Memory.{bytes_of}
use Rattle.fish_disk.proofs.Regions.{put_within}
use Rattle.fish_disk.proofs.memory.MemoryDisk.put.Goals as goal

pub returns-in-Ok-clause-torn : goal.returns-in-Ok-clause-torn
returns-in-Ok-clause-torn c =
    let piece = c.args.piece.now in
    put_within c.args.at (length piece) piece (bytes_of c.args.self.now) c.in-Ok.bytes
    (search rules) (omega arith) (c.in-Ok.ensures ∙ ap (λ bytes. put_at c.args.at piece bytes) c.as_bytes.ensures)
