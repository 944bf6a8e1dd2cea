-- The word that was read is the body's second.
use Rattle.std.proofs.Common.{◌≡◌, ◌+◌, ◌∙◌, ℕ, List, length, ap, arith, rules}
use Rattle.std.proofs.lemmas.Option.{IfSome_then}
use Rattle.byteorder.specs.Endian.{little_number}
use Rattle.fish_recover.proofs.Pieces.{part_read, turn_read}
use Rattle.fish_slots.specs.Offsets.{body_at}
use Rattle.fish_recover.proofs.choosing.turn_at.Goals as goal

pub returns-clause-turn : goal.returns-clause-turn
returns-clause-turn g c =
    let buf : List ℕ = c.read.new.buf in
    let size : length buf ≡ 8 = search rules in
    IfSome_then (g.D.Disk.content c.read.new.self) c.in_ok-count.ensures.bytes
    (λ content gave. c.number_in.ensures
    ∙ ap (little_number 8) (part_read _ (body_at c.args.slot + 8) 8 c.in_ok-count.count buf content (omega arith) size gave.0 gave.1)
    ∙ turn_read c.args.slot content)
