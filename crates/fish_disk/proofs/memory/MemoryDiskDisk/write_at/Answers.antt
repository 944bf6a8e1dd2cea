-- Wherever the call ends, what it left of the bytes that are read is one way for its write to end.
use Rattle.std.proofs.Common.{◌≡◌, inr, length, rules, subst}
use Rattle.fish_disk.specs.Crash.{Torn}
use Rattle.fish_disk.specs.Memory.{bytes_of}
use Rattle.fish_disk.specs.declared.call.Call.TheVariants.{Write}
use Rattle.fish_disk.proofs.Past.{recorded_past, unrecorded_past}
use Rattle.fish_disk.proofs.Recorded.{not_wrote, wrote}
use Rattle.fish_disk.proofs.Regions.{torn_same}
use Rattle.fish_disk.proofs.memory.MemoryDiskDisk.write_at.Goals as goal

pub returns-in_err-note_write-clause-crash : goal.returns-in_err-note_write-clause-crash
returns-in_err-note_write-clause-crash c =
    not_wrote c.args.self.now c.note_write.new.self c.args.at (length c.args.piece.now)
    (search rules) (search rules) (search rules)

pub returns-in_err-planned-clause-crash : goal.returns-in_err-planned-clause-crash
returns-in_err-planned-clause-crash c =
    let old = c.args.self.now in
    let new = c.note_write.new.self in
    let bytes : bytes_of old ≡ bytes_of new = search rules in
    wrote old new c.args.at c.args.piece.now (search rules) (search rules)
    (subst (λ b. Torn c.args.at (length c.args.piece.now) (bytes_of old) b) bytes
    (torn_same c.args.at (length c.args.piece.now) (bytes_of old)))

pub returns-clause-crash : goal.returns-clause-crash
returns-clause-crash c =
    let old = c.args.self.now in
    let noted = c.note_write.new.self in
    let new = c.put.new.self in
    let bytes : bytes_of noted ≡ bytes_of old = search rules in
    wrote old new c.args.at c.args.piece.now (search rules) (search rules)
    (subst (λ b. Torn c.args.at (length c.args.piece.now) b (bytes_of new)) bytes c.put.ensures.torn)

pub returns-in_err-note_write-clause-past : goal.returns-in_err-note_write-clause-past
returns-in_err-note_write-clause-past c =
    unrecorded_past c.args.self.now c.note_write.new.self (search rules) (search rules) (search rules)

pub returns-in_err-planned-clause-past : goal.returns-in_err-planned-clause-past
returns-in_err-planned-clause-past c =
    let old = c.args.self.now in
    recorded_past old c.note_write.new.self (Write c.args.at c.args.piece.now (bytes_of old)) (search rules) (search rules)
    (λ d same. inr same)

pub returns-clause-past : goal.returns-clause-past
returns-clause-past c =
    let old = c.args.self.now in
    recorded_past old c.put.new.self (Write c.args.at c.args.piece.now (bytes_of old)) (search rules) (search rules)
    (λ d same. inr same)
