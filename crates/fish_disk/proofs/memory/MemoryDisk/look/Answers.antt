-- A call that changes nothing leaves what was left before, kept in the record or not.
use Rattle.std.proofs.Common.{rules, inl, sym, ◌∙◌, ◌≡◌}
use Rattle.fish_disk.specs.Memory.{bytes_of}
use Rattle.fish_disk.specs.declared.call.Call.TheVariants.{Other}
use Rattle.fish_disk.proofs.Past.{recorded_past, unrecorded_past}
use Rattle.fish_disk.proofs.Recorded.{looked, unrecorded}
use Rattle.fish_disk.proofs.memory.MemoryDisk.look.Goals as goal

pub returns-clause-crash : goal.returns-clause-crash
returns-clause-crash c =
    looked c.args.self.now c.note.new.self (search rules) (search rules) (search rules)

pub returns-in_err-note-clause-crash : goal.returns-in_err-note-clause-crash
returns-in_err-note-clause-crash c =
    unrecorded c.args.self.now c.note.new.self (search rules) (search rules) (search rules)

pub returns-clause-past : goal.returns-clause-past
returns-clause-past c =
    let bytes : bytes_of c.note.new.self ≡ bytes_of c.args.self.now = search rules in
    recorded_past c.args.self.now c.note.new.self Other (search rules) (search rules) (λ d same. inl (same ∙ sym bytes))

pub returns-in_err-note-clause-past : goal.returns-in_err-note-clause-past
returns-in_err-note-clause-past c =
    unrecorded_past c.args.self.now c.note.new.self (search rules) (search rules) (search rules)
