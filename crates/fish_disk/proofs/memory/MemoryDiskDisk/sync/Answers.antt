-- A sync that succeeds leaves what is read, and one that fails changes nothing.
use Rattle.std.proofs.Common.{◌≡◌, Some, ap, inl, rules, sym, ◌∙◌}
use Rattle.std.proofs.lemmas.Result.{on_ok_weaker}
use Rattle.fish_disk.specs.Memory.{bytes_of}
use Rattle.fish_disk.specs.declared.call.Call.TheVariants.{Other, Sync}
use Rattle.fish_disk.proofs.Past.{recorded_past, unrecorded_past}
use Rattle.fish_disk.proofs.Recorded.{by_result, kept, looked, synced, unrecorded}
use Rattle.fish_disk.proofs.memory.MemoryDiskDisk.sync.Goals as goal

pub returns-in-Ok-clause-synced : goal.returns-in-Ok-clause-synced
returns-in-Ok-clause-synced c =
    let old = c.args.self.now in
    let new = c.note_sync.new.self in
    let bytes : bytes_of new ≡ bytes_of old = search rules in
    on_ok_weaker c.note_sync.result
    (λ calls. λ d left. ap (λ b. Some b) (bytes ∙ sym (kept old new (search rules) bytes calls d left)))
    c.note_sync.ensures.ok

pub returns-in-Ok-clause-crash : goal.returns-in-Ok-clause-crash
returns-in-Ok-clause-crash c =
    let old = c.args.self.now in
    let new = c.note_sync.new.self in
    let bytes : bytes_of new ≡ bytes_of old = search rules in
    let first : new.first ≡ old.first = search rules in
    by_result c.note_sync.result _ _ _ c.note_sync.ensures.ok c.note_sync.ensures.err
    (λ calls. synced old new first bytes calls)
    (λ calls. unrecorded old new first bytes calls)

pub returns-in_ok-note-in-Err-clause-crash : goal.returns-in_ok-note-in-Err-clause-crash
returns-in_ok-note-in-Err-clause-crash c =
    looked c.args.self.now c.note.new.self (search rules) (search rules) (search rules)

pub returns-in-Ok-clause-past : goal.returns-in-Ok-clause-past
returns-in-Ok-clause-past c =
    let old = c.args.self.now in
    let new = c.note_sync.new.self in
    let bytes : bytes_of new ≡ bytes_of old = search rules in
    let first : new.first ≡ old.first = search rules in
    by_result c.note_sync.result _ _ _ c.note_sync.ensures.ok c.note_sync.ensures.err
    (λ calls. recorded_past old new (Sync (bytes_of old)) first calls (λ d same. inl (same ∙ sym bytes)))
    (λ calls. unrecorded_past old new first bytes calls)

pub returns-in_ok-note-in-Err-clause-past : goal.returns-in_ok-note-in-Err-clause-past
returns-in_ok-note-in-Err-clause-past c =
    let bytes : bytes_of c.note.new.self ≡ bytes_of c.args.self.now = search rules in
    recorded_past c.args.self.now c.note.new.self Other (search rules) (search rules) (λ d same. inl (same ∙ sym bytes))
