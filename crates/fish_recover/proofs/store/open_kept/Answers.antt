-- What is open is what was found, and a crash leaves what has its commit.
use Rattle.std.proofs.Common.{false, refl, arith}
use Rattle.fish_flush.proofs.Growing.{grown_self}
use Rattle.fish_recover.proofs.Beginnings.{begun_open, resumed_line}
use Rattle.fish_recover.proofs.Keepings.{kept_in, kept_rest, kept_stored}
use Rattle.fish_recover.proofs.Openings.{opening_leaves, read_leaves, still_before, told_before, told_through, was_stored}
use Rattle.fish_recover.proofs.Refusals.{err_is, err_ok, memory_cause, ok_cause, outside_not, outside_open, same_cause}
use Rattle.fish_recover.specs.Stores.{shape_of}
use Rattle.fish_recover.specs.declared.refusal.OpenRefusal.TheVariants.{OutOfMemory}
use Rattle.fish_recover.proofs.store.open_kept.Goals as goal

pub rest_store-requires-clause-slot : goal.rest_store-requires-clause-slot
rest_store-requires-clause-slot g c = c.in-Ok.ensures.read.slot.slot_is

pub rest_store-requires-clause-synced : goal.rest_store-requires-clause-synced
rest_store-requires-clause-synced g c = c.in-Ok.ensures.synced

pub rest_store-requires-clause-stored : goal.rest_store-requires-clause-stored
rest_store-requires-clause-stored g c =
    let disk = g.D.Disk in
    let x = disk.content c.find_store.new.disk in
    let k = kept_in x c.args.asked c.in-Ok.found c.in-Ok.ensures.found c.in-Ok.ensures.read in
    (k.body, k.lines, kept_stored x c.in-Ok.found k (disk.images c.find_store.new.disk) c.in-Ok.ensures.synced)

pub resume-requires : goal.resume-requires
resume-requires g c = c.in-Ok.ensures.read

pub returns-in_err-resume-in-Ok-rest_store-clause-opened : goal.returns-in_err-resume-in-Ok-rest_store-clause-opened
returns-in_err-resume-in-Ok-rest_store-clause-opened g c = err_ok OutOfMemory c.from_residual.result _ c.from_residual.ensures.1

pub returns-in_err-resume-in-Ok-rest_store-clause-crash : goal.returns-in_err-resume-in-Ok-rest_store-clause-crash
returns-in_err-resume-in-Ok-rest_store-clause-crash g c i d log all h =
    let disk = g.D.Disk in
    opening_leaves disk.images disk.since disk.moment i d log h (disk.content c.find_store.new.disk) c.args.asked c.in-Ok.found
    c.args.disk.now c.find_store.new.disk c.rest_store.new.disk all c.find_store.ensures.crash c.in-Ok.ensures.found
    c.in-Ok.ensures.synced c.rest_store.ensures.crash

pub returns-in_err-resume-in-Ok-rest_store-clause-before : goal.returns-in_err-resume-in-Ok-rest_store-clause-before
returns-in_err-resume-in-Ok-rest_store-clause-before g c =
    let disk = g.D.Disk in
    told_through (disk.content c.args.disk.now) (disk.content c.find_store.new.disk) (disk.content c.rest_store.new.disk)
    (disk.images c.rest_store.new.disk) (disk.images c.find_store.new.disk) c.find_store.ensures.content
    (g.met.D.Disk.as_read c.rest_store.new.disk) c.rest_store.ensures.before c.in-Ok.ensures.synced

pub returns-in_err-resume-in-Ok-rest_store-clause-refused : goal.returns-in_err-resume-in-Ok-rest_store-clause-refused
returns-in_err-resume-in-Ok-rest_store-clause-refused g c =
    err_is OutOfMemory c.from_residual.result _ c.from_residual.ensures.1
    (outside_open OutOfMemory (g.D.Disk.content c.rest_store.new.disk) c.args.asked tt)

pub returns-in_err-resume-in-Ok-rest_store-clause-reads : goal.returns-in_err-resume-in-Ok-rest_store-clause-reads
returns-in_err-resume-in-Ok-rest_store-clause-reads g c =
    err_is OutOfMemory c.from_residual.result _ c.from_residual.ensures.1 (λ s. outside_not _ OutOfMemory tt s)

pub returns-in_err-resume-in-Ok-rest_store-clause-leaves : goal.returns-in_err-resume-in-Ok-rest_store-clause-leaves
returns-in_err-resume-in-Ok-rest_store-clause-leaves g c =
    err_is OutOfMemory c.from_residual.result _ c.from_residual.ensures.1 (λ s. outside_not _ OutOfMemory tt s)

pub returns-in_err-resume-in-Ok-rest_store-clause-cause : goal.returns-in_err-resume-in-Ok-rest_store-clause-cause
returns-in_err-resume-in-Ok-rest_store-clause-cause g c =
    let disk = g.D.Disk in
    let first = c.find_store.ensures.cause.later in
    let second = c.rest_store.ensures.cause.later in
    memory_cause (disk.faults c.args.disk.now) (disk.faults c.rest_store.new.disk) c.from_residual.result (omega arith)
    c.from_residual.ensures.1

pub returns-in_ok-resume-in-Ok-rest_store-clause-before : goal.returns-in_ok-resume-in-Ok-rest_store-clause-before
returns-in_ok-resume-in-Ok-rest_store-clause-before g c =
    let disk = g.D.Disk in
    told_through (disk.content c.args.disk.now) (disk.content c.find_store.new.disk) (disk.content c.rest_store.new.disk)
    (disk.images c.rest_store.new.disk) (disk.images c.find_store.new.disk) c.find_store.ensures.content
    (g.met.D.Disk.as_read c.rest_store.new.disk) c.rest_store.ensures.before c.in-Ok.ensures.synced

pub returns-in_ok-resume-in-Ok-rest_store-clause-opened : goal.returns-in_ok-resume-in-Ok-rest_store-clause-opened
returns-in_ok-resume-in-Ok-rest_store-clause-opened g c =
    let disk = g.D.Disk in
    let old = disk.content c.args.disk.now in
    let x = disk.content c.find_store.new.disk in
    let new = disk.content c.rest_store.new.disk in
    let before = disk.images c.find_store.new.disk in
    let images = disk.images c.rest_store.new.disk in
    let f = c.in-Ok.found in
    let k = kept_in x c.args.asked f c.in-Ok.ensures.found c.in-Ok.ensures.read in
    let at = c.in-Ok-rest_store.ensures.rests k.body k.lines (kept_stored x f k before c.in-Ok.ensures.synced) in
    let o = c.in_ok-resume-in-Ok-rest_store.field-0 in
    let r = c.in_ok-resume-in-Ok-rest_store.ensures in
    let rest = kept_rest x f k images o.flusher at.0 at.1 r.kept in
    record {
      commit = f.commit;
      log = k.held.end.entries;
      opened = begun_open images o.flusher f.commit k.held.end.entries rest (shape_of f.commit) refl f.commit.rows
          (grown_self f.commit.count f.commit.rows) 0 false o r.begins new (g.met.D.Disk.as_read c.rest_store.new.disk) refl r.live;
      was = was_stored old x new c.args.asked f k o.made r.begins.opens.made_is c.in-Ok.ensures.found c.find_store.ensures.content
          (told_before new x images before (g.met.D.Disk.as_read c.rest_store.new.disk) c.rest_store.ensures.before
          c.in-Ok.ensures.synced);
    }

pub returns-in_ok-resume-in-Ok-rest_store-clause-crash : goal.returns-in_ok-resume-in-Ok-rest_store-clause-crash
returns-in_ok-resume-in-Ok-rest_store-clause-crash g c i d log all h =
    let disk = g.D.Disk in
    opening_leaves disk.images disk.since disk.moment i d log h (disk.content c.find_store.new.disk) c.args.asked c.in-Ok.found
    c.args.disk.now c.find_store.new.disk c.rest_store.new.disk all c.find_store.ensures.crash c.in-Ok.ensures.found
    c.in-Ok.ensures.synced c.rest_store.ensures.crash

pub returns-in_ok-resume-in-Ok-rest_store-clause-cause : goal.returns-in_ok-resume-in-Ok-rest_store-clause-cause
returns-in_ok-resume-in-Ok-rest_store-clause-cause g c =
    let disk = g.D.Disk in
    let first = c.find_store.ensures.cause.later in
    let second = c.rest_store.ensures.cause.later in
    ok_cause (disk.faults c.args.disk.now) (disk.faults c.rest_store.new.disk) c.in_ok-resume-in-Ok-rest_store.field-0 (omega arith)

pub returns-in-Err-rest_store-clause-crash : goal.returns-in-Err-rest_store-clause-crash
returns-in-Err-rest_store-clause-crash g c i d log all h =
    let disk = g.D.Disk in
    opening_leaves disk.images disk.since disk.moment i d log h (disk.content c.find_store.new.disk) c.args.asked c.in-Ok.found
    c.args.disk.now c.find_store.new.disk c.rest_store.new.disk all c.find_store.ensures.crash c.in-Ok.ensures.found
    c.in-Ok.ensures.synced c.rest_store.ensures.crash

pub returns-in-Err-rest_store-clause-before : goal.returns-in-Err-rest_store-clause-before
returns-in-Err-rest_store-clause-before g c =
    let disk = g.D.Disk in
    told_through (disk.content c.args.disk.now) (disk.content c.find_store.new.disk) (disk.content c.rest_store.new.disk)
    (disk.images c.rest_store.new.disk) (disk.images c.find_store.new.disk) c.find_store.ensures.content
    (g.met.D.Disk.as_read c.rest_store.new.disk) c.rest_store.ensures.before c.in-Ok.ensures.synced

pub returns-in-Err-rest_store-clause-refused : goal.returns-in-Err-rest_store-clause-refused
returns-in-Err-rest_store-clause-refused g c =
    outside_open c.in-Err-rest_store.refusal (g.D.Disk.content c.rest_store.new.disk) c.args.asked c.in-Err-rest_store.ensures.refused

pub returns-in-Err-rest_store-clause-reads : goal.returns-in-Err-rest_store-clause-reads
returns-in-Err-rest_store-clause-reads g c = λ s. outside_not _ c.in-Err-rest_store.refusal c.in-Err-rest_store.ensures.refused s

pub returns-in-Err-rest_store-clause-leaves : goal.returns-in-Err-rest_store-clause-leaves
returns-in-Err-rest_store-clause-leaves g c = λ s. outside_not _ c.in-Err-rest_store.refusal c.in-Err-rest_store.ensures.refused s

pub returns-in-Err-rest_store-clause-cause : goal.returns-in-Err-rest_store-clause-cause
returns-in-Err-rest_store-clause-cause g c =
    let disk = g.D.Disk in
    same_cause (disk.faults c.args.disk.now) (disk.faults c.find_store.new.disk) (disk.faults c.rest_store.new.disk)
    c.in-Err-rest_store.refusal c.find_store.ensures.cause.later c.in-Err-rest_store.ensures.cause

pub returns-in-Err-clause-leaves : goal.returns-in-Err-clause-leaves
returns-in-Err-clause-leaves g c = λ s. c.find_store.ensures.crash

pub returns-in-Err-clause-crash : goal.returns-in-Err-clause-crash
returns-in-Err-clause-crash g c i d log all h =
    let disk = g.D.Disk in
    read_leaves disk.images disk.since disk.moment i d log h c.args.disk.now c.find_store.new.disk all c.find_store.ensures.crash

pub returns-in-Err-clause-before : goal.returns-in-Err-clause-before
returns-in-Err-clause-before g c =
    still_before (g.D.Disk.content c.args.disk.now) (g.D.Disk.content c.find_store.new.disk) c.find_store.ensures.content

-- ---- calls of the disk

pub returns-in_err-resume-in-Ok-rest_store-clause-few : goal.returns-in_err-resume-in-Ok-rest_store-clause-few
returns-in_err-resume-in-Ok-rest_store-clause-few g c = err_ok OutOfMemory c.from_residual.result _ c.from_residual.ensures.1

pub returns-in_ok-resume-in-Ok-rest_store-clause-few : goal.returns-in_ok-resume-in-Ok-rest_store-clause-few
returns-in_ok-resume-in-Ok-rest_store-clause-few g c =
    let line = resumed_line c.in-Ok.found c.in_ok-resume-in-Ok-rest_store.field-0 c.in_ok-resume-in-Ok-rest_store.ensures in
    let found = c.in-Ok.ensures.calls in
    let rests = c.rest_store.ensures.calls in
    omega arith
