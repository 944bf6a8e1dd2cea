-- An empty disk gets a store, and any other is read.
use Rattle.std.proofs.Common.{◌≡◌, ℕ, ◌+◌, ◌≤◌, List, [], length, sym, subst, arith, true}
use Rattle.std.specs.Prelude.{IfErr, IfOk, IfSome}
use Rattle.std.proofs.lemmas.Option.{IfSome_then}
use Rattle.fish_disk.proofs.Moments.{leaves_more, leaves_then}
use Rattle.fish_disk.proofs.Regions.{told_at}
use Rattle.fish_disk.specs.Content.{StillReads}
use Rattle.fish_flush.specs.Kept.{first_commit}
use Rattle.fish_image.specs.Stands.{Stands}
use Rattle.fish_recover.proofs.Feeding.{any_holds}
use Rattle.fish_recover.proofs.Openings.{earlier_opened, empty_told, made_opened, not_empty, read_leaves, refusal_leaves}
use Rattle.fish_recover.proofs.Openings.{still_synced, told_before}
use Rattle.fish_recover.proofs.Refusals.{err_both, err_is, err_ok, err_then, later_cause, ok_both, ok_then, outside_not, outside_store}
use Rattle.fish_recover.proofs.Refusals.{store_cause}
use Rattle.fish_recover.proofs.Slots.{still_then}
use Rattle.fish_recover.specs.Opening.{IsOfStore, IsOpenCause}
use Rattle.fish_recover.specs.within.Opening.{IsOutside}
use Rattle.fish_recover.specs.Stores.{HasOpened, IsOpened, IsStoreCause, asked_shape}
use Rattle.fish_recover.specs.declared.refusal.OpenRefusal.TheVariants.{DiskFault}
use Rattle.fish_recover.proofs.store.open_synced.Goals as goal

pub returns-in_err-size-clause-opened : goal.returns-in_err-size-clause-opened
returns-in_err-size-clause-opened g c = err_ok DiskFault c.from_residual.result _ c.from_residual.ensures.1

pub returns-in_err-size-clause-crash : goal.returns-in_err-size-clause-crash
returns-in_err-size-clause-crash g c i d log all h =
    let disk = g.D.Disk in
    read_leaves disk.images disk.since disk.moment i d log h c.args.disk.now c.length.new.self all c.length.ensures.crash

pub returns-in_err-size-clause-calls : goal.returns-in_err-size-clause-calls
returns-in_err-size-clause-calls g c =
    let disk = g.D.Disk in
    let one = c.length.ensures.one in
    any_holds _ (disk.content c.length.new.self) (λ i. λ none. omega arith)

pub returns-in_err-size-clause-refused : goal.returns-in_err-size-clause-refused
returns-in_err-size-clause-refused g c =
    err_is DiskFault c.from_residual.result _ c.from_residual.ensures.1
    (outside_store DiskFault (g.D.Disk.content c.length.new.self) c.args.asked tt)

pub returns-in_err-size-clause-reads : goal.returns-in_err-size-clause-reads
returns-in_err-size-clause-reads g c =
    err_is DiskFault c.from_residual.result _ c.from_residual.ensures.1 (λ s. outside_not _ DiskFault tt s)

pub returns-in_err-size-clause-leaves : goal.returns-in_err-size-clause-leaves
returns-in_err-size-clause-leaves g c =
    err_is DiskFault c.from_residual.result _ c.from_residual.ensures.1 (λ s. outside_not _ DiskFault tt s)

pub make_store-requires-clause-empty : goal.make_store-requires-clause-empty
make_store-requires-clause-empty g c =
    let test = c.if-size-eq0.true in
    IfSome_then (g.D.Disk.content c.length.new.self) c.in_ok-size.ensures.length (λ i is. omega arith)

pub open_kept-requires : goal.open_kept-requires
open_kept-requires g c =
    let disk = g.D.Disk in
    record {
      synced = still_synced (disk.content c.args.disk.now) (disk.content c.length.new.self) (disk.images c.args.disk.now)
          (disk.images c.length.new.self) c.length.ensures.content c.requires.synced c.length.ensures.crash.now
          (g.met.D.Disk.told c.length.new.self);
    }

pub returns-then-size-eq0-clause-opened : goal.returns-then-size-eq0-clause-opened
returns-then-size-eq0-clause-opened g c =
    let disk = g.D.Disk in
    let old = disk.content c.args.disk.now in
    let x = disk.content c.length.new.self in
    let new = disk.content c.make_store.new.disk in
    let images = disk.images c.make_store.new.disk in
    let test = c.if-size-eq0.true in
    let synced = still_synced old x (disk.images c.args.disk.now) (disk.images c.length.new.self) c.length.ensures.content
    c.requires.synced c.length.ensures.crash.now (g.met.D.Disk.told c.length.new.self) in
    ok_both c.make_store.result (λ o. IsOpened new images (first_commit (asked_shape c.args.asked)) [] o) (λ o. o.made ≡ true)
    (HasOpened old new images c.args.asked) c.make_store.ensures.opened c.make_store.ensures.made
    (λ o opened made. made_opened old x new images c.args.asked o c.length.ensures.content
    (IfSome_then x c.in_ok-size.ensures.length (λ i is. omega arith))
    (told_before new x images (disk.images c.length.new.self) (g.met.D.Disk.as_read c.make_store.new.disk)
    c.make_store.ensures.crash.now synced) made opened)

pub returns-then-size-eq0-clause-crash : goal.returns-then-size-eq0-clause-crash
returns-then-size-eq0-clause-crash g c i d log all h =
    let disk = g.D.Disk in
    let old = disk.content c.args.disk.now in
    let x = disk.content c.length.new.self in
    let test = c.if-size-eq0.true in
    let synced = still_synced old x (disk.images c.args.disk.now) (disk.images c.length.new.self) c.length.ensures.content
    c.requires.synced c.length.ensures.crash.now (g.met.D.Disk.told c.length.new.self) in
    leaves_then disk.images disk.since disk.moment c.args.disk.now c.length.new.self c.make_store.new.disk (λ e. Stands d e log)
    (read_leaves disk.images disk.since disk.moment i d log h c.args.disk.now c.length.new.self all c.length.ensures.crash)
    (leaves_more disk.images disk.since disk.moment c.length.new.self c.make_store.new.disk
    (λ e. (o : List ℕ) × disk.images c.length.new.self o) (λ e. Stands d e log)
    (λ e was.
    let o : List ℕ = was.0 in
    let is = all o (c.length.ensures.crash.now o was.1) in
    let size = told_at (λ l. c.in_ok-size.size ≡ length l) x o (synced o was.1) c.in_ok-size.ensures.length in
    absurd (not_empty d o log (subst (λ (l : List ℕ). Stands d l log) (sym is) h) (omega arith)))
    c.make_store.ensures.crash)

pub returns-then-size-eq0-clause-calls : goal.returns-then-size-eq0-clause-calls
returns-then-size-eq0-clause-calls g c =
    let one = c.length.ensures.one in
    let calls = c.make_store.ensures.calls in
    any_holds _ (g.D.Disk.content c.make_store.new.disk) (λ i. λ none. omega arith)

pub returns-then-size-eq0-clause-refused : goal.returns-then-size-eq0-clause-refused
returns-then-size-eq0-clause-refused g c =
    err_then c.make_store.result IsOutside _ c.make_store.ensures.refused
    (λ e outside. outside_store e (g.D.Disk.content c.make_store.new.disk) c.args.asked outside)

pub returns-then-size-eq0-clause-reads : goal.returns-then-size-eq0-clause-reads
returns-then-size-eq0-clause-reads g c =
    err_then c.make_store.result IsOutside _ c.make_store.ensures.refused (λ e outside. outside_not _ e outside)

pub returns-then-size-eq0-clause-leaves : goal.returns-then-size-eq0-clause-leaves
returns-then-size-eq0-clause-leaves g c =
    err_then c.make_store.result IsOutside _ c.make_store.ensures.refused (λ e outside. outside_not _ e outside)

pub returns-then-size-eq0-clause-cause : goal.returns-then-size-eq0-clause-cause
returns-then-size-eq0-clause-cause g c =
    let disk = g.D.Disk in
    later_cause (disk.faults c.args.disk.now) (disk.faults c.length.new.self) (disk.faults c.make_store.new.disk) c.make_store.result
    c.length.ensures.cause.later c.make_store.ensures.cause

pub returns-else-size-eq0-clause-opened : goal.returns-else-size-eq0-clause-opened
returns-else-size-eq0-clause-opened g c =
    let disk = g.D.Disk in
    let old = disk.content c.args.disk.now in
    let x = disk.content c.length.new.self in
    let new = disk.content c.open_kept.new.disk in
    let images = disk.images c.open_kept.new.disk in
    ok_then c.open_kept.result (HasOpened x new images c.args.asked) (HasOpened old new images c.args.asked) c.open_kept.ensures.opened
    (λ o opened. earlier_opened old x new images c.args.asked o c.length.ensures.content opened)

pub returns-else-size-eq0-clause-crash : goal.returns-else-size-eq0-clause-crash
returns-else-size-eq0-clause-crash g c i d log all h =
    let disk = g.D.Disk in
    leaves_then disk.images disk.since disk.moment c.args.disk.now c.length.new.self c.open_kept.new.disk (λ e. Stands d e log)
    (read_leaves disk.images disk.since disk.moment i d log h c.args.disk.now c.length.new.self all c.length.ensures.crash)
    (c.open_kept.ensures.crash i d log (λ e here. all e (c.length.ensures.crash.now e here)) h)

pub returns-else-size-eq0-clause-calls : goal.returns-else-size-eq0-clause-calls
returns-else-size-eq0-clause-calls g c =
    let disk = g.D.Disk in
    let old = disk.content c.args.disk.now in
    let x = disk.content c.length.new.self in
    let new = disk.content c.open_kept.new.disk in
    let test = c.if-size-eq0.false in
    IfSome_then new
    (empty_told x new c.in_ok-size.size (disk.moment c.open_kept.new.disk ≤ disk.moment c.args.disk.now + 7) (omega arith)
    c.in_ok-size.ensures.length c.open_kept.ensures.before)
    (λ j give. λ none. give (λ i is. none i (told_at (λ e. old ≡ Rattle.std.specs.Prelude.Some e) x i is c.length.ensures.content)))

pub returns-else-size-eq0-clause-refused : goal.returns-else-size-eq0-clause-refused
returns-else-size-eq0-clause-refused g c =
    let disk = g.D.Disk in
    let x = disk.content c.length.new.self in
    let new = disk.content c.open_kept.new.disk in
    let test = c.if-size-eq0.false in
    err_both c.open_kept.result (λ e. IfSome new (λ i. IsOpenCause i c.args.asked e)) (λ e. IsOfStore e → StillReads x new)
    (λ e. IfSome new (λ i. IsStoreCause i c.args.asked e)) c.open_kept.ensures.refused c.open_kept.ensures.reads
    (λ e cause reads. store_cause e x new c.in_ok-size.size c.args.asked (omega arith) c.in_ok-size.ensures.length cause reads)

pub returns-else-size-eq0-clause-reads : goal.returns-else-size-eq0-clause-reads
returns-else-size-eq0-clause-reads g c =
    let disk = g.D.Disk in
    let old = disk.content c.args.disk.now in
    let x = disk.content c.length.new.self in
    let new = disk.content c.open_kept.new.disk in
    err_then c.open_kept.result (λ e. IsOfStore e → StillReads x new) (λ e. IsOfStore e → StillReads old new) c.open_kept.ensures.reads
    (λ e reads. λ s. still_then old x new c.length.ensures.content (reads s))

pub returns-else-size-eq0-clause-leaves : goal.returns-else-size-eq0-clause-leaves
returns-else-size-eq0-clause-leaves g c =
    let disk = g.D.Disk in
    refusal_leaves disk.images disk.since disk.moment c.args.disk.now c.length.new.self c.open_kept.new.disk c.open_kept.result
    c.length.ensures.crash c.open_kept.ensures.leaves

pub returns-else-size-eq0-clause-cause : goal.returns-else-size-eq0-clause-cause
returns-else-size-eq0-clause-cause g c =
    let disk = g.D.Disk in
    later_cause (disk.faults c.args.disk.now) (disk.faults c.length.new.self) (disk.faults c.open_kept.new.disk) c.open_kept.result
    c.length.ensures.cause.later c.open_kept.ensures.cause

-- ---- calls of the disk

pub returns-in_err-size-clause-few : goal.returns-in_err-size-clause-few
returns-in_err-size-clause-few g c = err_ok DiskFault c.from_residual.result _ c.from_residual.ensures.1

pub returns-then-size-eq0-clause-few : goal.returns-then-size-eq0-clause-few
returns-then-size-eq0-clause-few g c = ok_then c.make_store.result _ _ c.make_store.ensures.opened (λ o _.
    let one = c.length.ensures.one in
    let calls = c.make_store.ensures.calls in
    omega arith)

pub returns-else-size-eq0-clause-few : goal.returns-else-size-eq0-clause-few
returns-else-size-eq0-clause-few g c = ok_then c.open_kept.result _ _ c.open_kept.ensures.few
    (λ o few. let one = c.length.ensures.one in omega arith)
