-- What is on the disk once it was synced is what is opened.
use Rattle.std.proofs.Common.{◌≡◌, ℕ, ◌⊎◌, inl, inr, List, [], sym, subst, arith}
use Rattle.std.specs.Prelude.{Some}
use Rattle.std.proofs.lemmas.Option.{IfSome_then}
use Rattle.fish_disk.proofs.Moments.{leaves_each, leaves_more, leaves_then}
use Rattle.fish_disk.specs.Content.{StillReads}
use Rattle.fish_image.specs.Stands.{Stands}
use Rattle.fish_slots.proofs.Keeping.{on_ok}
use Rattle.fish_recover.proofs.Feeding.{any_holds}
use Rattle.fish_recover.proofs.Openings.{earlier_opened, refusal_leaves, still_one}
use Rattle.fish_recover.proofs.Refusals.{err_is, err_ok, err_on, err_then, later_cause, ok_then, outside_not, outside_store}
use Rattle.fish_recover.proofs.Slots.{still_then}
use Rattle.fish_recover.specs.Opening.{IsOfStore}
use Rattle.fish_recover.specs.Stores.{HasOpened}
use Rattle.fish_recover.specs.declared.refusal.OpenRefusal.TheVariants.{DiskFault}
use Rattle.fish_recover.proofs.store.open_store.Goals as goal

pub returns-in_err-sync-clause-opened : goal.returns-in_err-sync-clause-opened
returns-in_err-sync-clause-opened g c = err_ok DiskFault c.from_residual.result _ c.from_residual.ensures.1

pub returns-in_err-sync-clause-since : goal.returns-in_err-sync-clause-since
returns-in_err-sync-clause-since g c = err_on DiskFault c.from_residual.result _ c.from_residual.ensures.1

pub returns-in_err-sync-clause-crash : goal.returns-in_err-sync-clause-crash
returns-in_err-sync-clause-crash g c i d log was h =
    let disk = g.D.Disk in
    leaves_more disk.images disk.since disk.moment c.args.disk.now c.sync.new.self (disk.images c.args.disk.now)
    (λ e. disk.images c.args.disk.now e ⊎ Stands d e log) (λ e here. inl here) c.sync.ensures.crash

pub returns-in_err-sync-clause-calls : goal.returns-in_err-sync-clause-calls
returns-in_err-sync-clause-calls g c =
    let one = c.sync.ensures.one in
    any_holds _ (g.D.Disk.content c.sync.new.self) (λ i. λ none. omega arith)

pub returns-in_err-sync-clause-refused : goal.returns-in_err-sync-clause-refused
returns-in_err-sync-clause-refused g c =
    err_is DiskFault c.from_residual.result _ c.from_residual.ensures.1
    (outside_store DiskFault (g.D.Disk.content c.sync.new.self) c.args.asked tt)

pub returns-in_err-sync-clause-reads : goal.returns-in_err-sync-clause-reads
returns-in_err-sync-clause-reads g c =
    err_is DiskFault c.from_residual.result _ c.from_residual.ensures.1 (λ s. outside_not _ DiskFault tt s)

pub returns-in_err-sync-clause-leaves : goal.returns-in_err-sync-clause-leaves
returns-in_err-sync-clause-leaves g c =
    err_is DiskFault c.from_residual.result _ c.from_residual.ensures.1 (λ s. outside_not _ DiskFault tt s)

pub returns-clause-opened : goal.returns-clause-opened
returns-clause-opened g c =
    let disk = g.D.Disk in
    let old = disk.content c.args.disk.now in
    let x = disk.content c.sync.new.self in
    let new = disk.content c.open_synced.new.disk in
    let images = disk.images c.open_synced.new.disk in
    ok_then c.open_synced.result (HasOpened x new images c.args.asked) (HasOpened old new images c.args.asked)
    c.open_synced.ensures.opened
    (λ o opened. earlier_opened old x new images c.args.asked o c.sync.ensures.content opened)

pub returns-clause-since : goal.returns-clause-since
returns-clause-since g c =
    let disk = g.D.Disk in
    let old = disk.content c.args.disk.now in
    let x = disk.content c.sync.new.self in
    on_ok c.open_synced.result (λ i d log was h.
    let all = λ (e : List ℕ) (here : disk.images c.sync.new.self e).
    still_one old x i e c.sync.ensures.content was (c.in_ok-sync.ensures.synced e here) in
    record {
      from = disk.moment c.sync.new.self;
      early = c.sync.ensures.one;
      stands = leaves_each disk.images disk.since disk.moment c.sync.new.self c.open_synced.new.disk (λ e. Stands d e log)
          (g.met.D.Disk.only_now c.sync.new.self)
          (λ e here. subst (λ (l : List ℕ). Stands d l log) (sym (all e here)) h)
          (c.open_synced.ensures.crash i d log all h);
    })

pub returns-clause-crash : goal.returns-clause-crash
returns-clause-crash g c i d log was h =
    let disk = g.D.Disk in
    let old = disk.content c.args.disk.now in
    let x = disk.content c.sync.new.self in
    leaves_then disk.images disk.since disk.moment c.args.disk.now c.sync.new.self c.open_synced.new.disk
    (λ e. disk.images c.args.disk.now e ⊎ Stands d e log)
    (leaves_more disk.images disk.since disk.moment c.args.disk.now c.sync.new.self (disk.images c.args.disk.now)
    (λ e. disk.images c.args.disk.now e ⊎ Stands d e log) (λ e here. inl here) c.sync.ensures.crash)
    (leaves_more disk.images disk.since disk.moment c.sync.new.self c.open_synced.new.disk (λ e. Stands d e log)
    (λ e. disk.images c.args.disk.now e ⊎ Stands d e log) (λ e stands. inr stands)
    (c.open_synced.ensures.crash i d log
    (λ e here. still_one old x i e c.sync.ensures.content was (c.in_ok-sync.ensures.synced e here)) h))

pub returns-clause-calls : goal.returns-clause-calls
returns-clause-calls g c =
    let disk = g.D.Disk in
    let old = disk.content c.args.disk.now in
    let x = disk.content c.sync.new.self in
    let one = c.sync.ensures.one in
    IfSome_then (disk.content c.open_synced.new.disk) c.open_synced.ensures.calls
    (λ j give. λ (empty : old ≡ Some []).
    let few = give (λ i is. still_one old x [] i c.sync.ensures.content empty is) in
    omega arith)

pub returns-clause-reads : goal.returns-clause-reads
returns-clause-reads g c =
    let disk = g.D.Disk in
    let old = disk.content c.args.disk.now in
    let x = disk.content c.sync.new.self in
    let new = disk.content c.open_synced.new.disk in
    err_then c.open_synced.result (λ e. IsOfStore e → StillReads x new) (λ e. IsOfStore e → StillReads old new)
    c.open_synced.ensures.reads (λ e reads. λ s. still_then old x new c.sync.ensures.content (reads s))

pub returns-clause-leaves : goal.returns-clause-leaves
returns-clause-leaves g c =
    let disk = g.D.Disk in
    refusal_leaves disk.images disk.since disk.moment c.args.disk.now c.sync.new.self c.open_synced.new.disk c.open_synced.result
    c.sync.ensures.crash c.open_synced.ensures.leaves

pub returns-clause-cause : goal.returns-clause-cause
returns-clause-cause g c =
    let disk = g.D.Disk in
    later_cause (disk.faults c.args.disk.now) (disk.faults c.sync.new.self) (disk.faults c.open_synced.new.disk) c.open_synced.result
    c.sync.ensures.cause.later c.open_synced.ensures.cause

pub returns-in_err-sync-clause-few : goal.returns-in_err-sync-clause-few
returns-in_err-sync-clause-few g c = err_ok DiskFault c.from_residual.result _ c.from_residual.ensures.1

pub returns-clause-few : goal.returns-clause-few
returns-clause-few g c = ok_then c.open_synced.result _ _ c.open_synced.ensures.few
    (λ o few. let one = c.sync.ensures.one in omega arith)
