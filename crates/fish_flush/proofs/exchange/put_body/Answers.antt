-- The body is put into the closed slot, and then its gate opens.
use Rattle.std.proofs.Common.{◌-◌, inl, ℕ, List, ◌++◌, arith}
use Rattle.std.proofs.lemmas.Result.{on_ok_weaker}
use Rattle.fish_disk.specs.Crash.{TornFrom}
use Rattle.fish_disk.proofs.Moments.{leaves_more, leaves_then}
use Rattle.fish_slots.specs.Offsets.{body_at, body_bytes}
use Rattle.fish_slots.proofs.Commits.{rests_commit}
use Rattle.fish_flush.specs.within.Writing.{EitherCommit}
use Rattle.fish_flush.proofs.Images.{now_sealed, rests_body, resting_gates}
use Rattle.fish_flush.proofs.exchange.put_body.Goals as goal

pub seal-requires-clause-gates : goal.seal-requires-clause-gates
seal-requires-clause-gates g c =
    let h = c.requires.rests in
    resting_gates (g.D.Disk.images c.args.disk.now) c.args.slot h.1 h.2 c.requires.slot h.4.grows.rests

pub returns-in_err-seal-clause-crash : goal.returns-in_err-seal-clause-crash
returns-in_err-seal-clause-crash g c = λ line b w more h.
    let disk = g.D.Disk in
    let s = c.args.slot in
    let old = c.args.disk.now in
    leaves_more disk.images disk.since disk.moment old c.seal.new.disk
    (TornFrom (disk.images old) (body_at s) body_bytes) (EitherCommit b w c.args.body.now (w ++ more))
    (λ e from. inl (rests_commit (1 - s) b w e (omega (arith, c.requires.slot))
    (rests_body s b w from.0 e c.requires.slot from.2 (h.grows.rests from.0 from.1))))
    c.seal.ensures.crash

pub returns-in_err-seal-clause-gates : goal.returns-in_err-seal-clause-gates
returns-in_err-seal-clause-gates g c =
    let s = c.args.slot in
    let h = c.requires.rests in
    resting_gates (g.D.Disk.images c.seal.new.disk) s h.1 h.2 c.requires.slot (λ e image.
    let from = c.seal.ensures.crash.now e image in
    rests_body s h.1 h.2 from.0 e c.requires.slot from.2 (h.4.grows.rests from.0 from.1))

pub take_over-requires-clause-sealed : goal.take_over-requires-clause-sealed
take_over-requires-clause-sealed g c =
    let disk = g.D.Disk in
    let old = c.args.disk.now in
    let new = c.seal.new.disk in
    let h = c.requires.rests in (
      h.1,
      h.2,
      c.args.body.now,
      h.2 ++ h.3,
      now_sealed (disk.content old) (disk.content new) (disk.images old) (disk.images new) c.args.slot h.0 h.1 h.2
          c.args.body.now h.3 c.requires.slot c.requires.size h.4.grows h.4.put c.in_ok-seal.ensures.done
          c.seal.ensures.crash.now c.in_ok-seal.ensures.sealed,
    )

pub returns-clause-done : goal.returns-clause-done
returns-clause-done g c =
    let disk = g.D.Disk in
    let old = c.args.disk.now in
    let new = c.seal.new.disk in
    on_ok_weaker c.take_over.result
    (λ done. λ line b w more h. done b w c.args.body.now (w ++ more)
    (now_sealed (disk.content old) (disk.content new) (disk.images old) (disk.images new) c.args.slot line b w
    c.args.body.now more c.requires.slot c.requires.size h.grows h.put c.in_ok-seal.ensures.done
    c.seal.ensures.crash.now c.in_ok-seal.ensures.sealed))
    c.take_over.ensures.done

pub returns-clause-crash : goal.returns-clause-crash
returns-clause-crash g c = λ line b w more h.
    let disk = g.D.Disk in
    let s = c.args.slot in
    let old = c.args.disk.now in
    let mid = c.seal.new.disk in
    let P : List ℕ → Type 0 = EitherCommit b w c.args.body.now (w ++ more) in
    let first = leaves_more disk.images disk.since disk.moment old mid
    (TornFrom (disk.images old) (body_at s) body_bytes) P
    (λ e from. inl (rests_commit (1 - s) b w e (omega (arith, c.requires.slot))
    (rests_body s b w from.0 e c.requires.slot from.2 (h.grows.rests from.0 from.1))))
    c.seal.ensures.crash in
    leaves_then disk.images disk.since disk.moment old mid c.take_over.new.disk P first
    (c.take_over.ensures.crash b w c.args.body.now (w ++ more)
    (now_sealed (disk.content old) (disk.content mid) (disk.images old) (disk.images mid) s line b w
    c.args.body.now more c.requires.slot c.requires.size h.grows h.put c.in_ok-seal.ensures.done
    c.seal.ensures.crash.now c.in_ok-seal.ensures.sealed))

pub returns-in_err-seal-clause-longer : goal.returns-in_err-seal-clause-longer
returns-in_err-seal-clause-longer g c = λ n each e here.
    let from = c.seal.ensures.crash.now e here in
    let long = each from.0 from.1 in
    let more = from.2.no_shorter in
    omega arith

pub returns-clause-longer : goal.returns-clause-longer
returns-clause-longer g c = λ n each.
    c.take_over.ensures.longer n (λ e here.
    let from = c.seal.ensures.crash.now e here in
    let long = each from.0 from.1 in
    let more = from.2.no_shorter in
    omega arith)

pub returns-in_err-seal-clause-was : goal.returns-in_err-seal-clause-was
returns-in_err-seal-clause-was g c = λ e here. (let from = c.seal.ensures.crash.now e here in (from.0, from.1))

pub returns-clause-was : goal.returns-clause-was
returns-clause-was g c = λ e here.
    let mid = c.take_over.ensures.was e here in
    let from = c.seal.ensures.crash.now mid.0 mid.1 in
    (from.0, from.1)
