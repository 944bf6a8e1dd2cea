-- All is zero before the lines, and then the body stands there and its gate opens.
use Rattle.std.proofs.Common.{◌≡◌, ℕ, List, length, subst, arith}
use Rattle.std.proofs.lemmas.Result.{on_ok_weaker}
use Rattle.fish_flush.proofs.Creating.{first_image, has_room, none_open, only_piece}
use Rattle.fish_flush.proofs.Faults.{cause_from}
use Rattle.fish_disk.proofs.Moments.{leaves_more, leaves_then}
use Rattle.fish_disk.proofs.Regions.{told_at}
use Rattle.fish_slots.proofs.Keeping.{one_gates, one_slot}
use Rattle.fish_disk.specs.Crash.{TornFrom}
use Rattle.fish_slots.specs.Offsets.{body_at, body_bytes, gate_at, lines_at}
use Rattle.fish_slots.specs.Slots.{IsOpen}
use Rattle.fish_flush.proofs.creation.put_first.Goals as goal

pub seal-requires-clause-within : goal.seal-requires-clause-within
seal-requires-clause-within g c =
    let disk = g.D.Disk in
    let z : List ℕ = c.args.zeros.now in
    let x = disk.content c.write_synced.new.disk in
    has_room lines_at z c.requires.zeros (omega arith) x 8192 (omega arith)
    (only_piece (disk.content c.args.disk.now) x z c.requires.empty c.in_ok-write_synced.ensures.done.written)

pub seal-requires-clause-gates : goal.seal-requires-clause-gates
seal-requires-clause-gates g c =
    let disk = g.D.Disk in
    one_gates (disk.content c.write_synced.new.disk) (disk.images c.write_synced.new.disk) c.in_ok-write_synced.ensures.done.durable

pub seal-requires-clause-closed : goal.seal-requires-clause-closed
seal-requires-clause-closed g c = λ i image opened.
    let disk = g.D.Disk in
    let z : List ℕ = c.args.zeros.now in
    let x = disk.content c.write_synced.new.disk in
    let all = only_piece (disk.content c.args.disk.now) x z c.requires.empty c.in_ok-write_synced.ensures.done.written in
    let same = told_at (λ (l : List ℕ). l ≡ z) x i (c.in_ok-write_synced.ensures.done.durable i image) all in
    none_open lines_at z c.requires.zeros (omega arith) 0 (omega arith) (subst (λ (l : List ℕ). IsOpen 0 l) same opened)

pub open_gate-requires-clause-gates : goal.open_gate-requires-clause-gates
open_gate-requires-clause-gates g c =
    let disk = g.D.Disk in
    one_gates (disk.content c.seal.new.disk) (disk.images c.seal.new.disk) c.in_ok-seal.ensures.done.durable

pub open_gate-requires-clause-sealed : goal.open_gate-requires-clause-sealed
open_gate-requires-clause-sealed g c =
    let disk = g.D.Disk in
    one_slot (disk.content c.seal.new.disk) (disk.images c.seal.new.disk) c.in_ok-seal.ensures.done.durable 0

pub returns-clause-rests : goal.returns-clause-rests
returns-clause-rests g c =
    let disk = g.D.Disk in
    let z : List ℕ = c.args.zeros.now in
    let x = disk.content c.write_synced.new.disk in
    let y = disk.content c.seal.new.disk in
    let all = only_piece (disk.content c.args.disk.now) x z c.requires.empty c.in_ok-write_synced.ensures.done.written in
    on_ok_weaker c.open_gate.result
    (λ opened. λ e image.
    let from = c.open_gate.ensures.crash.now e image in
    let first = first_image lines_at z c.requires.zeros (omega arith) x y c.args.body.now from.0 e all
    c.in_ok-seal.ensures.done.written c.requires.size (c.in_ok-seal.ensures.done.durable from.0 from.1) from.2 in
    ((opened e image, first.0), first.1))
    c.open_gate.ensures.opened

pub returns-clause-long : goal.returns-clause-long
returns-clause-long g c =
    let disk = g.D.Disk in
    let z : List ℕ = c.args.zeros.now in
    let x = disk.content c.write_synced.new.disk in
    let y = disk.content c.seal.new.disk in
    let all = only_piece (disk.content c.args.disk.now) x z c.requires.empty c.in_ok-write_synced.ensures.done.written in
    on_ok_weaker c.open_gate.result
    (λ opened. λ e image.
    let from = c.open_gate.ensures.crash.now e image in
    (first_image lines_at z c.requires.zeros (omega arith) x y c.args.body.now from.0 e all
    c.in_ok-seal.ensures.done.written c.requires.size (c.in_ok-seal.ensures.done.durable from.0 from.1) from.2).2)
    c.open_gate.ensures.opened

pub returns-clause-cause : goal.returns-clause-cause
returns-clause-cause g c =
    let disk = g.D.Disk in
    let first = c.write_synced.ensures.cause.later in
    let second = c.seal.ensures.cause.later in
    cause_from (disk.faults c.args.disk.now) (disk.faults c.seal.new.disk) (disk.faults c.open_gate.new.disk) c.open_gate.result
    (omega (arith, first, second)) c.open_gate.ensures.cause

pub returns-in_err-seal-clause-crash : goal.returns-in_err-seal-clause-crash
returns-in_err-seal-clause-crash g c =
    let disk = g.D.Disk in
    let first = leaves_more disk.images disk.since disk.moment c.args.disk.now c.write_synced.new.disk
    (TornFrom (disk.images c.args.disk.now) 0 (length c.args.zeros.now)) (λ e. (i : List ℕ) × disk.images c.args.disk.now i)
    (λ e from. (from.0, from.1)) c.write_synced.ensures.crash in
    leaves_then disk.images disk.since disk.moment c.args.disk.now c.write_synced.new.disk c.seal.new.disk
    (λ e. (i : List ℕ) × disk.images c.args.disk.now i) first
    (leaves_more disk.images disk.since disk.moment c.write_synced.new.disk c.seal.new.disk
    (TornFrom (disk.images c.write_synced.new.disk) (body_at 0) body_bytes) (λ e. (i : List ℕ) × disk.images c.args.disk.now i)
    (λ e from. first.now from.0 from.1) c.seal.ensures.crash)

pub returns-clause-crash : goal.returns-clause-crash
returns-clause-crash g c =
    let disk = g.D.Disk in
    let first = leaves_more disk.images disk.since disk.moment c.args.disk.now c.write_synced.new.disk
    (TornFrom (disk.images c.args.disk.now) 0 (length c.args.zeros.now)) (λ e. (i : List ℕ) × disk.images c.args.disk.now i)
    (λ e from. (from.0, from.1)) c.write_synced.ensures.crash in
    let second = leaves_then disk.images disk.since disk.moment c.args.disk.now c.write_synced.new.disk c.seal.new.disk
    (λ e. (i : List ℕ) × disk.images c.args.disk.now i) first
    (leaves_more disk.images disk.since disk.moment c.write_synced.new.disk c.seal.new.disk
    (TornFrom (disk.images c.write_synced.new.disk) (body_at 0) body_bytes) (λ e. (i : List ℕ) × disk.images c.args.disk.now i)
    (λ e from. first.now from.0 from.1) c.seal.ensures.crash) in
    leaves_then disk.images disk.since disk.moment c.args.disk.now c.seal.new.disk c.open_gate.new.disk
    (λ e. (i : List ℕ) × disk.images c.args.disk.now i) second
    (leaves_more disk.images disk.since disk.moment c.seal.new.disk c.open_gate.new.disk
    (TornFrom (disk.images c.seal.new.disk) (gate_at 0) 1) (λ e. (i : List ℕ) × disk.images c.args.disk.now i)
    (λ e from. second.now from.0 from.1) c.open_gate.ensures.crash)
