-- The new gate opens while the old one is open, and then the old one closes.
use Rattle.std.proofs.Common.{◌≡◌, ◌-◌, inr, ℕ, List, sym, ◌∙◌, subst, arith}
use Rattle.std.proofs.lemmas.Result.{on_ok_weaker}
use Rattle.fish_disk.specs.Crash.{TornFrom}
use Rattle.fish_disk.proofs.Moments.{leaves_more, leaves_then}
use Rattle.fish_slots.specs.Offsets.{gate_at}
use Rattle.fish_slots.specs.Slots.{line_count, lines_in_slot}
use Rattle.fish_slots.proofs.Keeping.{one_gates, other_gate}
use Rattle.fish_flush.specs.within.Writing.{EitherCommit, IsSealed}
use Rattle.fish_flush.proofs.Images.{closed_new, closing_gates, closing_new, sealed_either, sealed_gate, sealed_gates}
use Rattle.fish_flush.proofs.exchange.take_over.Goals as goal

pub open_gate-requires-clause-gates : goal.open_gate-requires-clause-gates
open_gate-requires-clause-gates g c =
    let h = c.requires.sealed in
    sealed_gates (g.D.Disk.images c.args.disk.now) c.args.slot h.0 h.1 h.2 h.3 c.requires.slot h.4.each

pub open_gate-requires-clause-sealed : goal.open_gate-requires-clause-sealed
open_gate-requires-clause-sealed g c = λ e f here there.
    let h = c.requires.sealed in
    let one = h.4.each e here in
    let other = h.4.each f there in (
      one.new_body ∙ sym other.new_body,
      subst (λ (l : List ℕ). lines_in_slot (line_count l) e ≡ lines_in_slot (line_count l) f) (sym other.new_body)
          (one.new_lines ∙ sym other.new_lines),
    )

pub returns-in_err-open_gate-clause-crash : goal.returns-in_err-open_gate-clause-crash
returns-in_err-open_gate-clause-crash g c = λ b w d v h.
    let disk = g.D.Disk in
    let s = c.args.slot in
    let old = c.args.disk.now in
    leaves_more disk.images disk.since disk.moment old c.open_gate.new.disk
    (TornFrom (disk.images old) (gate_at s) 1) (EitherCommit b w d v)
    (λ e from. sealed_either s b w d v e c.requires.slot h.turn
    (sealed_gate s b w d v from.0 e c.requires.slot from.2 (h.each from.0 from.1)))
    c.open_gate.ensures.crash

pub returns-in_err-open_gate-clause-gates : goal.returns-in_err-open_gate-clause-gates
returns-in_err-open_gate-clause-gates g c =
    let s = c.args.slot in
    let h = c.requires.sealed in
    sealed_gates (g.D.Disk.images c.open_gate.new.disk) s h.0 h.1 h.2 h.3 c.requires.slot (λ e image.
    let from = c.open_gate.ensures.crash.now e image in
    sealed_gate s h.0 h.1 h.2 h.3 from.0 e c.requires.slot from.2 (h.4.each from.0 from.1))

pub close_old-requires-clause-gates : goal.close_old-requires-clause-gates
close_old-requires-clause-gates g c =
    let disk = g.D.Disk in
    let mid = c.open_gate.new.disk in
    one_gates (disk.content mid) (disk.images mid) c.in_ok-open_gate.ensures.done.durable

pub close_old-requires-clause-opened : goal.close_old-requires-clause-opened
close_old-requires-clause-opened g c = λ e image.
    let disk = g.D.Disk in
    let s = c.args.slot in
    let h = c.requires.sealed in
    other_gate (1 - s) s (disk.images c.args.disk.now) e (omega (arith, c.requires.slot)) (λ f here. (h.4.each f here).gate)
    (c.open_gate.ensures.crash.now e image)

pub returns-clause-done : goal.returns-clause-done
returns-clause-done g c =
    let disk = g.D.Disk in
    let s = c.args.slot in
    on_ok_weaker c.close_old.result
    (λ closed. λ b w d v h e image.
    let second = c.close_old.ensures.crash.now e image in
    let first = c.open_gate.ensures.crash.now second.0 second.1 in
    closed_new s b w d v second.0 e c.requires.slot h.turn second.2
    (sealed_gate s b w d v first.0 second.0 c.requires.slot first.2 (h.each first.0 first.1))
    (c.in_ok-open_gate.ensures.opened second.0 second.1) (closed e image))
    c.close_old.ensures.closed

pub returns-clause-gates : goal.returns-clause-gates
returns-clause-gates g c =
    let disk = g.D.Disk in
    let s = c.args.slot in
    let h = c.requires.sealed in
    closing_gates (disk.images c.open_gate.new.disk) (disk.images c.close_old.new.disk) s h.0 h.1 h.2 h.3 c.requires.slot
    (λ e image.
    let from = c.open_gate.ensures.crash.now e image in
    sealed_gate s h.0 h.1 h.2 h.3 from.0 e c.requires.slot from.2 (h.4.each from.0 from.1))
    c.close_old.ensures.crash.now

pub returns-clause-crash : goal.returns-clause-crash
returns-clause-crash g c = λ b w d v h.
    let disk = g.D.Disk in
    let s = c.args.slot in
    let old = c.args.disk.now in
    let mid = c.open_gate.new.disk in
    let new = c.close_old.new.disk in
    let sealed : (m : List ℕ) → TornFrom (disk.images old) (gate_at s) 1 m → IsSealed s b w d v m =
    λ m from. sealed_gate s b w d v from.0 m c.requires.slot from.2 (h.each from.0 from.1) in
    let first = leaves_more disk.images disk.since disk.moment old mid
    (TornFrom (disk.images old) (gate_at s) 1) (EitherCommit b w d v)
    (λ e from. sealed_either s b w d v e c.requires.slot h.turn (sealed e from))
    c.open_gate.ensures.crash in
    let second = leaves_more disk.images disk.since disk.moment mid new
    (TornFrom (disk.images mid) (gate_at (1 - s)) 1) (EitherCommit b w d v)
    (λ e from. inr (closing_new s b w d v from.0 e c.requires.slot h.turn from.2
    (sealed from.0 (c.open_gate.ensures.crash.now from.0 from.1)) (c.in_ok-open_gate.ensures.opened from.0 from.1)))
    c.close_old.ensures.crash in
    leaves_then disk.images disk.since disk.moment old mid new (EitherCommit b w d v) first second

pub returns-in_err-open_gate-clause-longer : goal.returns-in_err-open_gate-clause-longer
returns-in_err-open_gate-clause-longer g c = λ n each e here.
    let from = c.open_gate.ensures.crash.now e here in
    let long = each from.0 from.1 in
    let more = from.2.no_shorter in
    omega arith

pub returns-clause-longer : goal.returns-clause-longer
returns-clause-longer g c = λ n each e here.
    let second = c.close_old.ensures.crash.now e here in
    let from = c.open_gate.ensures.crash.now second.0 second.1 in
    let long = each from.0 from.1 in
    let more = from.2.no_shorter in
    let again = second.2.no_shorter in
    omega arith

pub returns-in_err-open_gate-clause-was : goal.returns-in_err-open_gate-clause-was
returns-in_err-open_gate-clause-was g c = λ e here. (let from = c.open_gate.ensures.crash.now e here in (from.0, from.1))

pub returns-clause-was : goal.returns-clause-was
returns-clause-was g c = λ e here.
    let second = c.close_old.ensures.crash.now e here in
    let from = c.open_gate.ensures.crash.now second.0 second.1 in
    (from.0, from.1)
