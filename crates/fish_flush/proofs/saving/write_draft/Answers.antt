-- The lines of the draft are written, and then its body.
use Rattle.std.proofs.Common.{ℕ, ◌+◌, ◌-◌, ◌*◌, ◌≤◌, ◌++◌, List, ap, sym, ◌∙◌, subst, arith, length}
use Rattle.std.proofs.lemmas.Result.{on_ok_weaker}
use Rattle.fish_disk.specs.Crash.{LeavesOnly, TornFrom}
use Rattle.fish_flush.proofs.Resting.{torn_gates, torn_leaves}
use Rattle.fish_flush.proofs.Drafted.{drafted_ready}
use Rattle.fish_flush.proofs.PageWrites.{told_in}
use Rattle.fish_flush.proofs.Saved.{saved_carries, saved_grows, saved_leaves}
use Rattle.fish_flush.specs.Writing.{pages_between}
use Rattle.fish_flush.specs.within.Writing.{EitherCommit, GrowsBy}
use Rattle.fish_image.proofs.Spelling.{told_length}
use Rattle.fish_rule.specs.Passes.{view}
use Rattle.fish_rule.specs.declared.view.Key.{Key}
use Rattle.fish_slots.specs.Commits.{SlotRests}
use Rattle.fish_slots.specs.Offsets.{lines_at}
use Rattle.fish_flush.proofs.saving.write_draft.Goals as goal

pub write_settled-requires-clause-ordered : goal.write_settled-requires-clause-ordered
write_settled-requires-clause-ordered g c =
    let may = c.requires.may.3.may in
    let about = ap (λ (z : Key). z.number) c.requires.pass.about in
    let from = may.from in
    (omega arith, may.ordered)

pub write_settled-requires-clause-settled : goal.write_settled-requires-clause-settled
write_settled-requires-clause-settled g c = (c.requires.may.3.settled, c.requires.may.3.counted)

pub write_settled-requires-clause-ready : goal.write_settled-requires-clause-ready
write_settled-requires-clause-ready g c = drafted_ready _ _ _ _ _ _ _ c.requires.may.3.may c.requires.may.3.drafts

pub write_settled-requires-clause-within : goal.write_settled-requires-clause-within
write_settled-requires-clause-within g c =
    let disk = g.D.Disk in
    let h = c.requires.may in
    let line = h.3.drafts.begins.line in
    told_in (disk.content c.args.disk.now) (λ d. lines_at + 32 * c.args.draft.now.batch.line ≤ length d)
    (λ d is. (let long = h.3.rest.long d (g.met.D.Disk.as_read c.args.disk.now d is) in omega arith))

pub returns-in_err-write_settled-clause-crash : goal.returns-in_err-write_settled-clause-crash
returns-in_err-write_settled-clause-crash g c = λ rows d old h.
    let disk = g.D.Disk in
    let crash = c.write_settled.ensures.crash in
    torn_leaves disk.images disk.since disk.moment c.args.disk.now c.write_settled.new.disk c.args.flusher.now
    (view c.write_settled.new.pass) rows d old crash.0 h.rest
    (subst (λ (n : ℕ). LeavesOnly disk.images disk.since disk.moment c.args.disk.now c.write_settled.new.disk
    (TornFrom (disk.images c.args.disk.now) (lines_at + 32 * n) crash.0)) h.drafts.begins.line crash.1)

pub returns-in_err-write_settled-clause-gates : goal.returns-in_err-write_settled-clause-gates
returns-in_err-write_settled-clause-gates g c =
    let disk = g.D.Disk in
    let h = c.requires.may in
    let crash = c.write_settled.ensures.crash in
    torn_gates disk.images disk.since disk.moment c.args.disk.now c.write_settled.new.disk c.args.flusher.now h.1 h.2 crash.0 h.3.rest
    (subst (λ (n : ℕ). LeavesOnly disk.images disk.since disk.moment c.args.disk.now c.write_settled.new.disk
    (TornFrom (disk.images c.args.disk.now) (lines_at + 32 * n) crash.0)) h.3.drafts.begins.line crash.1)

pub returns-in_err-write_settled-clause-calls : goal.returns-in_err-write_settled-clause-calls
returns-in_err-write_settled-clause-calls g c =
    let line = c.requires.may.3.drafts.begins.line in
    let within = c.write_settled.ensures.line.1 in
    let calls = c.write_settled.ensures.calls in
    let same = ap (λ (n : ℕ). pages_between n c.write_settled.new.batch.line) line in
    omega arith

pub put_body-requires-clause-slot : goal.put_body-requires-clause-slot
put_body-requires-clause-slot g c = (let slot = c.requires.may.3.rest.slot_is in omega arith)

pub put_body-requires-clause-size : goal.put_body-requires-clause-size
put_body-requires-clause-size g c =
    ap length c.as_bytes.ensures ∙ told_length _ c.args.draft.now.body c.requires.may.3.drafts.told

pub put_body-requires-clause-rests : goal.put_body-requires-clause-rests
put_body-requires-clause-rests g c =
    let disk = g.D.Disk in
    let f = c.args.flusher.now in
    let h = c.requires.may in
    let done = c.in_ok-write_settled.ensures.done in
    let crash = c.write_settled.ensures.crash in (
      f.line,
      h.3.rest.body,
      h.3.rest.lines,
      done.0,
      subst (λ (z : List ℕ). GrowsBy disk.content disk.images c.write_settled.new.disk (1 - f.slot) f.line h.3.rest.body h.3.rest.lines z
          done.0) (sym c.as_bytes.ensures)
          (saved_grows disk.content disk.images disk.since disk.moment g.met.D.Disk.as_read c.args.disk.now
          c.write_settled.new.disk (view c.args.pass.now) (view c.write_settled.new.pass) c.args.log.now.key.end c.args.log.now.shape
          c.args.flusher.now c.args.draft.now c.write_settled.new.batch done.0 crash.0 c.write_settled.ensures.extends
          c.write_settled.ensures.pass.stands done.1 done.2 crash.1 h.0 h.1 h.2 h.3),
    )

pub returns-clause-saved : goal.returns-clause-saved
returns-clause-saved g c =
    let disk = g.D.Disk in
    let f = c.args.flusher.now in
    let done = c.in_ok-write_settled.ensures.done in
    let crash = c.write_settled.ensures.crash in
    on_ok_weaker c.put_body.result
    (λ put. λ rows e old h.
    saved_carries disk.content disk.images disk.since disk.moment g.met.D.Disk.as_read c.args.disk.now
    c.write_settled.new.disk (view c.args.pass.now) (view c.write_settled.new.pass) c.args.log.now.key.end c.args.log.now.shape
    c.args.flusher.now c.args.draft.now c.write_settled.new.batch done.0 crash.0 c.write_settled.ensures.extends
    c.write_settled.ensures.pass.stands done.1 done.2 crash.1 rows e old h
    c.put_body.new.disk
    (λ i here. subst (λ (z : List ℕ). SlotRests (1 - f.slot) z (h.rest.lines ++ done.0) i) c.as_bytes.ensures
    (put f.line h.rest.body h.rest.lines done.0
    (subst (λ (z : List ℕ). GrowsBy disk.content disk.images c.write_settled.new.disk (1 - f.slot) f.line h.rest.body h.rest.lines z
    done.0) (sym c.as_bytes.ensures)
    (saved_grows disk.content disk.images disk.since disk.moment g.met.D.Disk.as_read c.args.disk.now
    c.write_settled.new.disk (view c.args.pass.now) (view c.write_settled.new.pass) c.args.log.now.key.end c.args.log.now.shape
    c.args.flusher.now c.args.draft.now c.write_settled.new.batch done.0 crash.0 c.write_settled.ensures.extends
    c.write_settled.ensures.pass.stands done.1 done.2 crash.1 rows e old h)) i here))
    c.put_body.ensures.longer)
    c.put_body.ensures.done

pub returns-clause-crash : goal.returns-clause-crash
returns-clause-crash g c = λ rows e old h.
    let disk = g.D.Disk in
    let f = c.args.flusher.now in
    let done = c.in_ok-write_settled.ensures.done in
    let crash = c.write_settled.ensures.crash in
    saved_leaves disk.content disk.images disk.since disk.moment g.met.D.Disk.as_read c.args.disk.now
    c.write_settled.new.disk (view c.args.pass.now) (view c.write_settled.new.pass) c.args.log.now.key.end c.args.log.now.shape
    c.args.flusher.now c.args.draft.now c.write_settled.new.batch done.0 crash.0 c.write_settled.ensures.extends
    c.write_settled.ensures.pass.stands done.1 done.2 crash.1 rows e old h
    c.put_body.new.disk
    (subst (λ (z : List ℕ). LeavesOnly disk.images disk.since disk.moment c.write_settled.new.disk c.put_body.new.disk
    (EitherCommit h.rest.body h.rest.lines z (h.rest.lines ++ done.0))) c.as_bytes.ensures
    (c.put_body.ensures.crash f.line h.rest.body h.rest.lines done.0
    (subst (λ (z : List ℕ). GrowsBy disk.content disk.images c.write_settled.new.disk (1 - f.slot) f.line h.rest.body h.rest.lines z
    done.0) (sym c.as_bytes.ensures)
    (saved_grows disk.content disk.images disk.since disk.moment g.met.D.Disk.as_read c.args.disk.now
    c.write_settled.new.disk (view c.args.pass.now) (view c.write_settled.new.pass) c.args.log.now.key.end c.args.log.now.shape
    c.args.flusher.now c.args.draft.now c.write_settled.new.batch done.0 crash.0 c.write_settled.ensures.extends
    c.write_settled.ensures.pass.stands done.1 done.2 crash.1 rows e old h))))
    c.put_body.ensures.was
