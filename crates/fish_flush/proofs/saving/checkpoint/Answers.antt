-- The log up to the settled number is drafted, and then it is committed.
use Rattle.std.proofs.Common.{◌≡◌, ℕ, sym, ◌∙◌, subst, arith}
use Rattle.fish_flush.proofs.Checkpoints.{has_settled, may_draft, may_save, memory_cause, no_fault, ok_all, reads_on}
use Rattle.fish_flush.proofs.Checkpoints.{settled_counted}
use Rattle.fish_flush.proofs.Resting.{nothing_leaves, rest_gates}
use Rattle.fish_flush.specs.Carrying.{HasCommitted, HasSettled}
use Rattle.fish_rule.proofs.laws.Learning.{extends_both}
use Rattle.fish_rule.specs.Passes.{view}
use Rattle.fish_flush.proofs.saving.checkpoint.Goals as goal

pub settle-to-requires : goal.settle-to-requires
settle-to-requires g c = record { pass = c.requires.pass }

pub draft_commit-requires-clause-settled : goal.draft_commit-requires-clause-settled
draft_commit-requires-clause-settled g c = c.settle-to.ensures.settled

pub draft_commit-requires-clause-counted : goal.draft_commit-requires-clause-counted
draft_commit-requires-clause-counted g c =
    settled_counted (view c.args.pass.now) (view c.settle-to.new.pass) c.settle-to.result.settled c.settle-to.result.count
    c.settle-to.ensures.stops c.settle-to.ensures.tail

pub draft_commit-requires-clause-may : goal.draft_commit-requires-clause-may
draft_commit-requires-clause-may g c =
    let h = c.requires.carries in
    may_draft (g.D.Disk.images c.args.disk.now) (view c.args.pass.now) (view c.settle-to.new.pass) c.args.flusher.now c.args.log.now.shape
    c.args.catalog.now h.0 h.1 c.settle-to.result.settled c.settle-to.ensures.settles c.settle-to.ensures.rises c.requires.rows h.2

pub returns-in_err-draft-clause-reads : goal.returns-in_err-draft-clause-reads
returns-in_err-draft-clause-reads g c =
    reads_on (view c.args.pass.now) (view c.settle-to.new.pass) (view c.draft_commit.new.pass) c.settle-to.ensures.settles
    c.draft_commit.ensures.extends c.settle-to.result.count c.settle-to.ensures.tail
    c.settle-to.ensures.rests

pub returns-in_err-draft-clause-crash : goal.returns-in_err-draft-clause-crash
returns-in_err-draft-clause-crash g c = λ d old h.
    let disk = g.D.Disk in
    nothing_leaves disk.images disk.since disk.moment c.args.disk.now c.args.flusher.now (view c.draft_commit.new.pass) c.args.catalog.now
    d old h.rest

pub returns-in_err-draft-clause-cause : goal.returns-in_err-draft-clause-cause
returns-in_err-draft-clause-cause g c = memory_cause (g.D.Disk.faults c.args.disk.now) c.from_residual.result c.from_residual.ensures.1

pub returns-in_err-draft-clause-shut : goal.returns-in_err-draft-clause-shut
returns-in_err-draft-clause-shut g c = λ is. absurd (no_fault c.from_residual.result c.from_residual.ensures.1 is)

pub returns-in_err-draft-clause-gates : goal.returns-in_err-draft-clause-gates
returns-in_err-draft-clause-gates g c =
    let h = c.requires.carries in
    rest_gates (g.D.Disk.images c.args.disk.now) c.args.flusher.now h.0 h.1 h.2.rest

pub save-requires-clause-may : goal.save-requires-clause-may
save-requires-clause-may g c =
    let h = c.requires.carries in
    let v = view c.args.pass.now in
    let m = view c.settle-to.new.pass in
    let u = view c.draft_commit.new.pass in
    let images = g.D.Disk.images c.args.disk.now in
    let to : ℕ = c.settle-to.result.settled in (
      c.args.catalog.now,
      h.0,
      h.1,
      may_save images v m u c.args.log.now.key.end c.args.log.now.shape c.args.flusher.now c.in_ok-draft.draft
          c.args.catalog.now h.0 h.1 to c.settle-to.ensures.settles c.settle-to.ensures.rises c.settle-to.ensures.settled
          (settled_counted v m to c.settle-to.result.count
          c.settle-to.ensures.stops c.settle-to.ensures.tail) c.draft_commit.ensures.extends
          c.requires.rows h.2 c.in_ok-draft.ensures.drafts,
    )

pub returns-clause-reads : goal.returns-clause-reads
returns-clause-reads g c =
    reads_on (view c.args.pass.now) (view c.settle-to.new.pass) (view c.save.new.pass) c.settle-to.ensures.settles
    (extends_both _ _ _ c.draft_commit.ensures.extends c.save.ensures.extends) c.settle-to.result.count c.settle-to.ensures.tail
    c.settle-to.ensures.rests

pub returns-clause-settled : goal.returns-clause-settled
returns-clause-settled g c =
    let v = view c.args.pass.now in
    let m = view c.settle-to.new.pass in
    let u = view c.save.new.pass in
    let to : ℕ = c.settle-to.result.settled in
    let d = c.in_ok-draft.draft in
    ok_all c.save.result (λ n. n ≡ d.count) (HasSettled v u) _ _ c.save.ensures.count c.save.ensures.saved c.save.ensures.saved
    (λ n is _ _.
    subst (HasSettled v u) (sym (is ∙ c.in_ok-draft.ensures.drafts.count))
    (has_settled v m u c.settle-to.ensures.settles (extends_both _ _ _ c.draft_commit.ensures.extends c.save.ensures.extends)
    to c.settle-to.result.count c.settle-to.ensures.rises
    c.settle-to.ensures.settled c.settle-to.ensures.count
    (let tail = c.settle-to.ensures.tail.3 in let more = c.settle-to.ensures.settles.learns.count in omega arith)
    c.settle-to.ensures.stops c.settle-to.ensures.alone c.settle-to.ensures.ends c.settle-to.ensures.rests))

pub returns-clause-committed : goal.returns-clause-committed
returns-clause-committed g c =
    let disk = g.D.Disk in
    let v = view c.args.pass.now in
    let m = view c.settle-to.new.pass in
    let w = view c.draft_commit.new.pass in
    let u = view c.save.new.pass in
    let f = c.args.flusher.now in
    let s = c.args.log.now.shape in
    let rows = c.args.catalog.now in
    let to : ℕ = c.settle-to.result.settled in
    let d = c.in_ok-draft.draft in
    let drafts = c.in_ok-draft.ensures.drafts in
    let images = disk.images c.args.disk.now in
    let images' = disk.images c.save.new.disk in
    let counted = settled_counted v m to c.settle-to.result.count c.settle-to.ensures.stops c.settle-to.ensures.tail in
    ok_all c.save.result (λ n. n ≡ d.count) (HasCommitted images images' f c.save.new.flusher v u s rows) _ _ c.save.ensures.count
    c.save.ensures.kept c.save.ensures.saved
    (λ n is kept saved.
    let number : n ≡ to = is ∙ drafts.count in
    let first = c.draft_commit.ensures.extends.learns.count in
    let more = c.save.ensures.extends.learns.count in
    record {
      live = kept.1 ∙ c.requires.live;
      count = kept.0 ∙ sym is;
      counted = omega arith;
      carries = λ e old h.
          let carried = saved rows e old (may_save images v m w c.args.log.now.key.end s f d rows e old to c.settle-to.ensures.settles
          c.settle-to.ensures.rises c.settle-to.ensures.settled counted c.draft_commit.ensures.extends c.requires.rows h drafts) in
          (carried.0, carried.1 ∙ sym is, carried.2);
    })

pub returns-clause-crash : goal.returns-clause-crash
unfolding may_save
returns-clause-crash g c = λ e old h.
    let v = view c.args.pass.now in
    let m = view c.settle-to.new.pass in
    let to : ℕ = c.settle-to.result.settled in
    c.save.ensures.crash c.args.catalog.now e old
    (may_save (g.D.Disk.images c.args.disk.now) v m (view c.draft_commit.new.pass) c.args.log.now.key.end c.args.log.now.shape
    c.args.flusher.now c.in_ok-draft.draft c.args.catalog.now e old to c.settle-to.ensures.settles c.settle-to.ensures.rises
    c.settle-to.ensures.settled (settled_counted v m to c.settle-to.result.count c.settle-to.ensures.stops c.settle-to.ensures.tail)
    c.draft_commit.ensures.extends c.requires.rows h c.in_ok-draft.ensures.drafts)

pub returns-clause-memory : goal.returns-clause-memory
returns-clause-memory g c = λ is. absurd (c.save.ensures.memory is)
