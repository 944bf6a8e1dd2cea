-- The draft is the body of a commit of all up to the number, and a batch that goes on from the last one.
use Rattle.std.proofs.Common.{ℕ, ◌+◌, ◌%◌, List, refl, ap}
use Rattle.std.proofs.Common.{subst, arith}
use Rattle.fish_catalog.specs.Limits.{newest_format}
use Rattle.fish_flush.proofs.Drafted.{within_limits}
use Rattle.fish_image.specs.Reading.{IsBodyOf}
use Rattle.fish_rule.specs.Passes.{view}
use Rattle.fish_rule.specs.declared.view.Key.{Key}
use Rattle.fish_rule.specs.declared.view.View.{View}
use Rattle.fish_rule.specs.declared.table.Shape.{Shape}
use Rattle.fish_catalog.specs.declared.row.CatRow.{CatRow}
use Rattle.fish_flush.proofs.RegionSteps.{holds_later}
use Rattle.fish_flush.proofs.drafting.draft_commit.Goals as goal

pub slot_body-body-requires-clause-within : goal.slot_body-body-requires-clause-within
slot_body-body-requires-clause-within c =
    let v = view c.args.pass.now in
    let u = view c.end_line-line.new.pass in
    let may = c.requires.may in
    let on = c.end_line-line.ensures.extends in
    let frame = on.frame in
    let holds = holds_later v u c.args.catalog.now (ap (λ (z : View). z.lane) frame) (ap (λ (z : View). z.rows) frame)
    (ap (λ (z : View). z.control_words) frame) may.rows_are in
    let about = ap (λ (z : Key). z.number) on.learns.about in
    let from = may.from in
    let ordered = may.ordered in
    let settles = on.learns.settled in
    let settled = c.requires.settled in
    within_limits u c.end_line-line.ensures.pass.stands c.args.log.now.shape c.args.catalog.now _ may.shape holds (omega arith)
    (ap (λ (z : Shape). z.pages) c.shape.ensures) (ap (λ (z : Shape). z.bucket_bits) c.shape-2.ensures) c.in_ok-again.ensures
    (omega arith) (omega arith) c.end_line-line.ensures.line

pub returns-clause-drafts : goal.returns-clause-drafts
returns-clause-drafts c =
    let f = c.args.flusher.now in
    let line : ℕ = c.end_line-line.result in
    let body' : List ℕ = c.in_ok-body.field-0 in
    record {
      told = subst (λ (z : Shape × Shape × List CatRow). IsBodyOf (record {
        format = newest_format;
        turn = (f.turn + 1) % 3;
        pages = z.0.pages;
        bucket_bits = z.1.bucket_bits;
        count = c.args.to;
        lines = line;
        rows = z.2;
      }) body') (λ i. (c.shape.ensures i, c.shape-2.ensures i, c.in_ok-again.ensures i)) c.in_ok-body.ensures.body;
      turn = refl;
      count = refl;
      line = c.end_line-line.ensures.line;
      within = c.end_line-line.ensures.within;
      begins = c.in_ok-new_batch.ensures;
    }
