-- Each turn puts the definition of one row more after the others.
use Rattle.std.proofs.Common.{◌≡◌, ◌∙◌, ◌++◌, ◌∷◌, [], ℕ, ◌+◌, suc, sym, ap, arith, map, take, slice_get, List}
use Rattle.fish_catalog.specs.Listing.{listed_of}
use Rattle.fish_catalog.specs.declared.listed.Listed.{Listed}
use Rattle.fish_rule.specs.Passes.{view}
use Rattle.fish_rule.specs.declared.view.Key.{Key}
use Rattle.fish_epoch.proofs.Reading.{reads_both, take_more}
use Rattle.fish_epoch.proofs.rows.first_rows.Goals as goal

-- where memory ran out, words were read and nothing else
pub returns-in_err-first_row-clause-reads : goal.returns-in_err-first_row-clause-reads
returns-in_err-first_row-clause-reads c =
    reads_both (view c.args.pass.now) (view c.loop-id.pass) (view c.first_row.new.pass) c.loop-id.invariant.reads
    c.first_row.ensures.reads

pub returns-in_err-push-clause-reads : goal.returns-in_err-push-clause-reads
returns-in_err-push-clause-reads c =
    reads_both (view c.args.pass.now) (view c.loop-id.pass) (view c.first_row.new.pass) c.loop-id.invariant.reads
    c.first_row.ensures.reads

pub loop-id-preserved : goal.loop-id-preserved
loop-id-preserved c =
    let h = c.loop-id.invariant in
    let rows = map listed_of (view c.args.pass.now).about.rows.value in
    let id : ℕ = c.loop-id.id in
    let more : suc id ≡ id + 1 = omega arith in
    let before = h.reads.extends.learns.about in
    let there = ap (λ (z : Key). slice_get (map listed_of z.rows.value) id) (sym before)
    ∙ c.in_ok-first_row.ensures.row in
    record {
      of = c.first_row.ensures.pass;
      reads = reads_both (view c.args.pass.now) (view c.loop-id.pass) (view c.first_row.new.pass) h.reads
          c.first_row.ensures.reads;
      count = h.count;
      rows = c.in_ok-push.ensures.items ∙ ap (λ (z : List Listed). z ++ c.in_ok-first_row.field-0 ∷ []) h.rows
          ∙ take_more rows id c.in_ok-first_row.field-0 there ∙ ap (λ (z : ℕ). take z rows) more;
    }
