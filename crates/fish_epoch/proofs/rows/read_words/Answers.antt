-- One word more of the row is read.
use Rattle.std.proofs.Common.{◌≡◌, ◌∙◌, ℕ, ◌+◌, suc, subst, arith, length-set}
use Rattle.std.specs.Prelude.{slice_index, slice_set}
use Rattle.fish_rule.specs.Passes.{view}
use Rattle.fish_epoch.proofs.Reading.{reads_both, reads_word, row_later, words_more}
use Rattle.fish_epoch.specs.within.Rows.{HasRowWords}
use Rattle.fish_epoch.proofs.rows.read_words.Goals as goal

-- the row stays known
pub load_row-requires-clause-row : goal.load_row-requires-clause-row
load_row-requires-clause-row c =
    row_later (view c.args.pass.now) (view c.loop-position.pass) c.args.id c.loop-position.invariant.reads.extends.learns
    c.requires.row

-- and so do the words
pub loop-position-preserved : goal.loop-position-preserved
loop-position-preserved c =
    let v = view c.loop-position.pass in
    let u = view c.load_row.new.pass in
    let h = c.loop-position.invariant in
    let more : suc c.loop-position.position ≡ c.loop-position.position + 1 = omega arith in
    let wide = h.wide in
    record {
      of = c.load_row.ensures.pass;
      reads = reads_both (view c.args.pass.now) v u h.reads (reads_word v u _ _ c.load_row.ensures.view);
      wide = length-set c.loop-position.words c.loop-position.position c.load_row.result ∙ h.wide;
      within = (let a = c.loop-position-test.true in omega arith);
      words = subst (λ (z : ℕ). HasRowWords u c.args.id z
          (slice_index (slice_set c.loop-position.words c.loop-position.position c.load_row.result))) more
          (words_more v u c.args.id c.loop-position.position c.load_row.result c.loop-position.words h.wide
          c.loop-position-test.true c.load_row.ensures.view c.load_row.ensures.row h.words);
    }

-- at the end all are
pub returns-clause-words : goal.returns-clause-words
returns-clause-words c =
    let end : c.loop-position.position ≡ 39 = (let a = c.loop-position-test.false in
    let b = c.loop-position.invariant.within in omega arith) in
    subst (λ (z : ℕ). HasRowWords (view c.loop-position.pass) c.args.id z (slice_index c.loop-position.words)) end
    c.loop-position.invariant.words
