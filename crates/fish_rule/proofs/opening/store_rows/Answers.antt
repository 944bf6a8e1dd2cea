-- Each turn puts one more row in its place.
use Rattle.std.proofs.Common.{refl, arith}
use Rattle.std.proofs.lemmas.Option.{slice_get_within}
use Rattle.fish_rule.proofs.basics.EmptyWords.{stored_more}
use Rattle.fish_rule.proofs.opening.store_rows.Goals as goal

-- no row is there yet
pub loop-id-init : goal.loop-id-init
loop-id-init c = record {
  placed = λ id row less. absurd (omega arith);
  before = λ p _. refl;
  behind = λ p _. refl;
}

-- one more is in its place
pub loop-id-preserved : goal.loop-id-preserved
loop-id-preserved c =
    let now = c.store_row.ensures in
    stored_more c.args.rows.now c.args.words.now c.loop-id.words c.store_row.new.words c.loop-id.id
    c.index-rows-id.result c.loop-id.invariant c.index-rows-id.is (now.writable, now.words) now.before now.behind

-- at the end all rows are there
pub returns-clause-rows : goal.returns-clause-rows
returns-clause-rows c id row there =
    let inside = slice_get_within c.args.rows.now id row there in
    let all = c.loop-id-test.false in
    c.loop-id.invariant.placed id row (omega arith) there

-- before the rows all is as it was
pub returns-clause-before : goal.returns-clause-before
returns-clause-before c = c.loop-id.invariant.before

-- and so it is after the last row
pub returns-clause-behind : goal.returns-clause-behind
returns-clause-behind c p behind =
    let upto = c.loop-id.auto.id-end in
    c.loop-id.invariant.behind p (omega arith)
