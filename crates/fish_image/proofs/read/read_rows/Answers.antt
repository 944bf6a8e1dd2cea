-- What is left begins with the next row.
use Rattle.std.proofs.Common.{◌≡◌, ◌++◌, ◌∷◌, [], Some, arith, sym, subst, ◌∙◌}
use Rattle.std.proofs.lemmas.List.{take_all}
use Rattle.fish_catalog.specs.declared.row.CatRow.{CatRow}
use Rattle.fish_image.specs.within.Reading.{IsRowOf}
use Rattle.fish_image.proofs.Spelling.{next_row}
use Rattle.fish_image.proofs.read.read_rows.Goals as goal

-- two elements are one where both are what is there
same_row : {x y : CatRow} → Some x ≡ Some y → x ≡ y
same_row e = cc

pub returns-in_default-clause-some : goal.returns-in_default-clause-some
returns-in_default-clause-some c rows more h size =
    let t = next_row c.loop-id.id c.loop-id.rest.now h (omega arith) (c.loop-id.invariant.left rows more h size) in
    let found = c.in_ok-row.ensures t.0 (subst (IsRowOf c.loop-id.id t.0) (sym c.split_at.ensures.front) t.1) in
    let none = c.in_default.is in
    absurd (cc (found, none))

pub loop-id-preserved : goal.loop-id-preserved
loop-id-preserved c = record {
  room = (let size = c.split_at.ensures.back_len in let room = c.loop-id.invariant.room in omega arith);
  read = λ rows more h size.
      let t = next_row c.loop-id.id c.loop-id.rest.now h (omega arith) (c.loop-id.invariant.left rows more h size) in
      let found = c.in_ok-row.ensures t.0 (subst (IsRowOf c.loop-id.id t.0) (sym c.split_at.ensures.front) t.1) in
      let same : c.in-Some.row ≡ t.0 = same_row (sym c.in-Some.is ∙ found) in
      c.in_ok-push.ensures.items
      ∙ (λ i. c.loop-id.invariant.read rows more h size i ++ same i ∷ [])
      ∙ sym t.3;
  left = λ rows more h size.
      let t = next_row c.loop-id.id c.loop-id.rest.now h (omega arith) (c.loop-id.invariant.left rows more h size) in
      c.split_at.ensures.back ∙ t.2;
}

pub returns-clause-rows : goal.returns-clause-rows
returns-clause-rows c rows more h size =
    c.loop-id.invariant.read rows more h size ∙ take_all c.loop-id.id rows (omega arith)
