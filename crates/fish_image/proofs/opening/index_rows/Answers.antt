-- One row more is kept.
use Rattle.std.proofs.Common.{◌≡◌, ℕ, ◌<◌, List, [], ◌∷◌, ◌++◌, Some, length, length-append, get_or}
use Rattle.std.proofs.Common.{slice_get, refl, arith, sym, ap, subst, ◌∙◌, inl, inr}
use Rattle.std.proofs.lemmas.Option.{same_Some, slice_get_read}
use Rattle.fish_catalog.specs.declared.row.CatRow.{CatRow}
use Rattle.fish_image.specs.Terms.{IsIndexRow}
use Rattle.fish_image.specs.declared.terms.IndexRow.{IndexRow}
use Rattle.fish_image.proofs.Pieces.{pushed}
use Rattle.fish_image.proofs.opening.index_rows.Goals as goal

-- the rows so far, and one more
kept_more : (rows : List CatRow) (xs : List IndexRow) (i : ℕ) (row : CatRow) (x : IndexRow) → length xs ≡ i → i < length rows
    → row ≡ get_or rows i row → IsIndexRow row x
    → ((id : ℕ) (r : CatRow) (y : IndexRow) → slice_get rows id ≡ Some r → slice_get xs id ≡ Some y → IsIndexRow r y)
    → (id : ℕ) (r : CatRow) (y : IndexRow) → slice_get rows id ≡ Some r → slice_get (xs ++ x ∷ []) id ≡ Some y → IsIndexRow r y
kept_more rows xs i row x size less is here each id r y at_r at_y =
    elim (pushed xs x y id at_y) [
      | inl there ↦ each id r y at_r there.1
      | inr last ↦
          let place : id ≡ i = last.0 ∙ size in
          let same : row ≡ r =
          same_Some row r (sym (slice_get_read rows (length rows) i row refl less is) ∙ ap (slice_get rows) (sym place) ∙ at_r) in
          subst (λ (z : CatRow). IsIndexRow z y) same (subst (λ (z : IndexRow). IsIndexRow row z) (same_Some x y last.1) here)
    ]

pub loop-row-preserved : goal.loop-row-preserved
loop-row-preserved c =
    let items = c.in_ok-push.ensures.items in
    let size = c.loop-row.invariant.size in
    let more = ap length items ∙ length-append c.loop-row.xs.items (c.in_ok-index_row.field-0 ∷ []) in
    record {
      size = omega arith;
      each = λ id row x at_row at_x.
          kept_more c.args.rows.now c.loop-row.xs.items c.loop-row.row-index c.row-item.result c.in_ok-index_row.field-0 size
          c.loop-row-test.true c.row-item.is c.in_ok-index_row.ensures c.loop-row.invariant.each id row x at_row
          (ap (λ (l : List IndexRow). slice_get l id) (sym items) ∙ at_x);
    }
