-- One row more is cut.
use Rattle.std.proofs.Common.{◌≡◌, ◌<◌, ◌∙◌, ◌++◌, ◌+◌, ℕ, List, add-one, suc, ap, drop, get_or, length, map, set, sym, take}
use Rattle.fish_catalog.proofs.Clamping.{mapped_next}
use Rattle.fish_catalog.specs.Clamps.{clamped}
use Rattle.fish_catalog.specs.declared.row.CatRow.{CatRow}
use Rattle.fish_catalog.proofs.clamp.clamp_rows.Goals as goal

-- one row of a list whose first rows are cut
next_cut : (old rows : List CatRow) (n i : ℕ) (row new : CatRow) → i < length old
    → rows ≡ map (clamped n) (take i old) ++ drop i old → new ≡ clamped n (get_or rows i row)
    → set rows i new ≡ map (clamped n) (take (i + 1) old) ++ drop (i + 1) old
next_cut old rows n i row new less is cut =
    let at : new ≡ clamped n (get_or (map (clamped n) (take i old) ++ drop i old) i row) =
    cut ∙ ap (λ (z : List CatRow). clamped n (get_or z i row)) is in
    let suc_i : suc i ≡ i + 1 = sym (add-one i) in
    let first : List CatRow = map (clamped n) (take i old) ++ drop i old in
    let written : set rows i new ≡ set first i (clamped n (get_or first i row)) = λ j. set (is j) i (at j) in
    written ∙ mapped_next old (clamped n) i row less
    ∙ ap (λ (z : ℕ). map (clamped n) (take z old) ++ drop z old) suc_i

pub loop-row-preserved : goal.loop-row-preserved
loop-row-preserved c = next_cut c.args.rows.now c.loop-row.rows c.args.count c.loop-row.row-index c.row-item.result _
    c.loop-row-test.true c.loop-row.invariant c.clamp_row.ensures
