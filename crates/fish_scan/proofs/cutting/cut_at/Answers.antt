-- One piece more is cut.
use Rattle.std.proofs.Common.{◌≡◌, ℕ, ◌+◌, ◌++◌, [], suc, sym, ap, ◌∙◌, arith, take}
use Rattle.std.proofs.lemmas.Option.{slice_get-get_or}
use Rattle.std.specs.List.{cons_option, filter_map}
use Rattle.fish_plan.specs.declared.pieces.Piece.TheVariants.{Index}
use Rattle.fish_scan.proofs.CutPieces.{cut_more}
use Rattle.fish_scan.specs.Cutting.{above_of, below_of}
use Rattle.fish_scan.proofs.cutting.cut_at.Goals as goal

pub loop-piece-preserved : goal.loop-piece-preserved
loop-piece-preserved c =
    let next : suc c.loop-piece.piece-index ≡ c.loop-piece.piece-index + 1 = omega arith in
    let there = slice_get-get_or c.args.pieces.now c.loop-piece.piece-index (Index 0 0 0) c.loop-piece-test.true in
    record {
      upper = c.in_ok-add_part.ensures ∙ (λ i. c.loop-piece.invariant.upper i ++ cons_option (c.part_from.ensures i) [])
          ∙ sym (cut_more (above_of c.args.base) c.args.pieces.now c.loop-piece.piece-index _ there)
          ∙ ap (λ (z : ℕ). filter_map (above_of c.args.base) (take z c.args.pieces.now)) next;
      lower = c.in_ok-add_part-2.ensures ∙ (λ i. c.loop-piece.invariant.lower i ++ cons_option (c.part_before.ensures i) [])
          ∙ sym (cut_more (below_of c.args.base) c.args.pieces.now c.loop-piece.piece-index _ there)
          ∙ ap (λ (z : ℕ). filter_map (below_of c.args.base) (take z c.args.pieces.now)) next;
    }
