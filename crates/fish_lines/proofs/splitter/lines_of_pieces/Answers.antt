-- One more piece was fed.
use Rattle.std.proofs.Common.{[], ◌++◌, ap, subst, ◌∙◌, take}
use Rattle.std.specs.List.{concat}
use Rattle.fish_lines.specs.Split.{HasTaken}
use Rattle.fish_lines.proofs.SplitLemmas.{pieces_more}
use Rattle.fish_lines.proofs.splitter.lines_of_pieces.Goals as goal

pub loop-piece-preserved : goal.loop-piece-preserved
loop-piece-preserved c =
    let i = c.loop-piece.piece-index in
    let pieces = c.args.pieces.now in
    let more = ap (λ l. concat (take i pieces) ++ l) c.as_bytes.ensures
    ∙ pieces_more pieces i c.piece-item.result c.loop-piece-test.true c.piece-item.is in
    record {
      going = c.feed.ensures.going;
      fed = subst (λ l. HasTaken c.feed.new.self l []) more
          (c.in_ok-feed.ensures.fed (concat (take i pieces)) [] c.loop-piece.invariant.fed);
    }
