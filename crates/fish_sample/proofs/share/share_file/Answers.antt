-- One number more is a line more, where it is of the lane.
use Rattle.std.proofs.Common.{◌≡◌, ◌∙◌, ap, sym, arith, ℕ, List, ◌++◌}
use Rattle.fish_sample.specs.within.Files.{line_of, sample_lines}
use Rattle.fish_sample.specs.Sample.{share}
use Rattle.fish_sample.proofs.ShareFiles.{lines_more, lines_same}
use Rattle.fish_sample.proofs.share.share_file.Goals as goal
use Rattle.fish_sample.proofs.share.share_file.Goals.{then-i-lane+in_ok-push_record, else-i-lane}

pub loop-i-init : goal.loop-i-init
loop-i-init c = c.new-file.ensures

pub loop-i-preserved : goal.loop-i-preserved
loop-i-preserved c = elim c.if-i-lane.branch [
  | then-i-lane+in_ok-push_record w ↦ w.file-is ∙ w.in_ok-push_record.ensures
      ∙ ap (λ (z : List ℕ). z ++ line_of c.loop-i.i) c.loop-i.invariant ∙ sym (lines_more c.loop-i.i c.args.lane w.if-i-lane.true)
  | else-i-lane w ↦ w.file-is ∙ c.loop-i.invariant ∙ sym (lines_same c.loop-i.i c.args.lane w.if-i-lane.false)
]

pub returns : goal.returns
returns c = c.loop-i.invariant ∙ ap (λ (z : ℕ). sample_lines (share z c.args.lane)) (let e : c.loop-i.i
    ≡ c.args.number = omega (c.loop-i.auto.i-end, c.loop-i-test.false, arith) in e)
