-- Fewer than three bytes are no mark; three bytes are one or they stay.
use Rattle.std.proofs.Common.{sym, ◌∙◌, arith}
use Rattle.csv.proofs.ReadFacts.{strip-short}
use Rattle.fish_csv.proofs.Marks.{strip-mark, strip-other}
use Rattle.fish_csv.proofs.bytes.without_mark.Goals as goal
use Rattle.fish_csv.proofs.bytes.without_mark.Goals.{then-b-lt3-via-then-b-lt3, then-b-lt3-via-else-b-lt3+then-not-is_mark}

pub returns-then-b-lt3 : goal.returns-then-b-lt3
returns-then-b-lt3 c = elim c.then-b-lt3.branch [
  | then-b-lt3-via-then-b-lt3 w ↦ sym (strip-short c.args.b.now (omega arith))
  | then-b-lt3-via-else-b-lt3+then-not-is_mark w ↦
      sym (strip-other c.args.b.now (omega arith) (sym w.is_mark.ensures ∙ w.if-not-is_mark.true))
]

pub returns : goal.returns
returns c = c.split_at.ensures.back ∙ sym (strip-mark c.args.b.now (omega arith) (sym c.is_mark.ensures ∙ c.if-not-is_mark.false))
