-- What is kept of the longer line comes from what was kept of the shorter.
use Rattle.std.proofs.Common.{◌∙◌, ap, sym, ◌++◌, take}
use Rattle.fish_lines.specs.within.Open.{cr_if}
use Rattle.fish_lines.specs.Open.{longest_kept}
use Rattle.fish_lines.proofs.KeptLemmas.{IsLineOpen-grow, IsLineOpen-within}
use Rattle.fish_lines.proofs.open_line.OpenLine.grow.Goals as goal

pub returns-clause-open : goal.returns-clause-open
returns-clause-open c = λ t was.
    let o = c.args.self.now in
    let bytes = c.in_ok-append.ensures.ok (IsLineOpen-within o t was)
    ∙ ap (λ l. take longest_kept (o.bytes ++ cr_if o.ends_in_cr ++ l)) c.without_carriage_return-text.ensures in
    rw c.ends_in_cr-self.ensures
    (IsLineOpen-grow o c.append.new.bytes t c.args.piece.now
    (sym c.is_empty.ensures ∙ c.if-is_empty.false) c.requires was bytes)
