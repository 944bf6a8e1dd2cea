-- The first LF of the piece ends the open line, and the other lines are those of what follows it.
use Rattle.std.proofs.Common.{◌∙◌, ap, sym, ◌++◌, subst}
use Rattle.std.specs.List.{slice_split}
use Rattle.fish_json.specs.Lines.{is_line_end}
use Rattle.fish_lines.specs.Lines.{ended_parts, given_of, last_part}
use Rattle.fish_lines.specs.Open.{IsLineOpen, line_in}
use Rattle.fish_lines.proofs.KeptLemmas.{line_in_open}
use Rattle.fish_lines.proofs.PartLemmas.{last-cut}
use Rattle.fish_lines.proofs.SplitLemmas.{front_ends, given_front}
use Rattle.fish_lines.proofs.splitter.take_piece.Goals as goal

pub returns-clause-lines : goal.returns-clause-lines
returns-clause-lines c = λ t is.
    let front = c.in-Some.front.now in
    let behind = c.in-Some.behind.now in
    let more = given_of (ended_parts (slice_split is_line_end behind)) in
    let first = ap (λ l. l ++ more) (line_in_open c.in_ok-grown.field-0 (t ++ front) (c.in_ok-grown.ensures t is)) in
    let parts = ap (λ l. given_of (ended_parts l))
    (front_ends t c.args.piece.now front behind is.no_end c.in-Some.ensures.parts) in
    c.in_ok-append.ensures.items
    ∙ ap (λ l. c.args.ready.now.items ++ l)
    (c.in_ok-rest.ensures.lines
    ∙ ap (λ l. l ++ more)
    (c.in_ok-push_line.ensures ∙ ap (λ l. l ++ line_in c.in_ok-grown.field-0) c.new-more.ensures.items)
    ∙ first ∙ sym (given_front (t ++ front) behind) ∙ sym parts)

pub returns-clause-rest : goal.returns-clause-rest
returns-clause-rest c = λ t is.
    let front = c.in-Some.front.now in
    let behind = c.in-Some.behind.now in
    let last = ap last_part (front_ends t c.args.piece.now front behind is.no_end c.in-Some.ensures.parts)
    ∙ last-cut (t ++ front) behind in
    subst (λ l. IsLineOpen c.in_ok-next.next l) (c.in_ok-rest.ensures.rest ∙ sym last) c.in_ok-next.ensures
