-- What was taken before a read that failed, and what that read took, are together no more than may be.
use Rattle.std.proofs.Common.{arith, ◌++◌, length-append, sym, subst}
use Rattle.std.proofs.lemmas.Grind.{common_steps}
use Rattle.fish_outside.proofs.ContentLemmas.{Took_trans}
use Rattle.fish_outside.specs.Content.{Took}
use Rattle.fish_outside.proofs.ContentLemmas.{reads_all}
use Rattle.fish_outside.proofs.reading.read_up_to.Goals as goal

pub returns-in_err-read_more-clause-most : goal.returns-in_err-read_more-clause-most
returns-in_err-read_more-clause-most g c =
    let more = c.read_more.ensures.most in (
      c.loop-bytes.bytes ++ more.0,
      grind (arith, common_steps, length-append),
      Took_trans _ _ _ c.loop-bytes.bytes more.0 c.loop-bytes.invariant.took more.2,
    )

pub returns-then-branch-eq0-clause-first : goal.returns-then-branch-eq0-clause-first
returns-then-branch-eq0-clause-first g c =
    let took = c.in_ok-read_more.ensures.took in
    let front = c.split_at_mut-part.ensures.front_len in
    let room = c.min-room.ensures in
    let test = c.loop-bytes-test.true in
    let size = c.len.ensures in
    let again = c.len-in-loop-bytes.ensures in
    let bound = c.loop-bytes.invariant.bound in
    let within = c.in_ok-read_more.ensures.bound in
    let gained = c.in_ok-read_more.ensures.gained in
    let none = c.if-branch-eq0.true in
    reads_all _ _ c.read_more.new.bytes c.args.most (omega arith)
    (subst (Took (g.S.Source.left c.args.source.now) (g.S.Source.left c.read_more.new.source)) (sym took.1)
    (Took_trans _ _ _ c.loop-bytes.bytes took.0 c.loop-bytes.invariant.took took.2))
    (c.in_ok-read_more.ensures.end (omega arith) none)
