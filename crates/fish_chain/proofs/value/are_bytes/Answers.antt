-- Each turn loads the word in which the next byte lies, and compares all bytes that lie in it.
use Rattle.std.proofs.Common.{◌≡◌, ℕ, ◌+◌, ◌%◌, ⊎_elim, inr, subst, arith, length}
use Rattle.fish_chain.proofs.Comparing.{read_within}
use Rattle.fish_chain.proofs.Values.{bytes_more, bytes_none}
use Rattle.fish_rule.proofs.laws.Learning.{extends_both}
use Rattle.fish_rule.proofs.laws.ChainFacts.{always_later}
use Rattle.fish_chain.specs.within.Values.{AreBytesIn}
use Rattle.fish_rule.specs.Passes.{view}
use Rattle.fish_rule.specs.ChainFacts.{Always}
use Rattle.fish_chain.proofs.value.are_bytes.Goals as goal

pub load-word-requires-clause-read : goal.load-word-requires-clause-read
load-word-requires-clause-read g c =
    read_within (view c.args.pass.now) (view c.loop-done.pass) c.args.number c.args.line c.args.first
    (length c.args.bytes.now) c.loop-done.done c.loop-done.invariant.extends.learns c.requires.bytes c.loop-done-test.true

pub returns-then-not-has_bytes_from-clause-extends : goal.returns-then-not-has_bytes_from-clause-extends
returns-then-not-has_bytes_from-clause-extends g c =
    extends_both _ _ _ c.loop-done.invariant.extends c.load-word.ensures.extends

pub returns-then-not-has_bytes_from-clause-other : goal.returns-then-not-has_bytes_from-clause-other
returns-then-not-has_bytes_from-clause-other g c _ u learns w r seat at =
    bytes_none c.args.number c.args.first c.args.bytes.now c.loop-done.done c.min-end.result (length c.args.bytes.now)
    c.load-word.result u.about w (omega (arith, c.min-end.ensures)) (omega (arith, c.min-end.ensures))
    (c.load-word.ensures.word u learns w r seat at)
    (λ are. let same = c.has_bytes_from.ensures.1 are in cc c.if-not-has_bytes_from.true)

pub loop-done-preserved : goal.loop-done-preserved
loop-done-preserved g c =
    let inv = c.loop-done.invariant in
    let end = c.min-end.ensures in
    let loads = c.load-word.ensures.loads in
    let counted = c.load-word.ensures.counted in
    let before = inv.counted in
    let full = inv.full c.loop-done-test.true in
    let aligned = inv.aligned c.loop-done-test.true in
    record {
      of = c.load-word.ensures.pass;
      extends = extends_both _ _ _ inv.extends c.load-word.ensures.extends;
      within = omega arith;
      are = λ u learns w r seat at.
          bytes_more c.args.number c.args.first c.args.bytes.now c.loop-done.done c.min-end.result c.load-word.result u.about w
          (omega arith)
          (always_later (view c.loop-done.pass) (view c.load-word.new.pass) _ c.load-word.ensures.extends.learns inv.are u learns w r
          seat at) (c.load-word.ensures.word u learns w r seat at)
          (c.has_bytes_from.ensures.0 c.if-not-has_bytes_from.false);
      counted = omega arith;
      aligned = λ less. inr (omega arith);
      full = λ less. ⊎_elim (λ (begun : c.loop-done.done ≡ 0). omega arith)
          (λ (even : (c.args.first + c.loop-done.done) % 8 ≡ 0). omega arith) aligned;
      few = omega arith;
    }

pub returns-clause-are : goal.returns-clause-are
returns-clause-are g c _ =
    let test = c.loop-done-test.false in
    let within = c.loop-done.invariant.within in
    let all : c.loop-done.done ≡ length c.args.bytes.now = omega arith in
    subst (λ (z : ℕ). Always (view c.loop-done.pass) (AreBytesIn c.args.number c.args.first c.args.bytes.now z)) all
    c.loop-done.invariant.are
