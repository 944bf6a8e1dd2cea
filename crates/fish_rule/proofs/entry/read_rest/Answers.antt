-- Each turn reads the next word, and puts it after the others.
use Rattle.std.proofs.Common.{◌≡◌, ℕ, ◌+◌, ◌-◌, ◌*◌, suc, List, sym, ap, ◌∙◌, subst, arith}
use Rattle.fish_rule.proofs.laws.Learning.{extends_both, extends_to_read, read_here}
use Rattle.fish_rule.proofs.basics.RegionWords.{AreMore, can_read_later, more_one}
use Rattle.fish_rule.proofs.basics.Context.{Among, View, view}
use Rattle.fish_rule.proofs.entry.read_rest.Goals as goal

pub read_word-requires-clause-view : goal.read_word-requires-clause-view
read_word-requires-clause-view c =
    let f = c.requires.read in
    let can = f.2 c.loop-offset.offset c.loop-offset.auto.offset c.loop-offset-test.true in
    (f.0, can_read_later _ _ f.0 c.loop-offset.offset c.loop-offset.invariant.extends can, f.1)

pub loop-offset-preserved : goal.loop-offset-preserved
loop-offset-preserved c =
    let inv = c.loop-offset.invariant in
    let v = view c.loop-offset.pass in
    let u = view c.read_word.new.pass in
    let n : ℕ = c.loop-offset.offset in
    let from = c.loop-offset.auto.offset in
    let x : ℕ = c.read_word.result in
    let told = c.read_word.ensures.view in
    let extends = extends_to_read v u _ x told in
    let place : c.args.line * 4 + n ≡ c.args.line * 4 + (c.args.from + (n - c.args.from)) = omega arith in
    let here = subst (λ (z : ℕ). Among (record { place = z; value = x }) u.learned.known) place (read_here v u _ x told) in
    let next : suc (n - c.args.from) ≡ (n + 1) - c.args.from = omega arith in
    let loaded = ap (λ (z : View). z.clock.loads) told in
    let counted = inv.counted in
    record {
      of = c.read_word.ensures.pass;
      extends = extends_both _ _ _ inv.extends extends;
      room = c.push_reserved.ensures.capacity ∙ inv.room;
      more = subst (λ (z : ℕ × List ℕ). AreMore u c.args.line c.args.from z.0 c.args.words.now.items z.1)
          (λ i. (next i, sym c.push_reserved.ensures.items i))
          (more_one v u c.args.line c.args.from (n - c.args.from) x _ _ extends inv.more here);
      counted = omega arith;
    }
