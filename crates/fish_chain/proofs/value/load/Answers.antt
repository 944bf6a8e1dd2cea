-- What is read of a record's region stands there in every later moment.
use Rattle.std.proofs.Common.{◌≡◌, ℕ, ◌+◌, ◌*◌, sym, subst}
use Rattle.fish_chain.proofs.Values.{word_read}
use Rattle.fish_chain.specs.within.Values.{IsWordIn}
use Rattle.fish_rule.proofs.laws.Learning.{extends_to_read, read_here}
use Rattle.fish_rule.specs.Passes.{view}
use Rattle.fish_rule.specs.ChainFacts.{Always}
use Rattle.fish_chain.proofs.value.load.Goals as goal

pub returns-clause-word : goal.returns-clause-word
returns-clause-word g c =
    let t = c.requires.read in
    let v = view c.args.pass.now in
    let u = view c.read_word.new.pass in
    let f = t.0 in
    let can = t.1 in
    let told = c.read_word.ensures.view in
    let place = subst (λ (z : ℕ). u ≡ Rattle.fish_rule.specs.LoadSteps.after_read_word v (z * 4 + c.args.offset) c.read_word.result)
    (sym t.2) told in
    let learns = (extends_to_read v u _ _ place).learns in
    subst (λ (z : ℕ). Always u (IsWordIn z c.args.offset c.read_word.result)) t.3
    (word_read u f c.args.offset c.read_word.result (learns.found f can.found) can.words can.inside (read_here v u _ _ place))

pub returns-clause-known : goal.returns-clause-known
returns-clause-known g c =
    read_here (view c.args.pass.now) (view c.read_word.new.pass) _ _ c.read_word.ensures.view
