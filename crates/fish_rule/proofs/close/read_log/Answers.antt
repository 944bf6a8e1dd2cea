-- What was read is what is left, and the pass read on.
use Rattle.std.proofs.Common.{◌≡◌, ◌∙◌, ◌≤◌, ℕ, arith, ap, sym, subst, Some}
use Rattle.fish_rule.proofs.laws.ReadsOn.{heads_later, reads_version, stays_open, to_version}
use Rattle.fish_rule.proofs.laws.ReadSoFar.{read_later}
use Rattle.fish_rule.specs.ClosedLog.{StaysOpen}
use Rattle.fish_rule.specs.within.ClosedLog.{AreSettledHeads}
use Rattle.fish_rule.specs.LoadSteps.{after_load_tail}
use Rattle.fish_rule.specs.Logs.{Extends}
use Rattle.fish_rule.specs.Parts.{RestsAt}
use Rattle.fish_rule.proofs.basics.Context.{Key, View, view}
use Rattle.fish_rule.specs.World.{high, low}
use Rattle.fish_rule.specs.declared.view.Position.{Position}
use Rattle.fish_rule.proofs.close.read_log.Goals as goal

-- it reads on from the tail whose parts the load gave
reads_words : (v t u : View) (x number line : ℕ) → t ≡ after_load_tail v x → number ≡ high x → line ≡ low x
    → v.learned.count ≤ number → RestsAt number line v.tail → Extends t u → StaysOpen v u
reads_words v t u x number line loaded number_is line_is counted rests extends =
    stays_open v t u x loaded (omega arith) (subst (λ (z : ℕ × ℕ). RestsAt z.0 z.1 v.tail)
    (λ i. (number_is i, line_is i)) rests) extends

pub returns-in-Err-clause-stays : goal.returns-in-Err-clause-stays
returns-in-Err-clause-stays c =
    let x = c.load_tail-tail.ensures.view in
    reads_words _ _ _ x.0 _ _ x.1 x.2 x.3 c.load_tail-tail.ensures.counted
    (c.load_tail-tail.ensures.rests c.requires.alone.control c.requires.alone.all) c.read_words.ensures.extends

pub returns-in-Err-clause-on : goal.returns-in-Err-clause-on
returns-in-Err-clause-on c = (returns-in-Err-clause-stays c).on

pub returns-in-Ok-clause-on : goal.returns-in-Ok-clause-on
returns-in-Ok-clause-on c =
    let x = c.load_tail-tail.ensures.view in
    let stays = reads_words _ _ _ x.0 _ _ x.1 x.2 x.3 c.load_tail-tail.ensures.counted
    (c.load_tail-tail.ensures.rests c.requires.alone.control c.requires.alone.all) c.read_words.ensures.extends in
    reads_version (view c.args.control.now) (view c.read_words.new.control) (view c.load_version-version.new.pass)
    c.load_version-version.result stays.on c.load_version-version.ensures.view c.load_version-version.ensures.rises

pub returns-in-Ok-clause-whole : goal.returns-in-Ok-clause-whole
returns-in-Ok-clause-whole c =
    let u = view c.read_words.new.control in
    let w = view c.load_version-version.new.pass in
    let y : ℕ = c.load_version-version.result in
    let tail : Position = c.load_tail-tail.result in
    let x = c.load_tail-tail.ensures.view in
    let learns = to_version u w y c.load_version-version.ensures.view c.load_version-version.ensures.rises in
    let about : w.about ≡ c.args.log.now.key = c.load_version-version.ensures.pass.about in
    let heads = c.in-Ok.ensures.heads in
    let at : Some (record { number = high x.0; line = low x.0 }) ≡ Some tail =
    λ i. Some (record { number = sym x.2 i; line = sym x.3 i }) in
    record {
      tail = tail;
      rests = ap (λ (z : View). z.tail) c.load_version-version.ensures.view
          ∙ ap (λ (z : View). z.tail) c.read_words.ensures.extends.frame ∙ ap (λ (z : View). z.tail) x.1 ∙ at;
      read = read_later u w tail.number tail.line c.read_words.new.read learns c.in-Ok.ensures.read;
      settled = heads.0;
      far = heads.1;
      heads = subst (λ (k : Key). AreSettledHeads w heads.0 k.buckets c.read_words.new.heads) (sym about)
          (heads_later u w heads.0 c.args.log.now.key.buckets c.read_words.new.heads learns heads.2);
      version = sym (ap (λ (z : View). z.learned.version) c.load_version-version.ensures.view);
    }
