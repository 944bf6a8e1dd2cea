-- What was read may be settled, and stays read.
use Rattle.std.proofs.Common.{◌≡◌, ◌≤◌, ⊎_elim, arith, ap, sym, subst}
use Rattle.fish_rule.proofs.laws.ReadsOn.{extends_raise}
use Rattle.fish_rule.proofs.laws.ReadSoFar.{read_later, settles_read}
use Rattle.fish_rule.proofs.laws.Learning.{extends_both, learns_both}
use Rattle.std.proofs.lemmas.Result.{on_ok_weaker}
use Rattle.fish_rule.specs.Logs.{Extends, Learns}
use Rattle.fish_rule.proofs.basics.Context.{Key, view}
use Rattle.fish_rule.specs.LoadSteps.{CanRaiseSettled}
use Rattle.fish_rule.proofs.close.read_words.Goals as goal

pub raise_settled-requires-clause-view : goal.raise_settled-requires-clause-view
raise_settled-requires-clause-view c =
    let v = view c.all_numbers.new.control in
    let h = c.in_ok-all_numbers.ensures.read in
    let about : v.about.number ≡ c.args.log.now.key.number = ap (λ (z : Key). z.number) c.all_numbers.ensures.pass.about in
    let many = h.upto.many in
    let counted = c.requires.counted in
    let more = c.all_numbers.ensures.extends.learns.count in
    let upto : h.number ≤ c.args.end = ⊎_elim (λ e. let n = e.0 in omega arith) (λ m. let n = m.0 in omega arith) h.ends in
    subst (CanRaiseSettled v) (sym many) (settles_read v h.number c.all_numbers.new.read (omega arith) h.upto)

pub returns-clause-extends : goal.returns-clause-extends
returns-clause-extends c =
    let v = view c.all_numbers.new.control in
    extends_both _ _ _ c.all_numbers.ensures.extends
    (extends_both _ _ _
    (subst (Extends v) (sym c.raise_settled.ensures.view) (extends_raise v _ _ c.raise_settled.ensures.rises))
    c.all_heads.ensures.extends)

pub returns-clause-read : goal.returns-clause-read
returns-clause-read c =
    let v = view c.all_numbers.new.control in
    let learns = learns_both _ _ _
    (subst (Learns v) (sym c.raise_settled.ensures.view) (extends_raise v _ _ c.raise_settled.ensures.rises).learns)
    c.all_heads.ensures.extends.learns in
    on_ok_weaker c.all_heads.result (λ _. read_later v (view c.all_heads.new.control) c.args.end c.args.read.now.lines
    c.all_numbers.new.read learns c.in_ok-all_numbers.ensures.read) c.all_heads.ensures.heads
