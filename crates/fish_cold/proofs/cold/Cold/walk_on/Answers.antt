-- The page is what is read, so its words are the file's; what they answer is answered.
use Rattle.std.proofs.Common.{◌≡◌, ◌+◌, ◌/◌, ◌%◌, ◌≤◌, None, sym, subst, arith}
use Rattle.std.specs.Prelude.{IfOk, IfSome}
use Rattle.fish_cold.specs.Answers.{EndsWalk, HasNodeAt, IsLinkable, Walks}
use Rattle.fish_cold.specs.Pages.{page_words}
use Rattle.fish_cold.proofs.Looking.{answered_as, if_some_used, looks_answered}
use Rattle.fish_cold.proofs.cold.Cold.walk_on.Goals as goal

pub returns-in-Ok-clause-node : goal.returns-in-Ok-clause-node
returns-in-Ok-clause-node g c =
    let place = c.args.asked.place in
    if_some_used (g.D.Disk.content c.bring.new.disk) (place / 131072) c.args.self.now c.in-Ok.fresh c.used-held.result.now _
    c.in-Ok.ensures.fresh c.used-held.ensures
    (λ content page_is line p j k read node below lower.
    let words = (page_is read).words in
    let here = c.node_on-found.ensures.node line p j k (subst (λ ws. HasNodeAt ws (place % 131072) line p j k)
    (sym words) node) below lower in
    answered_as (place / 131072) c.in-Ok.fresh c.args.self.now c.answer.new.self c.node_on-found.result c.answer.result
    (Walks place c.args.asked.from p j k) c.answer.ensures here tt)

pub returns-in-Ok-clause-linkable : goal.returns-in-Ok-clause-linkable
returns-in-Ok-clause-linkable g c =
    answered_as (c.args.asked.place / 131072) c.in-Ok.fresh c.args.self.now c.answer.new.self c.node_on-found.result c.answer.result
    (λ r. IfOk r (λ o. IfSome o (IsLinkable c.args.asked.place c.args.asked.below c.args.asked.from))) c.answer.ensures
    c.node_on-found.ensures.linkable tt

pub returns-in-Ok-clause-looks : goal.returns-in-Ok-clause-looks
returns-in-Ok-clause-looks g c =
    let lower = c.requires in
    looks_answered g.D.Disk
    (c.args.asked.place / 131072) c.args.self.now
    c.answer.new.self c.args.disk.now c.bring.new.disk c.in-Ok.fresh c.args.asked.below c.node_on-found.result c.answer.result
    c.used-held.result.now c.in-Ok.ensures (omega arith) c.node_on-found.ensures.damage c.used-held.ensures c.answer.ensures

pub returns-in-Ok-clause-ends : goal.returns-in-Ok-clause-ends
returns-in-Ok-clause-ends g c =
    let place = c.args.asked.place in
    if_some_used (g.D.Disk.content c.bring.new.disk) (place / 131072) c.args.self.now c.in-Ok.fresh c.used-held.result.now _
    c.in-Ok.ensures.fresh c.used-held.ensures
    (λ content page_is read.
    let words = (page_is read).words in
    answered_as (place / 131072) c.in-Ok.fresh c.args.self.now c.answer.new.self c.node_on-found.result c.answer.result
    (EndsWalk (page_words c.args.self.now.base.line (place / 131072) content) (place % 131072) c.args.asked.from) c.answer.ensures
    (subst (λ ws. EndsWalk ws (place % 131072) c.args.asked.from c.node_on-found.result) words c.node_on-found.ensures.ends) tt)

pub returns-in-Ok-clause-none : goal.returns-in-Ok-clause-none
returns-in-Ok-clause-none g c =
    answered_as (c.args.asked.place / 131072) c.in-Ok.fresh c.args.self.now c.answer.new.self c.node_on-found.result c.answer.result
    (λ r. IfOk r (λ o. o ≡ None → c.node_on-found.new.loads ≤ c.args.loads.now + 1)) c.answer.ensures
    c.node_on-found.ensures.none tt
