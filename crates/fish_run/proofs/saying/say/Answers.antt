-- The last item takes over the first one, or all stay.
use Rattle.std.proofs.Common.{◌≡◌, ◌∙◌, Bool, ap, rules, sym, true}
use Rattle.std.proofs.lemmas.Result.{on_ok_weaker}
use Rattle.fish_lanes.specs.Controlling.{bound_items}
use Rattle.fish_run.specs.Joins.{said_after}
use Rattle.fish_run.proofs.saying.say.Goals as goal

pub returns-in-Ok-Some : goal.returns-in-Ok-Some
returns-in-Ok-Some c =
    let a = c.args in
    let goes : a.goes ≡ true = search rules in
    let took = rw c.in-Ok-Some.field-0-is at c.in-Ok-Some.ensures in
    on_ok_weaker c.say_joined.result
    (λ is. is ∙ sym (took a.fresh (bound_items a.bound) a.items)
    ∙ ap (λ (z : Bool). said_after a.fresh z a.said.now (bound_items a.bound) a.items) (sym goes)) c.say_joined.ensures

pub returns-in-Ok-None : goal.returns-in-Ok-None
returns-in-Ok-None c =
    let a = c.args in
    let goes : a.goes ≡ true = search rules in
    let took = rw c.in-Ok-None.field-0-is at c.in-Ok-None.ensures in
    on_ok_weaker c.say_apart-in-Ok-None.result
    (λ is. is ∙ sym (took a.fresh (bound_items a.bound) a.items)
    ∙ ap (λ (z : Bool). said_after a.fresh z a.said.now (bound_items a.bound) a.items) (sym goes)) c.say_apart-in-Ok-None.ensures
