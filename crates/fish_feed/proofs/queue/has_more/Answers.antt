-- What is left of one more queue.
use Rattle.std.proofs.Common.{rules, ◌≡◌, ◌+◌, ◌<◌, ◌≤◌, ◌++◌, ◌∷◌, ◌∙◌, [], None, ap, arith, length, sym, subst, take}
use Rattle.std.proofs.lemmas.List.{take_all, take_more}
use Rattle.std.specs.Prelude.{IsSome}
use Rattle.fish_feed.proofs.Giving.{left_at, left_none, left_open, left_push, left_todo, nones_left}
use Rattle.fish_feed.specs.Queues.{left_of, left_of_all}
use Rattle.fish_feed.specs.declared.queue.Queue.{Queue}
use Rattle.fish_feed.proofs.queue.has_more.Goals as goal
use Rattle.fish_feed.proofs.queue.has_more.Goals.{then-is_some-via-then-is_some, then-is_some-via-else-is_some+then-len-gt0}

pub returns-then-is_some-clause-some : goal.returns-then-is_some-clause-some
returns-then-is_some-clause-some g c = λ is.
    let queues = c.args.queues.now in
    let i = c.loop-queue.queue-index in
    let q = c.queue-item.result in
    let least : left_of q ≤ left_of_all queues =
    subst (λ (z : Queue g.row.F.Denot). left_of z ≤ left_of_all queues) (sym c.queue-item.is)
    (left_at queues i q c.loop-queue-test.true) in
    let here : 0 < left_of q = elim c.then-is_some.branch [
      | then-is_some-via-then-is_some w ↦ left_open q.current q.todos.items (let some : IsSome q.current = search rules in some)
      | then-is_some-via-else-is_some+then-len-gt0 w ↦ left_todo q.current q.todos.items
          (let some : 0 < length q.todos.items = search rules in some)
    ] in
    omega (least, here, arith)

pub loop-queue-preserved : goal.loop-queue-preserved
loop-queue-preserved g c =
    let queues = c.args.queues.now in
    let i = c.loop-queue.queue-index in
    let q = c.queue-item.result in
    let none : q.current ≡ None = search rules in
    let few : length q.todos.items ≡ 0 = search rules in
    let here : left_of q ≡ 0 = left_none q.current q.todos.items none few in
    let before : left_of_all (take i queues) ≡ 0 = c.loop-queue.invariant in
    let next : take (i + 1) queues ≡ take i queues ++ q ∷ [] = take_more queues i q c.loop-queue-test.true
    ∙ ap (λ (z : Queue g.row.F.Denot). take i queues ++ z ∷ []) (sym c.queue-item.is) in
    let sum : left_of_all (take i queues ++ q ∷ []) ≡ left_of_all (take i queues) + left_of q = left_push (take i queues) q in
    let all : left_of_all (take i queues ++ q ∷ []) ≡ 0 = omega (sum, before, here, arith) in
    ap left_of_all next ∙ all

pub returns-clause-none : goal.returns-clause-none
returns-clause-none g c = λ is texts given told h.
    let queues = c.args.queues.now in
    let test = c.loop-queue-test.false in
    let all : take c.loop-queue.queue-index queues ≡ queues = take_all c.loop-queue.queue-index queues test in
    nones_left g.F.Source.left told queues (ap left_of_all (sym all) ∙ c.loop-queue.invariant) texts given h
