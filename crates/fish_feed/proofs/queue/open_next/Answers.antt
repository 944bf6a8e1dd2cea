-- The next statement was taken, or the next file is open.
use Rattle.std.proofs.Common.{rules, ◌≡◌, ◌++◌, ◌∷◌, [], List, None, Option, subst, sym}
use Rattle.fish_feed.proofs.Queues.{queue_work}
use Rattle.fish_feed.specs.Queues.{HasQueue}
use Rattle.fish_feed.specs.declared.queue.Todo.TheVariants as todo
use Rattle.fish_feed.proofs.queue.open_next.Goals as goal

pub returns-in-Some-Work-clause-queue : goal.returns-in-Some-Work-clause-queue
returns-in-Some-Work-clause-queue g c = λ told ss given h.
    let left = g.F.Source.left in
    let w = c.in-Some-Work.work in
    let rest = c.pop_front.new.self.items in
    let none : c.args.queue.now.current ≡ None = search rules in
    let all : c.args.queue.now.todos.items ≡ todo.Work w ∷ rest = search rules in
    subst (λ (z : Option _). HasQueue told left ss (given ++ w ∷ []) z rest) (sym none)
    (queue_work left told ss given w rest
    (subst (λ (z : List _). HasQueue told left ss given None z) all
    (subst (λ (z : Option _). HasQueue told left ss given z c.args.queue.now.todos.items) none h)))
