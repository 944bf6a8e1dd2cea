-- One statement more.
use Rattle.std.proofs.Common.{◌≡◌, ◌+◌, ◌++◌, ◌∷◌, ◌∙◌, [], List, ap, arith, subst, sym, take}
use Rattle.std.proofs.lemmas.List.{take_more}
use Rattle.fish_feed.proofs.Fit.{todos_push}
use Rattle.fish_feed.proofs.Lists.{get_at, pairs_push}
use Rattle.fish_feed.proofs.Opening.{free_at}
use Rattle.fish_feed.proofs.Queues.{dues_later}
use Rattle.fish_feed.specs.Queues.{AreFitTodos, IsDue}
use Rattle.fish_script.specs.Laws.{Pairs}
use Rattle.fish_feed.specs.declared.queue.Todo.{Todo}
use Rattle.fish_outside.proofs.ContentLemmas.{SameFiles_trans}
use Rattle.fish_script.specs.declared.script.Statement.{Statement}
use Rattle.fish_feed.proofs.building.open_lane.Goals as goal

pub loop-statement-preserved : goal.loop-statement-preserved
loop-statement-preserved g c =
    let inv = c.loop-statement.invariant in
    let i = c.loop-statement.statement-index in
    let left = g.H.Feed.Source.left in
    let faults = g.H.Feed.Source.faults in
    let ss = c.args.statements.now in
    let s = c.statement-item.result in
    let todos = c.loop-statement.todos.items in
    let t = c.in-Ok.todo in
    let was = g.H.Host.files c.args.host.now in
    let old = g.H.Host.files c.loop-statement.host in
    let new = g.H.Host.files c.todo_of.new.host in
    let later = inv.later in
    let then = c.todo_of.ensures.cause.later in
    let next : take (i + 1) ss ≡ take i ss ++ s ∷ [] = take_more ss i s c.loop-statement-test.true
    ∙ ap (λ (z : Statement). take i ss ++ z ∷ []) (sym c.statement-item.is) in
    let pushed : c.push_back.new.self.items ≡ todos ++ t ∷ [] = c.in-Ok-push_back.ensures.items in
    let at = get_at ss i s c.loop-statement-test.true c.statement-item.is in
    record {
      todos = subst (λ (z : List Statement × List (Todo g.row.H-Feed.Denot)). Pairs (IsDue new left) z.0 z.1)
          (λ j. (sym next j, sym pushed j))
          (pairs_push (IsDue new left) (take i ss) todos s t
          (dues_later left old new c.todo_of.ensures.content (take i ss) todos inv.todos) c.in-Ok.ensures.due);
      fit = λ first free. subst (λ (z : List (Todo g.row.H-Feed.Denot)). AreFitTodos faults first z) (sym pushed)
          (todos_push faults first todos t (inv.fit first free)
          (c.in-Ok.ensures.fit first (λ no. free_at ss i s at (free no))));
      told = SameFiles_trans was old new inv.told c.todo_of.ensures.content;
      later = omega (later, then, arith);
    }

pub returns-clause-fit : goal.returns-clause-fit
returns-clause-fit g c = λ first free. record { current = tt; todos = c.loop-statement.invariant.fit first free }
