-- A part of the file that is open was given, or its rest; or a read failed, and the feed went back.
use Rattle.std.proofs.Common.{rules, ◌≡◌, ◌++◌, ◌∷◌, [], None, Option, Some, false, inr, subst, sym, true}
use Rattle.fish_feed.proofs.Queues.{queue_end, queue_part, queue_rest}
use Rattle.fish_feed.specs.Queues.{HasQueue}
use Rattle.fish_feed.proofs.queue.read_open.Goals as goal

pub returns-in-Ok-true-clause-given : goal.returns-in-Ok-true-clause-given
returns-in-Ok-true-clause-given g c = λ ss given h.
    let left = g.H.Feed.Source.left in
    let told = g.H.Host.files c.args.host.now in
    let new = g.H.Host.files c.close_file.new.host in
    let todos = c.args.queue.now.todos.items in
    let o = c.in-Some.file in
    let w = c.in-Ok-true.field-0.work in
    let open_is : c.args.queue.now.current ≡ Some o = search rules in
    let none : c.take.new.self ≡ None = search rules in
    let last : c.in-Ok-true.field-0.last ≡ true = search rules in
    subst (λ (z : Option _). HasQueue new left ss (given ++ w ∷ []) z todos) (sym none)
    (queue_rest left told ss given new c.close_file.ensures.content o c.read_part.new.file w todos
    (subst (λ (z : Option _). HasQueue told left ss given z todos) open_is h) (c.in-Ok-true.ensures.part.rest last)
    c.close_file.ensures.feed)

pub returns-in-Ok-false-clause-given : goal.returns-in-Ok-false-clause-given
returns-in-Ok-false-clause-given g c = λ ss given h.
    let left = g.H.Feed.Source.left in
    let told = g.H.Host.files c.args.host.now in
    let todos = c.args.queue.now.todos.items in
    let o = c.in-Some.file in
    let open_is : c.args.queue.now.current ≡ Some o = search rules in
    let one : c.in-Ok-false.field-0.last ≡ false = search rules in
    queue_part left told ss given o c.read_part.new.file c.in-Ok-false.field-0.work todos
    (subst (λ (z : Option _). HasQueue told left ss given z todos) open_is h) (c.in-Ok-false.ensures.part.one one)

pub returns-in-Err-clause-failed : goal.returns-in-Err-clause-failed
returns-in-Err-clause-failed g c = λ ss given h.
    let left = g.H.Feed.Source.left in
    let told = g.H.Host.files c.args.host.now in
    let new = g.H.Host.files c.close_file-in-Err.new.host in
    let todos = c.args.queue.now.todos.items in
    let o = c.in-Some.file in
    let open_is : c.args.queue.now.current ≡ Some o = search rules in
    let end = queue_end left told ss given new c.close_file-in-Err.ensures.content (Some o) todos
    (subst (λ (z : Option _). HasQueue told left ss given z todos) open_is h)
    (λ some. c.read_part.ensures.content (c.close_file-in-Err.ensures.feed some)) in
    (end.0, inr end.1)
