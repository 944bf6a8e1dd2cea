-- Queues whose files were read on are to give what they were to give before.
use Rattle.std.proofs.Common.{◌≡◌, ◌<◌, ℕ, zero, suc, List, [], ◌∷◌, Bool, Option, None, Some, length, slice_index_or, arith}
use Rattle.std.proofs.Common.{ap, refl, sym, subst}
use Rattle.std.specs.Prelude.{IfSome}
use Rattle.fish_feed.proofs.Queues.{queue_on}
use Rattle.fish_feed.proofs.Reading.{on_none}
use Rattle.fish_feed.specs.OpenFiles.{CanRead}
use Rattle.fish_feed.specs.Queues.{AreFit, AreFitTodos, HasQueue, IsFitQueue, IsQueue, current_left, left_of, left_of_all, todos_left}
use Rattle.fish_feed.specs.Works.{Triples}
use Rattle.fish_feed.specs.declared.part.OpenFile.{OpenFile}
use Rattle.fish_feed.specs.declared.queue.Queue.{Queue}
use Rattle.fish_feed.specs.declared.queue.Todo.{Todo}
use Rattle.fish_feed.specs.within.Queues.{AreReadOn, FileReadOn, IsReadOn}
use Rattle.fish_lanes.specs.declared.work.Work.{Work}
use Rattle.fish_outside.specs.Content.{Files}
use Rattle.fish_script.specs.declared.script.Statement.{Statement}

module _ {F : Type 0} (left : F → Option (List ℕ)) (faults : F → ℕ) where
  -- ---- one queue

  pub one_queue : (told : Option Files) (ss : List Statement) (given : List Work) (q r : Queue F) → IsReadOn left faults q r
      → IsQueue told left ss given q → IsQueue told left ss given r
  one_queue told ss given q r on h = subst (λ (z : List (Todo F)). HasQueue told left ss given r.current z)
      (ap (λ (z : _). z.items) (sym on.todos_is)) (by q.current r.current on.current h)
    where
      by : (c d : Option (OpenFile F)) → FileReadOn left faults c d → HasQueue told left ss given c q.todos.items
          → HasQueue told left ss given d q.todos.items
      by None d is k = subst (λ (z : Option (OpenFile F)). HasQueue told left ss given z q.todos.items) (sym is) k
      by (Some o) d more k = subst (λ (z : Option (OpenFile F)). HasQueue told left ss given z q.todos.items) (sym more.1)
          (queue_on left told ss given o more.0 q.todos.items k more.2)

  one_fit : (first : Bool) (q r : Queue F) → IsReadOn left faults q r → IsFitQueue faults first q → IsFitQueue faults first r
  one_fit first q r on fit = record {
    current = by q.current r.current on.current fit.current;
    todos = subst (λ (z : List (Todo F)). AreFitTodos faults first z) (ap (λ (z : _). z.items) (sym on.todos_is)) fit.todos;
  }
    where
      by : (c d : Option (OpenFile F)) → FileReadOn left faults c d → IfSome c (CanRead faults) → IfSome d (CanRead faults)
      by None d is can = subst (λ (z : Option (OpenFile F)). IfSome z (CanRead faults)) (sym is) tt
      by (Some o) d more can = subst (λ (z : Option (OpenFile F)). IfSome z (CanRead faults)) (sym more.1) more.3

  one_left : (q r : Queue F) → IsReadOn left faults q r → left_of r ≡ left_of q
  one_left q r on =
      let same : current_left r.current ≡ current_left q.current = by q.current r.current on.current in
      let todos : todos_left r.todos.items ≡ todos_left q.todos.items = ap (λ (z : _). todos_left z.items) on.todos_is in
      omega (same, todos, arith)
    where
      by : (c d : Option (OpenFile F)) → FileReadOn left faults c d → current_left d ≡ current_left c
      by None d is = ap current_left is
      by (Some o) d more = let room = more.2.room_is in let one = ap current_left more.1 in omega (room, one, arith)

  -- ---- each queue

  rest_on : (q r : Queue F) (qs rs : List (Queue F)) → AreReadOn left faults (q ∷ qs) (r ∷ rs) → AreReadOn left faults qs rs
  rest_on q r qs rs on = record {
    many = (let all = on.many in omega (all, arith));
    each = λ i d less. on.each (suc i) d (omega (less, arith));
  }

  first_on : (q r : Queue F) (qs rs : List (Queue F)) → AreReadOn left faults (q ∷ qs) (r ∷ rs) → IsReadOn left faults q r
  first_on q r qs rs on = on.each 0 q (omega arith)

  pub queues_on : (told : Option Files) (old new : List (Queue F)) → AreReadOn left faults old new → (texts : List (List Statement))
      (given : List (List Work)) → Triples (IsQueue told left) texts given old → Triples (IsQueue told left) texts given new
  queues_on told [] [] on texts given h = h
  queues_on told [] (r ∷ rs) on texts given h = absurd (let many = on.many in omega (many, arith))
  queues_on told (q ∷ qs) [] on texts given h = absurd (let many = on.many in omega (many, arith))
  queues_on told (q ∷ qs) (r ∷ rs) on [] [] h = elim h [ ]
  queues_on told (q ∷ qs) (r ∷ rs) on [] (g ∷ given) h = elim h [ ]
  queues_on told (q ∷ qs) (r ∷ rs) on (ss ∷ texts) [] h = elim h [ ]
  queues_on told (q ∷ qs) (r ∷ rs) on (ss ∷ texts) (g ∷ given) h =
      (one_queue told ss g q r (first_on q r qs rs on) h.0, queues_on told qs rs (rest_on q r qs rs on) texts given h.1)

  pub fit_on : (first : Bool) (old new : List (Queue F)) → AreReadOn left faults old new → AreFit faults first old
      → AreFit faults first new
  fit_on first [] [] on h = tt
  fit_on first [] (r ∷ rs) on h = absurd (let many = on.many in omega (many, arith))
  fit_on first (q ∷ qs) [] on h = absurd (let many = on.many in omega (many, arith))
  fit_on first (q ∷ qs) (r ∷ rs) on h =
      (one_fit first q r (first_on q r qs rs on) h.0, fit_on _ qs rs (rest_on q r qs rs on) h.1)

  pub left_on : (old new : List (Queue F)) → AreReadOn left faults old new → left_of_all new ≡ left_of_all old
  left_on [] [] on = omega arith
  left_on [] (r ∷ rs) on = absurd (let many = on.many in omega (many, arith))
  left_on (q ∷ qs) [] on = absurd (let many = on.many in omega (many, arith))
  left_on (q ∷ qs) (r ∷ rs) on =
      let one = one_left q r (first_on q r qs rs on) in
      let more = left_on qs rs (rest_on q r qs rs on) in
      omega (one, more, arith)

-- the file that is being read of one of the queues may be read
pub fit_at : {F : Type 0} (faults : F → ℕ) (first : Bool) (qs : List (Queue F)) → AreFit faults first qs → (i : ℕ) (d : Queue F)
    → i < length qs → IfSome (slice_index_or qs i d).current (CanRead faults)
fit_at faults first [] fit i d less = absurd (omega (less, arith))
fit_at faults first (q ∷ qs) fit zero d less = fit.0.current
fit_at faults first (q ∷ qs) fit (suc i) d less = fit_at faults _ qs fit.1 i d (omega (less, arith))

module _ {F : Type 0} (left : F → Option (List ℕ)) (faults : F → ℕ) where
  one_self : (q : Queue F) → IfSome q.current (CanRead faults) → IsReadOn left faults q q
  one_self q can = record { current = by q.current can; todos_is = refl }
    where
      by : (c : Option (OpenFile F)) → IfSome c (CanRead faults) → FileReadOn left faults c c
      by None can = refl
      by (Some o) can = (o, refl, on_none left o, can)

  -- nothing came of those that stay as they are
  pub self_on : (first : Bool) (qs : List (Queue F)) → AreFit faults first qs → AreReadOn left faults qs qs
  self_on first qs fit = record {
    many = refl;
    each = λ i d less. one_self (slice_index_or qs i d) (fit_at faults first qs fit i d less);
  }
