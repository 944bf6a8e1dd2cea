-- Queues of lanes of which nothing was given.
use Rattle.std.proofs.Common.{◌≡◌, ◌<◌, ℕ, zero, suc, List, [], ◌∷◌, true, false, Option, Some, arith, length, slice_get, subst}
use Rattle.fish_feed.proofs.Fit.{is_first}
use Rattle.fish_feed.proofs.Queues.{queue_later}
use Rattle.fish_feed.specs.Queues.{IsQueue}
use Rattle.fish_script.specs.Laws.{Pairs}
use Rattle.fish_feed.specs.declared.queue.Queue.{Queue}
use Rattle.fish_outside.specs.Content.{Files, SameFiles}
use Rattle.fish_script.specs.Script.{AreFree, is_control}
use Rattle.fish_script.specs.declared.script.Statement.{Statement}

abbrev pub AreOpened : {F : Type 0} → Option Files → (F → Option (List ℕ)) → List (List Statement) → List (Queue F) → Type 0
AreOpened told left texts queues = Pairs (λ ss q. IsQueue told left ss [] q) texts queues

module _ {F : Type 0} (left : F → Option (List ℕ)) where
  pub opened_later : (old new : Option Files) → SameFiles old new → (texts : List (List Statement)) (queues : List (Queue F))
      → AreOpened old left texts queues → AreOpened new left texts queues
  opened_later old new still [] [] h = tt
  opened_later old new still [] (q ∷ queues) h = elim h [ ]
  opened_later old new still (ss ∷ texts) [] h = elim h [ ]
  opened_later old new still (ss ∷ texts) (q ∷ queues) h =
      (queue_later left old new still ss [] q.current q.todos.items h.0, opened_later old new still texts queues h.1)

-- a statement of free ones is free
pub free_at : (ss : List Statement) (i : ℕ) (s : Statement) → slice_get ss i ≡ Some s → AreFree ss → is_control s ≡ false
free_at [] i s at free = absurd cc
free_at (x ∷ ss) zero s at free = subst (λ (z : Statement). is_control z ≡ false) (let e : x ≡ s = cc in e) free.0
free_at (x ∷ ss) (suc i) s at free = free_at ss i s at free.1

-- where it isn't the first, there were some
pub some_before : {A : Type 0} (xs : List A) → is_first true xs ≡ false → 0 < length xs
some_before [] is = absurd (let bad : true ≡ false = is in cc)
some_before (x ∷ xs) is = omega arith
