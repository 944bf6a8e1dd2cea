-- Works that a lane may do, and queues of them.
use Rattle.std.proofs.Common.{◌≡◌, ◌⊎◌, ℕ, List, [], ◌∷◌, ◌++◌, append_assoc, inl, inr, refl, sym, ap, ◌∙◌, subst}
use Rattle.std.proofs.Common.{Bool, false, Option, None, Some, ◌+◌, ◌<◌, arith}
use Rattle.std.specs.Prelude.{Err, IfErr, IfOk, IsErr, Ok, Result, option_to_list}
use Rattle.fish_feed.specs.Queues.{AreFit, AreFitTodos, IsFitQueue, IsFitTodo, IsQueue, MayDo, MayDoAll, MayEndFeed}
use Rattle.fish_feed.specs.Works.{AreAnew, AreAnewAfterFirst, IsAnew, StoresNone, bytes_in_work, bytes_in_works}
use Rattle.fish_feed.specs.declared.queue.Queue.{Queue}
use Rattle.fish_feed.specs.declared.queue.Todo.{Todo}
use Rattle.fish_lanes.specs.declared.work.Work.{Work}
use Rattle.fish_lanes.specs.declared.work.Work.TheVariants as work
use Rattle.fish_lines.specs.declared.resuming.Begin.TheVariants.{After}
use Rattle.fish_outside.specs.Content.{Files}
use Rattle.fish_script.specs.declared.script.Statement.{Statement}

pub may_push : (first : Bool) (ws : List Work) (w : Work) → MayDoAll first ws → MayDo first w → MayDoAll first (ws ++ w ∷ [])
may_push first [] w h one = (one, tt)
may_push first (x ∷ ws) w h one = (h.0, may_push first ws w h.1 one)

-- and is no part of a file
pub stores_anew : (w : Work) → StoresNone w → IsAnew w
stores_anew w h = λ form name file. h form After name file

pub stores_bytes : (w : Work) → StoresNone w → bytes_in_work w ≡ 0
stores_bytes (work.Register name def) h = refl
stores_bytes (work.Deregister name) h = refl
stores_bytes (work.Ingest form begin name file) h = absurd (h form begin name file refl)
stores_bytes (work.Scan ask) h = refl
stores_bytes (work.Explain ask) h = refl
stores_bytes work.Checkpoint h = refl

pub anew_push : (ws : List Work) (w : Work) → AreAnew ws → IsAnew w → AreAnew (ws ++ w ∷ [])
anew_push [] w h one = (one, tt)
anew_push (x ∷ ws) w h one = (h.0, anew_push ws w h.1 one)

-- the bytes of one more
pub bytes_push : (ws : List Work) (w : Work) → bytes_in_works (ws ++ w ∷ []) ≡ bytes_in_works ws + bytes_in_work w
bytes_push [] w = omega arith
bytes_push (x ∷ ws) w = (let more = bytes_push ws w in omega (more, arith))

-- one more, where there was none or it begins anew
pub anew_more : (ws : List Work) (w : Work) → AreAnewAfterFirst ws → (ws ≡ []) ⊎ IsAnew w → AreAnewAfterFirst (ws ++ w ∷ [])
anew_more [] w h one = tt
anew_more (x ∷ ws) w h (inl none) = absurd (let bad : x ∷ ws ≡ [] = none in cc)
anew_more (x ∷ ws) w h (inr one) = anew_push ws w h one

-- where something may still be given, nothing was, or no file is being read
pub first_or_anew : {X : Type 0} (most : ℕ) (works : List Work) (current : Option X) (A : Type 0) → 0 < most
    → (current ≡ None → A) → (works ≡ []) ⊎ ((most ≡ 0) ⊎ (current ≡ None)) → (works ≡ []) ⊎ A
first_or_anew most works current A some anew (inl none) = inl none
first_or_anew most works current A some anew (inr (inl zero_)) = absurd (omega (some, zero_, arith))
first_or_anew most works current A some anew (inr (inr none)) = inr (anew none)

pub none_or_full : {X : Type 0} (current : Option X) (most : ℕ) → ((x : X) → current ≡ Some x → most ≡ 0)
    → (most ≡ 0) ⊎ (current ≡ None)
none_or_full None most full = inr refl
none_or_full (Some x) most full = inl (full x refl)

-- a work that was taken is given after the others
pub given_more : (given works more : List Work) (found : Option Work) (w : Work) → found ≡ Some w → more ≡ works ++ w ∷ []
    → (given ++ works) ++ option_to_list found ≡ given ++ more
given_more given works more found w is pushed = ap (λ (z : Option Work). (given ++ works) ++ option_to_list z) is
    ∙ append_assoc given works (w ∷ []) ∙ ap (λ (z : List Work). given ++ z) (sym pushed)

-- whether one more is the first
abbrev pub is_first : {A : Type 0} → Bool → List A → Bool
is_first first [] = first
is_first first (x ∷ xs) = false

never_first : {A : Type 0} (xs : List A) → is_first false xs ≡ false
never_first [] = refl
never_first (x ∷ xs) = refl

module _ {F : Type 0} (faults : F → ℕ) where
  pub todos_push : (first : Bool) (ts : List (Todo F)) (t : Todo F) → AreFitTodos faults first ts → IsFitTodo faults first t
      → AreFitTodos faults first (ts ++ t ∷ [])
  todos_push first [] t h one = (one, tt)
  todos_push first (x ∷ ts) t h one = (h.0, todos_push first ts t h.1 one)

  -- a queue more, which is the first one or another
  pub fit_push : (first : Bool) (qs : List (Queue F)) (q : Queue F) → AreFit faults first qs → IsFitQueue faults (is_first first qs) q
      → AreFit faults first (qs ++ q ∷ [])
  fit_push first [] q h one = (one, tt)
  fit_push first (x ∷ qs) q h one = (h.0, fit_push false qs q h.1 (subst (λ (b : Bool). IsFitQueue faults b q) (sym (never_first qs)) one))

module _ {F : Type 0} (told : Option Files) (left : F → Option (List ℕ)) (ss : List Statement) (given : List Work) (q : Queue F) where
  -- these works may be lost
  pub may_queue : (ws : List Work) → IsQueue told left ss (given ++ ws) q → MayEndFeed told left ss given q
  may_queue ws h = (ws, inl h)

-- ---- results

-- what is so in any case is so where there is an error
pub if_err : {T E : Type 0} (r : Result T E) (P : Type 0) → P → IfErr r (λ _. P)
if_err (Ok x) P h = tt
if_err (Err e) P h = h

-- what is asked where there is none, where there is one
pub if_ok : {T E : Type 0} (r : Result T E) (P : T → Type 0) → IsErr r → IfOk r P
if_ok (Ok x) P bad = absurd cc
if_ok (Err e) P bad = tt
