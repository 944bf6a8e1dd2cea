-- Lanes that are given statements one after the other, and files that are closed so.
use Rattle.std.proofs.Common.{◌≡◌, ◌<◌, ◌≤◌, ◌+◌, ◌⊎◌, ◌++◌, ℕ, zero, suc, List, [], ◌∷◌, Bool, false, Option, None, Some}
use Rattle.std.proofs.Common.{length, get_or, inl, inr}
use Rattle.std.proofs.Common.{append-nil, append_assoc, refl, sym, ap, ◌∙◌, subst, arith}
use Rattle.std.specs.Prelude.{Err, IfSome, IsErrOf, IsSome, Result}
use Rattle.fish_feed.proofs.Queues.{dones_later, queue_end, queue_later, queue_none}
use Rattle.fish_feed.specs.Queues.{AreIdle, GoesDown, HasQueue, IsGiven, IsQueue, LanesMayDo, MayDoAll, MayEndFeed, both}
use Rattle.fish_feed.specs.Queues.{current_left, left_of, left_of_all, todos_left}
use Rattle.fish_outside.specs.Reading.{HasReadCause}
use Rattle.fish_feed.specs.Parts.{longest_given}
use Rattle.fish_feed.specs.Works.{AreAnewAfterFirst, AreStatementsDone, AreFirstOf, Triples, bytes_in_works}
use Rattle.fish_script.specs.Laws.{Pairs}
use Rattle.fish_feed.specs.declared.part.OpenFile.{OpenFile}
use Rattle.fish_feed.specs.declared.queue.Queue.{Queue}
use Rattle.fish_feed.specs.declared.queue.Todo.{Todo}
use Rattle.fish_feed.specs.declared.queue.Todo.TheVariants as todo
use Rattle.fish_lanes.specs.declared.lane.Lane.{Lane}
use Rattle.fish_lanes.specs.declared.work.Work.{Work}
use Rattle.fish_outside.specs.Causes.{Rose}
use Rattle.fish_outside.specs.Content.{Files, SameFiles}
use Rattle.fish_outside.specs.declared.fault.FeedRefusal.{FeedRefusal}
use Rattle.fish_outside.specs.declared.fault.FeedRefusal.TheVariants.{Failed}
use Rattle.fish_script.specs.declared.script.Statement.{Statement}

-- what is so of each three is so in other words
pub triples_map : {A B C : Type 0} (R S : A → B → C → Type 0) → ((x : A) (y : B) (z : C) → R x y z → S x y z)
    → (xs : List A) (ys : List B) (zs : List C) → Triples R xs ys zs → Triples S xs ys zs
triples_map R S f [] [] [] h = tt
triples_map R S f [] [] (z ∷ zs) h = elim h [ ]
triples_map R S f [] (y ∷ ys) zs h = elim h [ ]
triples_map R S f (x ∷ xs) [] zs h = elim h [ ]
triples_map R S f (x ∷ xs) (y ∷ ys) [] h = elim h [ ]
triples_map R S f (x ∷ xs) (y ∷ ys) (z ∷ zs) h = (f x y z h.0, triples_map R S f xs ys zs h.1)

-- no lanes are given nothing
pub both_none : {A C : Type 0} (R : A → List Work → C → Type 0) (xs : List A) (ys zs : List (List Work)) → Triples R xs ys []
    → Triples R xs (both ys zs) []
both_none R [] [] zs h = tt
both_none R [] (y ∷ ys) zs h = elim h [ ]
both_none R (x ∷ xs) [] zs h = elim h [ ]
both_none R (x ∷ xs) (y ∷ ys) zs h = elim h [ ]

-- two by two of what was three by three, where there is none of the last
pub pairs_none : {A B C : Type 0} (R : A → B → C → Type 0) (S : A → B → Type 0) (xs : List A) (ys : List B) → Triples R xs ys []
    → Pairs S xs ys
pairs_none R S [] [] h = tt
pairs_none R S [] (y ∷ ys) h = elim h [ ]
pairs_none R S (x ∷ xs) [] h = elim h [ ]
pairs_none R S (x ∷ xs) (y ∷ ys) h = elim h [ ]

module _ {F : Type 0} (left : F → Option (List ℕ)) where
  pub queue_since : (old new : Option Files) → SameFiles old new → (ss : List Statement) (given : List Work) (q : Queue F)
      → IsQueue old left ss given q → IsQueue new left ss given q
  queue_since old new still ss given q h = queue_later left old new still ss given q.current q.todos.items h

  pub end_since : (old new : Option Files) → SameFiles old new → (ss : List Statement) (given : List Work) (q : Queue F)
      → MayEndFeed old left ss given q → MayEndFeed new left ss given q
  end_since old new still ss given q h = (h.0, by h.1)
    where
      by : IsQueue old left ss (given ++ h.0) q ⊎ AreStatementsDone old ss (given ++ h.0)
          → IsQueue new left ss (given ++ h.0) q ⊎ AreStatementsDone new ss (given ++ h.0)
      by (inl k) = inl (queue_since old new still ss (given ++ h.0) q k)
      by (inr k) = inr (dones_later old new still ss (given ++ h.0) k)

  -- what is to be given may end
  pub queue_may : (told : Option Files) (ss : List Statement) (given : List Work) (q : Queue F) → IsQueue told left ss given q
      → MayEndFeed told left ss given q
  queue_may told ss given q h = ([], inl (subst (λ (z : List Work). IsQueue told left ss z q) (sym (append-nil given)) h))

  -- the first was closed, and the others were
  pub closed_all : (old mid new : Option Files) → SameFiles old mid → SameFiles mid new → (q : Queue F) (qs : List (Queue F))
      → ((ss : List Statement) (given : List Work) → MayEndFeed old left ss given q → AreFirstOf mid ss given)
      → ((texts : List (List Statement)) (given : List (List Work)) → Triples (MayEndFeed mid left) texts given qs
      → Pairs (AreFirstOf new) texts given)
      → (texts : List (List Statement)) (given : List (List Work)) → Triples (MayEndFeed old left) texts given (q ∷ qs)
      → Pairs (AreFirstOf new) texts given
  closed_all old mid new first then q qs one others [] [] h = elim h [ ]
  closed_all old mid new first then q qs one others [] (g ∷ given) h = elim h [ ]
  closed_all old mid new first then q qs one others (ss ∷ texts) [] h = elim h [ ]
  closed_all old mid new first then q qs one others (ss ∷ texts) (g ∷ given) h =
      let end = one ss g h.0 in (
        (end.0, dones_later mid new then ss (g ++ end.0) end.1),
        others texts given
            (triples_map (MayEndFeed old left) (MayEndFeed mid left) (λ s z x. end_since old mid first s z x) texts given qs h.1),
      )

  -- works may follow, where the feed went back of what was open
  pub first_of_end : (old new : Option Files) → SameFiles old new → (ss : List Statement) (given : List Work) (q : Queue F)
      (c : Option (OpenFile F)) → q.current ≡ c → IfSome c (λ o. IsSome new → IsSome (left o.feed)) → MayEndFeed old left ss given q
      → AreFirstOf new ss given
  first_of_end old new still ss given q c is feed h = by h.1
    where
      by : IsQueue old left ss (given ++ h.0) q ⊎ AreStatementsDone old ss (given ++ h.0) → AreFirstOf new ss given
      by (inl k) =
          let end = queue_end left old ss (given ++ h.0) new still c q.todos.items
          (subst (λ (z : Option (OpenFile F)). HasQueue old left ss (given ++ h.0) z q.todos.items) is k) feed in
          (h.0 ++ end.0, subst (λ (z : List Work). AreStatementsDone new ss z) (append_assoc given h.0 end.0) end.1)
      by (inr k) = (h.0, dones_later old new still ss (given ++ h.0) k)

  -- ---- nothing is left

  none_left : (told : Option Files) (ss : List Statement) (given : List Work) (c : Option (OpenFile F)) (todos : List (Todo F))
      → current_left c + todos_left todos ≡ 0 → HasQueue told left ss given c todos → AreStatementsDone told ss given
  none_left told ss given None [] none h = queue_none left told ss given h
  none_left told ss given None (todo.Work w ∷ todos) none h = absurd (omega (none, arith))
  none_left told ss given None (todo.File o ∷ todos) none h = absurd (omega (none, arith))
  none_left told ss given (Some o) todos none h = absurd (omega (none, arith))

  -- where nothing is left of queues, all statements are done
  pub nones_left : (told : Option Files) (qs : List (Queue F)) → left_of_all qs ≡ 0 → (texts : List (List Statement))
      (given : List (List Work)) → Triples (IsQueue told left) texts given qs → Pairs (AreStatementsDone told) texts given
  nones_left told [] none texts given h = pairs_none (IsQueue told left) (AreStatementsDone told) texts given h
  nones_left told (q ∷ qs) none [] [] h = elim h [ ]
  nones_left told (q ∷ qs) none [] (g ∷ given) h = elim h [ ]
  nones_left told (q ∷ qs) none (ss ∷ texts) [] h = elim h [ ]
  nones_left told (q ∷ qs) none (ss ∷ texts) (g ∷ given) h =
      let here : left_of q ≡ 0 = omega (none, arith) in
      let others : left_of_all qs ≡ 0 = omega (none, arith) in
      (none_left told ss g q.current q.todos.items here h.0, nones_left told qs others texts given h.1)

-- what is left of queues and one more
pub left_push : {F : Type 0} (qs : List (Queue F)) (q : Queue F) → left_of_all (qs ++ q ∷ []) ≡ left_of_all qs + left_of q
left_push [] q = omega arith
left_push (x ∷ qs) q = let more = left_push qs q in omega (more, arith)

-- of one of them no more is left than of all
pub left_at : {F : Type 0} (qs : List (Queue F)) (i : ℕ) (q : Queue F) → i < length qs → left_of (get_or qs i q) ≤ left_of_all qs
left_at [] i q less = absurd (omega (less, arith))
left_at (x ∷ qs) zero q less = omega arith
left_at (x ∷ qs) (suc i) q less = let more = left_at qs i q (omega (less, arith)) in omega (more, arith)

-- something is left where a file is open, or a statement is to be given, and nothing else
pub left_open : {F : Type 0} (c : Option (OpenFile F)) (todos : List (Todo F)) → IsSome c → 0 < current_left c + todos_left todos
left_open None todos some = absurd cc
left_open (Some o) todos some = omega arith

pub left_todo : {F : Type 0} (c : Option (OpenFile F)) (todos : List (Todo F)) → 0 < length todos → 0 < current_left c + todos_left todos
left_todo c [] some = absurd (omega (some, arith))
left_todo c (todo.Work w ∷ todos) some = omega arith
left_todo c (todo.File o ∷ todos) some = omega arith

pub left_none : {F : Type 0} (c : Option (OpenFile F)) (todos : List (Todo F)) → c ≡ None → length todos ≡ 0
    → current_left c + todos_left todos ≡ 0
left_none None [] none few = refl
left_none None (t ∷ todos) none few = absurd (omega (few, arith))
left_none (Some o) todos none few = absurd cc

-- where two go down, so does their sum
pub both_down : (a c b d : ℕ) → GoesDown a c → GoesDown b d → GoesDown (a + b) (c + d)
both_down zero c b d h k = record {
  down = (let one = h.down in let two = k.down in omega (one, two, arith));
  falls = λ some. (let one = h.down in let two = k.falls (omega (some, arith)) in omega (one, two, arith));
}
both_down (suc a) c b d h k = record {
  down = (let one = h.down in let two = k.down in omega (one, two, arith));
  falls = λ some. (let one = h.falls (omega arith) in let two = k.down in omega (one, two, arith));
}

-- ---- lanes

-- one that differs from another in its works alone does so with other works
pub lane_with : (x y : Lane) (ws : List Work) → x ≡ record y { works = x.works } → record x { works = ws } ≡ record y { works = ws }
lane_with x y ws is = ap (λ (z : Lane). record z { works = ws }) is

pub idle_given : (lanes : List Lane) → AreIdle lanes → Pairs IsGiven lanes lanes
idle_given [] h = tt
idle_given (x ∷ lanes) h = (
  record {
    none = h.0;
    is = refl;
    one = subst AreAnewAfterFirst (sym h.0) tt;
    few = subst (λ (ws : List Work). bytes_in_works ws ≤ longest_given) (sym h.0) (omega arith);
  },
  idle_given lanes h.1,
)

pub idle_may : (first : Bool) (lanes : List Lane) → AreIdle lanes → LanesMayDo first lanes
idle_may first [] h = tt
idle_may first (x ∷ lanes) h = (subst (MayDoAll first) (sym h.0) tt, idle_may false lanes h.1)

-- a count that rose since then rose since before
rose_since : (before mid now : ℕ) → before ≤ mid → Rose mid now → Rose before now
rose_since before mid now less rose = omega (less, rose, arith)

-- what a call leaves of the count of faults, after another
pub cause_after : {T : Type 0} (before mid now : ℕ) (r : Result T FeedRefusal) → before ≤ mid → HasReadCause mid now r
    → HasReadCause before now r
cause_after before mid now r less h = record {
  later = let later = h.later in omega (less, later, arith);
  failed = λ is. rose_since before mid now less (h.failed is);
}

pub no_elements : {A : Type 0} (xs : List A) → length xs ≡ 0 → xs ≡ []
no_elements [] is = refl
no_elements (x ∷ xs) is = absurd (omega (is, arith))

-- a refusal that is passed on is the same
pub failed_too : {T : Type 0} (r : Result T FeedRefusal) (e : FeedRefusal) → r ≡ Err e → e ≡ Failed → IsErrOf r Failed
failed_too r e is same = is ∙ ap (λ (z : FeedRefusal). Err z) same
