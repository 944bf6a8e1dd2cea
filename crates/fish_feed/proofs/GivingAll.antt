-- What the first lane was given and what the others were, as what all were.
use Rattle.std.proofs.Common.{◌≤◌, ◌++◌, ℕ, List, [], ◌∷◌, Bool, false, Option, arith}
use Rattle.std.proofs.lemmas.Result.{on_err_weaker, on_ok_weaker}
use Rattle.std.specs.Prelude.{Err, Ok, OnErr, OnOk, Result}
use Rattle.std.specs.Result.{result_and}
use Rattle.fish_feed.proofs.Giving.{both_down, cause_after, end_since, queue_may, queue_since, triples_map}
use Rattle.fish_feed.specs.Giving.{GivesWorks}
use Rattle.fish_feed.specs.Queues.{GoesDown, IsFitQueue, IsGiven, IsQueue, MayDoAll, MayEndFeed, both, left_of, left_of_all, works_of}
use Rattle.fish_feed.specs.Works.{Triples}
use Rattle.fish_feed.specs.declared.queue.Queue.{Queue}
use Rattle.fish_lanes.specs.declared.lane.Lane.{Lane}
use Rattle.fish_lanes.specs.declared.work.Work.{Work}
use Rattle.fish_outside.specs.Causes.{Rose}
use Rattle.fish_outside.specs.Content.{Files, SameFiles}
use Rattle.fish_outside.specs.Reading.{HasReadCause}
use Rattle.fish_outside.specs.declared.fault.FeedRefusal.{FeedRefusal}
use Rattle.fish_script.specs.declared.script.Statement.{Statement}

module _ {F : Type 0} (left : F → Option (List ℕ)) where
  -- lanes that were given works, or of which a read failed, may end
  pub gives_may : (faults : F → ℕ) (told new : Option Files) (old now : List (Queue F)) (before lanes : List Lane)
      (r : Result (Unit {0}) FeedRefusal) → GivesWorks left faults told new old now before lanes r → (texts : List (List Statement))
      (given : List (List Work)) → Triples (IsQueue told left) texts given old
      → Triples (MayEndFeed new left) texts (both given (works_of lanes)) now
  gives_may faults told new old now before lanes r gives texts given h = by r gives.given gives.failed
    where
      Due : (List Statement → List Work → Queue F → Type 0) → Type 0
      Due R = (texts : List (List Statement)) (given : List (List Work)) → Triples (IsQueue told left) texts given old
          → Triples R texts (both given (works_of lanes)) now

      by : (r : Result (Unit {0}) FeedRefusal) → OnOk r (Due (IsQueue new left)) → OnErr r (Due (MayEndFeed new left))
          → Triples (MayEndFeed new left) texts (both given (works_of lanes)) now
      by (Ok x) ok err = triples_map (IsQueue new left) (MayEndFeed new left) (λ s z q. queue_may left new s z q) texts
          (both given (works_of lanes)) now (ok texts given h)
      by (Err e) ok err = err texts given h

  module _ (old mid new : Option Files) (first : SameFiles old mid) (then : SameFiles mid new) (q q' : Queue F) (qs qs' : List (Queue F))
    where
      -- the first lane was given works, and the others were
      pub given_all : (y : Lane) (ys : List Lane)
          → ((ss : List Statement) (given : List Work) → IsQueue old left ss given q → IsQueue mid left ss (given ++ y.works) q')
          → ((texts : List (List Statement)) (given : List (List Work)) → Triples (IsQueue mid left) texts given qs
          → Triples (IsQueue new left) texts (both given (works_of ys)) qs')
          → (texts : List (List Statement)) (given : List (List Work)) → Triples (IsQueue old left) texts given (q ∷ qs)
          → Triples (IsQueue new left) texts (both given (works_of (y ∷ ys))) (q' ∷ qs')
      given_all y ys one others [] [] h = elim h [ ]
      given_all y ys one others [] (g ∷ given) h = elim h [ ]
      given_all y ys one others (ss ∷ texts) [] h = elim h [ ]
      given_all y ys one others (ss ∷ texts) (g ∷ given) h = (
        queue_since left mid new then ss (g ++ y.works) q' (one ss g h.0),
        others texts given
            (triples_map (IsQueue old left) (IsQueue mid left) (λ s z x. queue_since left old mid first s z x) texts given qs h.1),
      )

      -- the first was or a read failed, and so of the others
      pub failed_all : (y : Lane) (ys : List Lane)
          → ((ss : List Statement) (given : List Work) → IsQueue old left ss given q → MayEndFeed mid left ss (given ++ y.works) q')
          → ((texts : List (List Statement)) (given : List (List Work)) → Triples (IsQueue mid left) texts given qs
          → Triples (MayEndFeed new left) texts (both given (works_of ys)) qs')
          → (texts : List (List Statement)) (given : List (List Work)) → Triples (IsQueue old left) texts given (q ∷ qs)
          → Triples (MayEndFeed new left) texts (both given (works_of (y ∷ ys))) (q' ∷ qs')
      failed_all y ys one others [] [] h = elim h [ ]
      failed_all y ys one others [] (g ∷ given) h = elim h [ ]
      failed_all y ys one others (ss ∷ texts) [] h = elim h [ ]
      failed_all y ys one others (ss ∷ texts) (g ∷ given) h = (
        end_since left mid new then ss (g ++ y.works) q' (one ss g h.0),
        others texts given
            (triples_map (IsQueue old left) (IsQueue mid left) (λ s z x. queue_since left old mid first s z x) texts given qs h.1),
      )

module _ {F : Type 0} (left : F → Option (List ℕ)) (faults : F → ℕ) (old mid new : Option Files) (then : SameFiles old mid)
    (last : SameFiles mid new) (q r : Queue F) (qs rs : List (Queue F)) (x y : Lane) (xs ys : List Lane) where
  -- what two calls leave, of which the first may have been refused, and the second
  pub gives_all : (one others : Result (Unit {0}) FeedRefusal)
      → OnOk one ((ss : List Statement) (given : List Work) → IsQueue old left ss given q → IsQueue mid left ss (given ++ y.works) r)
      → OnErr one ((ss : List Statement) (given : List Work) → IsQueue old left ss given q → MayEndFeed mid left ss (given ++ y.works) r)
      → IsGiven x y
      → ((first : Bool) → IsFitQueue faults first q → IsFitQueue faults first r × MayDoAll first y.works)
      → OnOk one (GoesDown (left_of q) (left_of r))
      → GivesWorks left faults mid new qs rs xs ys others
      → GivesWorks left faults old new (q ∷ qs) (r ∷ rs) (x ∷ xs) (y ∷ ys) (result_and one others)
  gives_all (Ok z) others given failed got fit less more = record {
    given = on_ok_weaker others (λ all. given_all left old mid new then last q r qs rs y ys given all) more.given;
    failed = on_err_weaker others
        (λ all. failed_all left old mid new then last q r qs rs y ys
        (λ ss before h. queue_may left mid ss (before ++ y.works) r (given ss before h)) all) more.failed;
    got = (got, more.got);
    fit = λ first h. (let here = fit first h.0 in let there = more.fit false h.1 in ((here.0, there.0), (here.1, there.1)));
    less = on_ok_weaker others (λ down. both_down (left_of q) (left_of r) (left_of_all qs) (left_of_all rs) less down) more.less;
  }
  gives_all (Err e) others given failed got fit less more = record {
    given = tt;
    failed = failed_all left old mid new then last q r qs rs y ys failed (gives_may left faults mid new qs rs xs ys others more);
    got = (got, more.got);
    fit = λ first h. (let here = fit first h.0 in let there = more.fit false h.1 in ((here.0, there.0), (here.1, there.1)));
    less = tt;
  }

-- and of the count of faults
pub causes_all : (before mid now : ℕ) (one others : Result (Unit {0}) FeedRefusal) → HasReadCause before mid one
    → HasReadCause mid now others → HasReadCause before now (result_and one others)
causes_all before mid now (Ok z) others h more = cause_after before mid now others h.later more
causes_all before mid now (Err e) others h more = record {
  later = (let here = h.later in let there = more.later in omega (here, there, arith));
  failed = λ is. rose_on before mid now (h.failed is) more.later;
}
  where
    rose_on : (before mid now : ℕ) → Rose before mid → mid ≤ now → Rose before now
    rose_on before mid now rose less = omega (rose, less, arith)
