-- Lanes and what they are given, over files that are still told.
use Rattle.std.proofs.Common.{◌≡◌, ℕ, zero, suc, ◌+◌, ◌<◌, ◌≤◌, List, [], ◌∷◌, length, refl, sym, ◌∙◌, subst, arith}
use Rattle.std.proofs.Common.{All, None, Option, Some, append-nil, false, inl, slice_get, true}
use Rattle.std.specs.Prelude.{Err, Ok, OnErr, OnOk, Result}
use Rattle.fish_feed.proofs.Queues.{dones_later}
use Rattle.fish_feed.specs.Queues.{AreIdle, IsGiven, IsQueue, LanesMayDo, MayDoAll, MayEndFeed}
use Rattle.fish_feed.specs.Works.{AreStatementsDone, Triples}
use Rattle.fish_script.specs.Laws.{Pairs}
use Rattle.fish_feed.specs.declared.queue.Queue.{Queue}
use Rattle.fish_lanes.specs.Blocks.{AreLanes, IsNewLane}
use Rattle.fish_lanes.specs.Registering.{IsAcceptable}
use Rattle.fish_lanes.specs.Running.{IsShared}
use Rattle.fish_lanes.specs.declared.lane.Lane.{Lane}
use Rattle.fish_lanes.specs.declared.work.Work.{Work}
use Rattle.fish_outside.specs.Content.{Files, SameFiles}
use Rattle.fish_feed.proofs.Lists.{pairs_at, pairs_length, pairs_map}
use Rattle.fish_run.specs.within.Parts.{AreNewLanes, AreUngiven}
use Rattle.fish_script.specs.declared.script.Statement.{Statement}

-- ---- files

pub still_both : (a b c : Option Files) → SameFiles a b → SameFiles b c → SameFiles a c
still_both a b None p q = tt
still_both a None (Some files) p q = absurd (let bad : None ≡ Some files = q in cc)
still_both a (Some before) (Some files) p q = p ∙ q

pub still_self : (a : Option Files) → SameFiles a a
still_self None = tt
still_self (Some files) = refl

-- what did statements over files that were told did so over those that still are
pub done_later : (old new : Option Files) → SameFiles old new → (texts : List (List Statement)) (given : List (List Work))
    → Pairs (AreStatementsDone old) texts given → Pairs (AreStatementsDone new) texts given
done_later old new still texts given h =
    pairs_map (AreStatementsDone old) (AreStatementsDone new) (λ ss ws k. dones_later old new still ss ws k) texts given h

-- ---- queues

module _ {F : Type 0} (left : F → Option (List ℕ)) where
  -- what a queue was given may be all that it gives
  pub may_all : (told : Option Files) (texts : List (List Statement)) (given : List (List Work)) (queues : List (Queue F))
      → Triples (IsQueue told left) texts given queues → Triples (MayEndFeed told left) texts given queues
  may_all told [] [] [] h = tt
  may_all told [] [] (q ∷ queues) h = elim h [ ]
  may_all told [] (ws ∷ given) queues h = elim h [ ]
  may_all told (ss ∷ texts) [] queues h = elim h [ ]
  may_all told (ss ∷ texts) (ws ∷ given) [] h = elim h [ ]
  may_all told (ss ∷ texts) (ws ∷ given) (q ∷ queues) h = (
    ([], inl (subst (λ (z : List Work). IsQueue told left ss z q) (sym (append-nil ws)) h.0)),
    may_all told texts given queues h.1,
  )

  -- the same once more was given, also where a file couldn't be read
  pub may_given : {E : Type 0} (told : Option Files) (texts : List (List Statement)) (given : List (List Work)) (queues : List (Queue F))
      (r : Result (Unit {0}) E) → OnOk r (Triples (IsQueue told left) texts given queues)
      → OnErr r (Triples (MayEndFeed told left) texts given queues) → Triples (MayEndFeed told left) texts given queues
  may_given told texts given queues (Ok x) ok failed = may_all told texts given queues ok
  may_given told texts given queues (Err e) ok failed = failed

  -- before anything was given
  pub ungiven : (told : Option Files) (texts : List (List Statement)) (given : List (List Work)) (queues : List (Queue F))
      → length given ≡ length queues → ((i : ℕ) (ws : List Work) → slice_get given i ≡ Some ws → ws ≡ [])
      → AreUngiven told left texts queues → Triples (IsQueue told left) texts given queues
  ungiven told [] [] [] many none h = tt
  ungiven told [] (ws ∷ given) [] many none h = absurd (omega (many, arith))
  ungiven told [] given (q ∷ queues) many none h = elim h [ ]
  ungiven told (ss ∷ texts) given [] many none h = elim h [ ]
  ungiven told (ss ∷ texts) [] (q ∷ queues) many none h = absurd (omega (many, arith))
  ungiven told (ss ∷ texts) (ws ∷ given) (q ∷ queues) many none h = (
    subst (λ (z : List Work). IsQueue told left ss z q) (sym (none 0 ws refl)) h.0,
    ungiven told texts given queues (omega (many, arith)) (λ i z at. none (suc i) z at) h.1,
  )

-- ---- lanes that a block may run

all_acceptable : (ws : List Work) → MayDoAll true ws → All IsAcceptable ws
all_acceptable [] h i d less = absurd (omega arith)
all_acceptable (w ∷ ws) h zero d less = h.0
all_acceptable (w ∷ ws) h (suc i) d less = all_acceptable ws h.1 i d (omega arith)

all_shared : (ws : List Work) → MayDoAll false ws → All IsShared ws
all_shared [] h i d less = absurd (omega arith)
all_shared (w ∷ ws) h zero d less = h.0
all_shared (w ∷ ws) h (suc i) d less = all_shared ws h.1 i d (omega arith)

acceptable_first : (lanes : List Lane) → LanesMayDo true lanes → (x : Lane) → slice_get lanes 0 ≡ Some x → All IsAcceptable x.works
acceptable_first [] h x at = absurd cc
acceptable_first (y ∷ lanes) h x at = subst (λ (z : Lane). All IsAcceptable z.works) (let e : y ≡ x = cc in e) (all_acceptable y.works h.0)

shared_at : (lanes : List Lane) → LanesMayDo false lanes → (i : ℕ) (x : Lane) → slice_get lanes i ≡ Some x → All IsShared x.works
shared_at [] h i x at = absurd cc
shared_at (y ∷ lanes) h zero x at = subst (λ (z : Lane). All IsShared z.works) (let e : y ≡ x = cc in e) (all_shared y.works h.0)
shared_at (y ∷ lanes) h (suc i) x at = shared_at lanes h.1 i x at

shared_after : (lanes : List Lane) → LanesMayDo true lanes → (i : ℕ) (x : Lane) → 0 < i → slice_get lanes i ≡ Some x
    → All IsShared x.works
shared_after [] h i x above at = absurd cc
shared_after (y ∷ lanes) h zero x above at = absurd (omega arith)
shared_after (y ∷ lanes) h (suc i) x above at = shared_at lanes h.1 i x at

-- lanes that were given statements, which they may do, may run
pub lanes_given : (old new : List Lane) → AreLanes old → Pairs IsGiven old new → LanesMayDo true new → AreLanes new
lanes_given old new are given may =
    let many = pairs_length IsGiven old new given in
    let some_ = are.some in
    let few_ = are.few in
    record {
      some = omega arith;
      few = omega arith;
      new = λ i y at.
          let o = pairs_at IsGiven old new i y given at in
          subst (IsNewLane (i + 1)) (sym o.2.is) (record {
            number_is = (are.new i o.0 o.1).number_is;
            empty = (are.new i o.0 o.1).empty;
            nothing_left = (are.new i o.0 o.1).nothing_left;
          });
      acceptable = λ x at. acceptable_first new may x at;
      shared = λ i x above at. shared_after new may i x above at;
    }

-- so may lanes with no statement
pub lanes_new : (count : ℕ) (lanes : List Lane) → AreNewLanes count lanes → 1 ≤ count → count ≤ 16 → AreLanes lanes
lanes_new count lanes h some few =
    let many = h.many in
    record {
      some = omega arith;
      few = omega arith;
      new = λ i x at. (h.new i x at).0;
      acceptable = λ x at. subst (All IsAcceptable) (sym (h.new 0 x at).1) (λ i d less. absurd (omega (less, arith)));
      shared = λ i x above at. subst (All IsShared) (sym (h.new i x at).1) (λ j d less. absurd (omega (less, arith)));
    }

pub idle_new : (lanes : List Lane) → ((i : ℕ) (x : Lane) → slice_get lanes i ≡ Some x → x.works ≡ []) → AreIdle lanes
idle_new [] h = tt
idle_new (x ∷ lanes) h = (h 0 x refl, idle_new lanes (λ i y at. h (suc i) y at))
