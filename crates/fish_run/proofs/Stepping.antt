-- Lanes between two rounds, one after the other.
use Rattle.std.proofs.Common.{◌≡◌, ◌≢◌, ℕ, zero, suc, ◌+◌, ◌<◌, ◌≤◌, List, [], ◌∷◌, ◌++◌, Bool, true, false, All, append-nil, drop, get_or}
use Rattle.std.proofs.Common.{length, set, take, refl, sym, ap, ◌∙◌, subst, ◌⊎◌, inl, inr, ⊎_elim, arith, None, Option, Some, slice_get}
use Rattle.std.proofs.Common.{◌&&◌}
use Rattle.std.proofs.Math.Decide.{dec_lt}
use Rattle.std.proofs.lemmas.Bool.{lt-ltb, ltb-true}
use Rattle.std.specs.Prelude.{nat_lt}
use Rattle.fish_disk.specs.declared.disk.Disk.{Ghosts as Disks}
use Rattle.fish_feed.specs.Queues.{AreIdle}
use Rattle.fish_feed.specs.Works.{Triples}
use Rattle.fish_script.specs.Laws.{Pairs}
use Rattle.fish_lanes.proofs.Lists.{some_once}
use Rattle.fish_lanes.specs.Blocks.{AreKept, AreLanes, IsKept, IsNewLane}
use Rattle.fish_lanes.specs.Controlling.{bound_items}
use Rattle.fish_lanes.specs.Gains.{WasShut}
use Rattle.fish_lanes.specs.Outcome.{HandsBack, IsFullIn, LeaveNone}
use Rattle.fish_lanes.specs.Registering.{IsAcceptable}
use Rattle.fish_lanes.specs.Running.{IsShared}
use Rattle.fish_lanes.specs.declared.block.Boundary.{Boundary}
use Rattle.fish_lanes.specs.declared.lane.Lane.{Lane}
use Rattle.fish_lanes.specs.declared.work.Work.{Work}
use Rattle.fish_lanes.specs.declared.work.Work.TheVariants as work
use Rattle.fish_lines.specs.declared.resuming.Begin.{Begin}
use Rattle.fish_lines.specs.declared.resuming.Begin.TheVariants.{After}
use Rattle.fish_rule.specs.Passes.{view}
use Rattle.fish_rule.specs.declared.table.Log.{Log}
use Rattle.fish_rule.specs.declared.view.Shut.{Shut}
use Rattle.fish_rule.specs.declared.view.View.{View}
use Rattle.fish_feed.proofs.Lists.{pairs_at, pairs_length, pairs_map}
use Rattle.fish_run.proofs.Lists.{pairs_triples}
use Rattle.fish_run.proofs.Tables.{none_full}
use Rattle.fish_run.proofs.Works.{idle_new}
use Rattle.fish_run.specs.within.Going.{HasNextWorks, HasStepped, StepsLane}
use Rattle.fish_run.specs.within.Turning.{FindNoneFull, IsRenewed, tables_left, unshut, unshut_by}
use Rattle.fish_run.specs.Joins.{goes_on, said_after}
use Rattle.fish_run.specs.Rounds.{GoesOnWith, IsCutFile, IsNextLane, IsRestOfWorks}
use Rattle.fish_run.specs.Works.{AreNumbered, to_do}
use Rattle.fish_run.specs.declared.saying.Said.{Said}
use Rattle.fish_store.specs.declared.store.Store.{Store}
use Rattle.fish_value.specs.declared.field.Form.{Form}

-- the first lane goes on, and the others do
pub stepped_more : (full fresh : Bool) (bound : Option Boundary) (said : List Said) (lanes : List Lane) (s t : Said) (x y : Lane)
    (said' : List Said) (lanes' : List Lane) → 0 < length lanes → length lanes ≡ length said → s ≡ get_or (take 1 said) 0 s
    → x ≡ get_or (take 1 lanes) 0 x → StepsLane full fresh (bound_items bound) s t x y
    → HasStepped full fresh None (drop 1 said) said' (drop 1 lanes) lanes'
    → HasStepped full fresh bound said (set (take 1 said) 0 t ++ said') lanes (set (take 1 lanes) 0 y ++ lanes')
stepped_more full fresh bound said [] s t x y said' lanes' some many at_s at_x one h = absurd (omega arith)
stepped_more full fresh bound [] (a ∷ lanes) s t x y said' lanes' some many at_s at_x one h = absurd (omega arith)
stepped_more full fresh bound (b ∷ said) (a ∷ lanes) s t x y said' lanes' some many at_s at_x one h = record {
  said_are = (λ i. t_is i ∷ h.said_are i);
  next = (subst (λ (z : Lane). GoesOnWith full z (to_do y) × IsNewLane z.number y) at_x (one.next, one.new), h.next);
}
  where
    t_is : t ≡ record { number = b.number; items = said_after fresh (goes_on a.works) b.items (bound_items bound) a.items }
    t_is = one.said ∙ (λ i. record {
      number = (at_s i).number;
      items = said_after fresh (goes_on (at_x i).works) (at_s i).items (bound_items bound) (at_x i).items;
    })

-- a statement list with nothing in it
pub none_left : {A : Type 0} (works : List A) → length works ≡ 0 → works ≡ []
none_left [] is = refl
none_left (w ∷ works) is = absurd (omega arith)

-- what is so of the lanes so far is so of one more
pub left_more : (lanes : List Lane) (n : ℕ) (x : Lane) → slice_get lanes n ≡ Some x → length x.left ≡ 0
    → ((i : ℕ) (y : Lane) → i < n → slice_get lanes i ≡ Some y → y.left ≡ [])
    → (i : ℕ) (y : Lane) → i < n + 1 → slice_get lanes i ≡ Some y → y.left ≡ []
left_more lanes n x at none h i y less is = pick (dec_lt i n)
  where
    pick : Dec (i < n) → y.left ≡ []
    pick (yes before) = h i y before is
    pick (no not_before) =
        let here : i ≡ n = omega arith in
        let same : x ≡ y = some_once x y (sym at ∙ ap (slice_get lanes) (sym here) ∙ is) in
        subst (λ (z : Lane). z.left ≡ []) same (none_left x.left none)

-- ---- lanes for the next round

-- what is so of all is so of the last ones, and of one more before them
all_right : {A : Type 0} (P : A → Type 0) (xs ys : List A) → All P (xs ++ ys) → All P ys
all_right P [] ys h = h
all_right P (x ∷ xs) ys h = all_right P xs ys (λ i d less. h (suc i) d (omega arith))

all_more : {A : Type 0} (P : A → Type 0) (x : A) (xs : List A) → P x → All P xs → All P (x ∷ xs)
all_more P x xs one h zero d less = one
all_more P x xs one h (suc i) d less = h i d (omega arith)

-- and of what a lane goes on with, where it is so of what it handed back and of every file
all_next : (P : Work → Type 0) → ((form : Form) (begin : Begin) (name file : List ℕ) → P (work.Ingest form begin name file))
    → (full : Bool) (x : Lane) (next : List Work) → All P x.left → GoesOnWith full x next → All P next
all_next P one false x next left is = subst (All P) (sym is) left
all_next P one true x next left is = ⊎_elim
    (λ (h : (IsCutFile x → ⊥) × (next ≡ x.left)). subst (All P) (sym h.1) left)
    (λ (r : IsRestOfWorks x next). subst (All P) (sym r.is) (all_more P (work.Ingest r.form After r.name r.rest) x.left
    (one r.form After r.name r.rest) left)) is

-- a lane that hands nothing back is to do what it has
pub new_works : (y : Lane) → y.left ≡ [] → to_do y ≡ y.works
new_works y none = ap (λ (l : List Work). y.works ++ l) none ∙ append-nil y.works

-- lanes that were kept, side by side
pub kept_pairs : (old ran : List Lane) → length ran ≡ length old → AreKept old ran → Pairs IsKept old ran
kept_pairs [] [] same h = tt
kept_pairs [] (y ∷ ran) same h = absurd (omega arith)
kept_pairs (x ∷ old) [] same h = absurd (omega arith)
kept_pairs (x ∷ old) (y ∷ ran) same h = (h 0 x y refl refl, kept_pairs old ran (omega arith) (λ i a b p q. h (suc i) a b p q))

module _ (old ran : List Lane) (are : AreLanes old) (kept : Pairs IsKept old ran) where
  pub ran_numbered : AreNumbered ran
  ran_numbered i x at = let o = pairs_at IsKept old ran i x kept at in o.2.number ∙ (are.new i o.0 o.1).number_is

  module _ (full : Bool) (new : List Lane) (next : Pairs (λ x y. GoesOnWith full x (to_do y) × IsNewLane x.number y) ran new) where
    abbrev Goes : Lane → Lane → Type 0
    Goes x y = GoesOnWith full x (to_do y)

    abbrev Fresh : Lane → Lane → Type 0
    Fresh x y = IsNewLane x.number y

    goes : Pairs Goes ran new
    goes = pairs_map (λ x y. GoesOnWith full x (to_do y) × IsNewLane x.number y) Goes (λ x y h. h.0) ran new next

    fresh : Pairs Fresh ran new
    fresh = pairs_map (λ x y. GoesOnWith full x (to_do y) × IsNewLane x.number y) Fresh (λ x y h. h.1) ran new next

    works_next : (P : Work → Type 0) → ((form : Form) (begin : Begin) (name file : List ℕ) → P (work.Ingest form begin name file))
        → (i : ℕ) (z : Lane) → slice_get new i ≡ Some z → ((x : Lane) → slice_get old i ≡ Some x → All P x.works) → All P z.works
    works_next P one i z at h =
        let r = pairs_at Goes ran new i z goes at in
        let f = pairs_at Fresh ran new i z fresh at in
        let o = pairs_at IsKept old ran i r.0 kept r.1 in
        subst (All P) (new_works z f.2.nothing_left)
        (all_next P one full r.0 (to_do z) (all_right P r.0.works r.0.left (subst (All P) o.2.works (h o.0 o.1))) r.2)

    -- they may run in the next one
    pub lanes_next : AreLanes new
    lanes_next =
        let first = pairs_length IsKept old ran kept in
        let then = pairs_length Goes ran new goes in
        let some_ = are.some in
        let few_ = are.few in
        record {
          some = omega arith;
          few = omega arith;
          new = λ i z at.
              let f = pairs_at Fresh ran new i z fresh at in
              subst (λ (n : ℕ). IsNewLane n z) (ran_numbered i f.0 f.1) f.2;
          acceptable = λ z at. works_next IsAcceptable (λ form begin name file. tt) 0 z at (λ x is. are.acceptable x is);
          shared = λ i z above at. works_next IsShared (λ form begin name file. tt) i z at (λ x is. are.shared i x above is);
        }

    -- lanes that are to do what these have, and what they are given, go on with it
    pub goes_next : (fresh' : Bool) → fresh' ≡ full → (given : List (List Work)) (c : List Lane) → Triples HasNextWorks new given c
        → Triples (IsNextLane fresh') ran given c
    goes_next fresh' same given c have =
        pairs_triples (λ x y. GoesOnWith full x (to_do y) × IsNewLane x.number y) HasNextWorks (IsNextLane fresh')
        (λ x y ws z h k. (
          y.works,
          subst (λ (f : Bool). GoesOnWith f x y.works) (sym same) (subst (GoesOnWith full x) (new_works y h.1.nothing_left) h.0),
          k.0,
          k.1,
          k.2,
        )) ran new given c next have

    -- where none hands anything back or goes on with a file, the new ones have nothing
    pub idle_next : full ≡ false → ((i : ℕ) (x : Lane) → slice_get ran i ≡ Some x → x.left ≡ []) → AreIdle new
    idle_next old none = idle_new new (λ i z at.
        let r = pairs_at Goes ran new i z goes at in
        let f = pairs_at Fresh ran new i z fresh at in
        let is : to_do z ≡ r.0.left = subst (λ (k : Bool). GoesOnWith k r.0 (to_do z)) old r.2 in
        sym (new_works z f.2.nothing_left) ∙ is ∙ none i r.0 r.1)

-- ---- how far

-- a table that wasn't found full counts one
unshut_most : (v : View) → unshut v ≤ 1
unshut_most v = by v.shut
  where
    by : (s : Option Shut) → unshut_by s ≤ 1
    by None = omega arith
    by (Some s) = omega arith

unshut_none : (v : View) → v.shut ≡ None → unshut v ≡ 1
unshut_none v is = ap unshut_by is

shut_some : (v : View) → WasShut v → unshut v ≡ 0
shut_some v shut = ap unshut_by shut.1

empty_of : {A : Type 0} (xs : List A) → (xs ≢ [] → ⊥) → xs ≡ []
empty_of [] h = refl
empty_of (x ∷ xs) h = absurd (h (λ e. absurd cc))

-- a later table begins at a higher number
pub fewer_new : (s t : Store) → s.log.key.number < t.log.key.number → t.log.key.number < 4294967296 → tables_left t < tables_left s
fewer_new s t more fits = (let last = unshut_most (view t.pass) in omega arith)

-- where lanes handed statements back, the table wasn't full before and is
pub fewer_shut : (s t : Store) (lanes : List Lane) → t.log ≡ s.log → HandsBack (view s.pass) (view t.pass) lanes
    → (WasShut (view s.pass) → LeaveNone lanes) → (LeaveNone lanes → ⊥) → tables_left t < tables_left s
fewer_shut s t lanes log back goes some =
    let same : t.log.key.number ≡ s.log.key.number = ap (λ (l : Log). l.key.number) log in
    let before = by_before (view s.pass).shut refl in
    let after = by_after (view t.pass).shut refl in
    omega arith
  where
    by_before : (c : Option Shut) → (view s.pass).shut ≡ c → unshut (view s.pass) ≡ 1
    by_before None is = unshut_none (view s.pass) is
    by_before (Some c) is = absurd (some (goes (c, is)))

    by_after : (c : Option Shut) → (view t.pass).shut ≡ c → unshut (view t.pass) ≡ 0
    by_after None is = absurd (some (λ i x at. empty_of x.left
        (λ left. let cut = back i x at left in let bad : None ≡ Some cut.shut.0 = sym is ∙ cut.shut.1 in absurd cc)))
    by_after (Some c) is = shut_some (view t.pass) (c, is)

-- so it is from round to round, where a new table is begun only if the log ends above the number at which this one begins
module _
    {D : Type 0} (disks : Disks D)
    (disk disk' : D) (s m t : Store) (from to : ℕ) (lanes : List Lane) (log : m.log ≡ s.log) (base : from ≡ m.log.key.number)
    (fits : to < 4294967296) (back : HandsBack (view s.pass) (view m.pass) lanes) (goes : WasShut (view s.pass) → LeaveNone lanes) where
  fewer_by : (some : Bool) → nat_lt from to ≡ some → (some ≡ false → LeaveNone lanes → ⊥)
      → IsRenewed disks disk m to some disk' t → tables_left t < tables_left s
  fewer_by true more left k =
      let above : from < to = ltb-true from to more in
      let same : m.log.key.number ≡ s.log.key.number = ap (λ (l : Log). l.key.number) log in
      let number = k.number in
      fewer_new s t (omega arith) (omega arith)
  fewer_by false more left k = subst (λ (z : Store). tables_left z < tables_left s) (sym k.1)
      (fewer_shut s m lanes log back goes (left refl))

  pub fewer_tables : (more : Bool) → (more ≡ true → nat_lt from to ≡ false → LeaveNone lanes → ⊥)
      → IsRenewed disks disk m to (more && nat_lt from to) disk' t → more ≡ true → tables_left t < tables_left s
  fewer_tables false left k is = absurd cc
  fewer_tables true left k is = fewer_by (nat_lt from to) refl (left refl) k

-- one that is begun was asked for
pub and_true : (a b : Bool) → (a && b) ≡ true → a ≡ true
and_true true b is = refl
and_true false b is = absurd cc

-- where a new table is begun, the log ends above the number at which the old one begins
pub above_base : (from to n : ℕ) (more : Bool) → from ≡ n → (more && nat_lt from to) ≡ true → n < to
above_base from to n false same is = absurd cc
above_base from to n true same is = subst (λ (z : ℕ). z < to) same (ltb-true from to is)

-- and it is begun where an item tells that the old one is full, unless that one has no entry
pub asked_for : (from to n : ℕ) (more : Bool) → from ≡ n → n ≤ to → (lanes : List Lane)
    → (more ≡ false → nat_lt from to ≡ true → FindNoneFull lanes) → (line lines end : ℕ) → IsFullIn lanes line lines end
    → ((more && nat_lt from to) ≡ true) ⊎ (n ≡ to)
asked_for from to n more same above lanes none line lines end full = pick (dec_lt from to)
  where
    by : (z : Bool) → (z ≡ false → nat_lt from to ≡ true → FindNoneFull lanes) → nat_lt from to ≡ true → (z && nat_lt from to) ≡ true
    by true found is = is
    by false found is = absurd (none_full lanes (found refl is) line lines end full)

    pick : Dec (from < to) → ((more && nat_lt from to) ≡ true) ⊎ (n ≡ to)
    pick (yes less) = inl (by more none (lt-ltb from to less))
    pick (no not_less) = inr (omega arith)
