-- Which values are good: those that have data and nest at most 127 deep.
use Rattle.std.proofs.Common.{◌≡◌, ℕ, ◌+◌, ◌≤◌, ◌<◌, nat_lt, Bool, true, ◌&&◌, Option, Some, None, option_map}
use Rattle.std.proofs.Common.{option_and_then, is_some, refl, ap, arith, lt-ltb}
use Rattle.json.specs.Json as json
use Rattle.json.specs.Tree.{depth, items_depth, members_depth}
use Rattle.serde_json.specs.Data.{Data, Items, Members, number, array, object, item, put}
use Rattle.serde_json.specs.Read.{max_depth, number_of, of_json, of_items, of_members}
use Rattle.fish_json.proofs.Depth.{good, good_items, good_members, front_true, rest_true}
use borrow.Author.Tests.{ltb-true}

below : (n : ℕ) → nat_lt n max_depth ≡ true → n < 127
below n e = ltb-true n max_depth e

-- a good value nests at most 127 deep
mutual
  pub shallow : (j : json.Json) (n : ℕ) → n ≤ 127 → good n j ≡ true → n + depth j ≤ 127
  shallow json.null n h e = omega arith
  shallow (json.boolean b) n h e = omega arith
  shallow (json.number s) n h e = omega arith
  shallow (json.string s) n h e = omega arith
  shallow (json.array js) n h e =
      let room = below n (front_true _ _ e) in
      omega (arith, shallow_items js (n + 1) (omega (arith, room)) (rest_true _ _ e))
  shallow (json.object ms) n h e =
      let room = below n (front_true _ _ e) in
      omega (arith, shallow_members ms (n + 1) (omega (arith, room)) (rest_true _ _ e))

  shallow_items : (js : json.Items) (n : ℕ) → n ≤ 127 → good_items n js ≡ true → n + items_depth js ≤ 127
  shallow_items json.no_items n h e = omega arith
  shallow_items (json.item j js) n h e =
      omega (arith, shallow j n h (front_true _ _ e), shallow_items js n h (rest_true _ _ e))

  shallow_members : (ms : json.Members) (n : ℕ) → n ≤ 127 → good_members n ms ≡ true → n + members_depth ms ≤ 127
  shallow_members json.no_members n h e = omega arith
  shallow_members (json.member k j ms) n h e =
      omega (arith, shallow j n h (front_true _ _ e), shallow_members ms n h (rest_true _ _ e))

both_true : (a b : Bool) → a ≡ true → b ≡ true → (a && b) ≡ true
both_true a b x y = rw x y

mapped : {A B : Type 0} (f : A → B) (o : Option A) (b : B) → option_map f o ≡ Some b → (a : A) × (o ≡ Some a)
mapped f None b e = cc
mapped f (Some a) b e = (a, refl)

chained : {A B : Type 0} (f : A → Option B) (o : Option A) (b : B) → option_and_then f o ≡ Some b
    → (a : A) × (o ≡ Some a) × (f a ≡ Some b)
chained f None b e = cc
chained f (Some a) b e = (a, refl, e)

some : {A : Type 0} (o : Option A) (a : A) → o ≡ Some a → is_some o ≡ true
some o a e = ap is_some e

-- a value that has data and nests at most 127 deep is good
mutual
  pub is_good : (j : json.Json) (n : ℕ) (d : Data) → of_json j ≡ Some d → n + depth j ≤ 127 → good n j ≡ true
  is_good json.null n d e h = refl
  is_good (json.boolean b) n d e h = refl
  is_good (json.number s) n d e h = let x = mapped number (number_of s) d e in some (number_of s) x.0 x.1
  is_good (json.string s) n d e h = refl
  is_good (json.array js) n d e h =
      let x = mapped array (of_items js) d e in
      both_true _ _ (lt-ltb n max_depth (omega arith)) (items_are_good js (n + 1) x.0 x.1 (omega arith))
  is_good (json.object ms) n d e h =
      let x = mapped object (of_members ms Members.no_members) d e in
      both_true _ _ (lt-ltb n max_depth (omega arith))
      (members_are_good ms (n + 1) Members.no_members x.0 x.1 (omega arith))

  items_are_good : (js : json.Items) (n : ℕ) (ds : Items) → of_items js ≡ Some ds → n + items_depth js ≤ 127
      → good_items n js ≡ true
  items_are_good json.no_items n ds e h = refl
  items_are_good (json.item j js) n ds e h =
      let first = chained (λ d. option_map (item d) (of_items js)) (of_json j) ds e in
      let more = mapped (item first.0) (of_items js) ds first.2 in
      both_true _ _ (is_good j n first.0 first.1 (omega arith)) (items_are_good js n more.0 more.1 (omega arith))

  members_are_good : (ms : json.Members) (n : ℕ) (found m : Members) → of_members ms found ≡ Some m
      → n + members_depth ms ≤ 127 → good_members n ms ≡ true
  members_are_good json.no_members n found m e h = refl
  members_are_good (json.member k j ms) n found m e h =
      let first = chained (λ d. of_members ms (put k d found)) (of_json j) m e in
      both_true _ _ (is_good j n first.0 first.1 (omega arith))
      (members_are_good ms n (put k first.0 found) m first.2 (omega arith))
