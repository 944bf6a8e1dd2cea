-- The walk over a value's tokens is a test of the value: how deep it nests, and that its numbers are in range.
use Rattle.std.proofs.Common.{◌≡◌, ℕ, ◌+◌, ◌-◌, nat_lt, List, ◌++◌, Bool, true, false, ◌&&◌, if◌then◌else◌, Option}
use Rattle.std.proofs.Common.{Some, None, option_map, option_and_then, is_some, refl, ap, ◌∙◌, arith, append_assoc}
use Rattle.json.specs.Token.{Token}
use Rattle.json.specs.Json as json
use Rattle.json.specs.Tree.{json_tokens, items_tokens, members_tokens}
use Rattle.serde_json.specs.Data.{Data, Items, Members, number, array, object, item, put}
use Rattle.serde_json.specs.Read.{max_depth, number_of, of_json, of_items, of_members}
use Rattle.fish_json.specs.within.Tape.{open_after}

-- a value that stands within n open objects and arrays keeps to the depth, and its numbers are in range
abbrev mutual
  pub good : ℕ → json.Json → Bool
  good n json.null = true
  good n (json.boolean b) = true
  good n (json.number s) = is_some (number_of s)
  good n (json.string s) = true
  good n (json.array js) = nat_lt n max_depth && good_items (n + 1) js
  good n (json.object ms) = nat_lt n max_depth && good_members (n + 1) ms

  pub good_items : ℕ → json.Items → Bool
  good_items n json.no_items = true
  good_items n (json.item j js) = good n j && good_items n js

  pub good_members : ℕ → json.Members → Bool
  good_members n json.no_members = true
  good_members n (json.member k j ms) = good n j && good_members n ms

-- ---- the walk

abbrev pub passed : Bool → Option ℕ → Option ℕ
passed b o = if b then o else None

gone_on : (b : Bool) (f : ℕ → Option ℕ) (n : ℕ) → option_and_then f (if b then Some n else None) ≡ passed b (f n)
gone_on true f n = refl
gone_on false f n = refl

both : (a b : Bool) (o : Option ℕ) → passed a (passed b o) ≡ passed (a && b) o
both true b o = refl
both false b o = refl

closed : (n : ℕ) (rest : List Token) → open_after (n + 1 - 1) rest ≡ open_after n rest
closed n rest = let same : n + 1 - 1 ≡ n = omega arith in ap (λ k. open_after k rest) same

mutual
  pub open_after-json : (j : json.Json) (n : ℕ) (rest : List Token)
      → open_after n (json_tokens j ++ rest) ≡ passed (good n j) (open_after n rest)
  open_after-json json.null n rest = refl
  open_after-json (json.boolean b) n rest = refl
  open_after-json (json.number s) n rest = gone_on (is_some (number_of s)) (λ m. open_after m rest) n
  open_after-json (json.string s) n rest = refl
  open_after-json (json.array js) n rest =
      gone_on (nat_lt n max_depth) (λ m. open_after m (items_tokens js ++ rest)) (n + 1)
      ∙ ap (passed (nat_lt n max_depth)) (open_after-items js n rest)
      ∙ both (nat_lt n max_depth) (good_items (n + 1) js) (open_after n rest)
  open_after-json (json.object ms) n rest =
      gone_on (nat_lt n max_depth) (λ m. open_after m (members_tokens ms ++ rest)) (n + 1)
      ∙ ap (passed (nat_lt n max_depth)) (open_after-members ms n rest)
      ∙ both (nat_lt n max_depth) (good_members (n + 1) ms) (open_after n rest)

  open_after-items : (js : json.Items) (n : ℕ) (rest : List Token)
      → open_after (n + 1) (items_tokens js ++ rest) ≡ passed (good_items (n + 1) js) (open_after n rest)
  open_after-items json.no_items n rest = closed n rest
  open_after-items (json.item j js) n rest =
      ap (open_after (n + 1)) (append_assoc (json_tokens j) (items_tokens js) rest)
      ∙ open_after-json j (n + 1) (items_tokens js ++ rest)
      ∙ ap (passed (good (n + 1) j)) (open_after-items js n rest)
      ∙ both (good (n + 1) j) (good_items (n + 1) js) (open_after n rest)

  open_after-members : (ms : json.Members) (n : ℕ) (rest : List Token)
      → open_after (n + 1) (members_tokens ms ++ rest) ≡ passed (good_members (n + 1) ms) (open_after n rest)
  open_after-members json.no_members n rest = closed n rest
  open_after-members (json.member k j ms) n rest =
      ap (open_after (n + 1)) (append_assoc (json_tokens j) (members_tokens ms) rest)
      ∙ open_after-json j (n + 1) (members_tokens ms ++ rest)
      ∙ ap (passed (good (n + 1) j)) (open_after-members ms n rest)
      ∙ both (good (n + 1) j) (good_members (n + 1) ms) (open_after n rest)

-- ---- what the test means

pub front_true : (a b : Bool) → (a && b) ≡ true → a ≡ true
front_true true b e = refl
front_true false b e = cc

pub rest_true : (a b : Bool) → (a && b) ≡ true → b ≡ true
rest_true true b e = e
rest_true false b e = cc

is_there : {A : Type 0} (o : Option A) → is_some o ≡ true → (a : A) × (o ≡ Some a)
is_there None e = cc
is_there (Some a) e = (a, refl)

-- a good value has data
mutual
  pub has_data : (j : json.Json) (n : ℕ) → good n j ≡ true → (d : Data) × (of_json j ≡ Some d)
  has_data json.null n e = (Data.null, refl)
  has_data (json.boolean b) n e = (Data.boolean b, refl)
  has_data (json.number s) n e = let x = is_there (number_of s) e in (number x.0, ap (option_map number) x.1)
  has_data (json.string s) n e = (Data.string s, refl)
  has_data (json.array js) n e =
      let x = have_data_items js (n + 1) (rest_true _ _ e) in (array x.0, ap (option_map array) x.1)
  has_data (json.object ms) n e =
      let x = have_data_members ms (n + 1) Members.no_members (rest_true _ _ e) in
      (object x.0, ap (option_map object) x.1)

  have_data_items : (js : json.Items) (n : ℕ) → good_items n js ≡ true → (ds : Items) × (of_items js ≡ Some ds)
  have_data_items json.no_items n e = (Items.no_items, refl)
  have_data_items (json.item j js) n e =
      let first = has_data j n (front_true _ _ e) in
      let more = have_data_items js n (rest_true _ _ e) in
      let into = ap (option_and_then (λ d. option_map (item d) (of_items js))) first.1 in
      (item first.0 more.0, into ∙ ap (option_map (item first.0)) more.1)

  have_data_members : (ms : json.Members) (n : ℕ) (found : Members) → good_members n ms ≡ true
      → (ds : Members) × (of_members ms found ≡ Some ds)
  have_data_members json.no_members n found e = (found, refl)
  have_data_members (json.member k j ms) n found e =
      let first = has_data j n (front_true _ _ e) in
      let more = have_data_members ms n (put k first.0 found) (rest_true _ _ e) in
      (more.0, ap (option_and_then (λ d. of_members ms (put k d found))) first.1 ∙ more.1)
