-- The last member with a name, in a tape, is the one that stays in the data: equal names.
use Rattle.std.proofs.Common.{◌≡◌, ℕ, ◌+◌, ◌<◌, ◌≤◌, List, ◌∷◌, length, drop, get_or, Bool, true, false, cond, Option}
use Rattle.std.proofs.Common.{Some, None, option_map, option_and_then, bytes_eq, refl, sym, ap, ◌∙◌, subst, drop-cons}
use Rattle.std.proofs.Common.{add-one, suc}
use Rattle.std.proofs.lemmas.List.{drop_all}
use Rattle.std.proofs.lemmas.Slice.Eq.{bytes_eq-Decides}
use Rattle.json.specs.Token.{Token}
use Rattle.json.specs.Json as json
use Rattle.json.specs.Find as find
use Rattle.json.specs.Find.{later_or, Finds}
use Rattle.serde_json.specs.Data.{Data, Members, no_members, put, array, number, object}
use Rattle.serde_json.specs.Find.{get, get_member}
use Rattle.serde_json.specs.Read.{number_of, of_json, of_items, of_members}
use Rattle.serde_json.proofs.Views.{get_member-put, get_member-put_other}
use Rattle.fish_value.specs.declared.field.Field.{Field}
use Rattle.fish_json.specs.Reading.{at_path, json_field_in, json_field_of, kind_of_data}
use Rattle.fish_json.specs.within.Tape.{FindsData, StandsForData}

-- the members go in after those that were found, and o is the last with the name: then r is what the data has there
abbrev After : List ℕ → Members → Option json.Json → Option Data → Type 0
After name found None r = r ≡ get_member name found
After name found (Some j) r = (e : Data) × (of_json j ≡ Some e) × (r ≡ Some e)

same_name : (a b : List ℕ) → bytes_eq a b ≡ true → b ≡ a
same_name a b e = sym ((bytes_eq-Decides a b).0 e)

other_name : (a b : List ℕ) → bytes_eq a b ≡ false → b ≡ a → ⊥
other_name a b e same = let yes = (bytes_eq-Decides a b).1 (sym same) in cc

merge : (name k : List ℕ) (j : json.Json) (d : Data) (found : Members) (o : Option json.Json) (r : Option Data)
    (b : Bool)
    → bytes_eq k name ≡ b → of_json j ≡ Some d → After name (put k d found) o r
    → After name found (later_or o (cond b (Some j) None)) r
merge name k j d found (Some i) r b e is h = h
merge name k j d found None r true e is h =
    (d, is, h ∙ ap (λ n. get_member n (put k d found)) (same_name k name e) ∙ get_member-put k d found)
merge name k j d found None r false e is h = h ∙ get_member-put_other name k d found (other_name k name e)

members_found : (name : List ℕ) (ms : json.Members) (found m : Members) → of_members ms found ≡ Some m
    → After name found (find.get_member name ms) (get_member name m)
members_found name json.no_members found m e = let same : m ≡ found = cc in ap (get_member name) same
members_found name (json.member k j ms) found m e =
    go (of_json j) refl e (λ d h. members_found name ms (put k d found) m h)
  where
    go : (o : Option Data) → of_json j ≡ o → option_and_then (λ d. of_members ms (put k d found)) o ≡ Some m
        → ((d : Data) → of_members ms (put k d found) ≡ Some m
        → After name (put k d found) (find.get_member name ms) (get_member name m))
        → After name found (later_or (find.get_member name ms) (cond (bytes_eq k name) (Some j) None)) (get_member name m)
    go None is h again = absurd (cc)
    go (Some d) is h again =
        merge name k j d found (find.get_member name ms) (get_member name m) (bytes_eq k name) refl is (again d h)

found_in : (name : List ℕ) (r : Option (List Token)) (o : Option json.Json) (p : Option Data) → Finds r o
    → After name no_members o p → FindsData r p
found_in name None None p h after = after
found_in name None (Some j) p h after = absurd (cc)
found_in name (Some ts) None p h after = let never = h.1 in absurd (cc)
found_in name (Some ts) (Some j) p h after =
    let same : h.0 ≡ j = (let e = h.1 in cc) in (after.0, after.2, (h.0, h.2, ap of_json same ∙ after.1))

nothing : (r : Option (List Token)) (p : Option Data) → Finds r None → p ≡ None → FindsData r p
nothing None p h e = e
nothing (Some ts) p h e = let never = h.1 in absurd (cc)

no_object : {A : Type 0} (name : List ℕ) (f : A → Data) (o : Option A) (d : Data)
    → ((a : A) → get name (f a) ≡ None) → option_map f o ≡ Some d → get name d ≡ None
no_object name f None d is e = absurd (cc)
no_object name f (Some a) d is e = let same : d ≡ f a = cc in ap (get name) same ∙ is a

inner : {A : Type 0} (f : A → Data) (o : Option A) (d : Data) → option_map f o ≡ Some d
    → (a : A) × (o ≡ Some a) × (d ≡ f a)
inner f None d e = absurd (cc)
inner f (Some a) d e = (a, refl, cc)

step_of : (name : List ℕ) (j : json.Json) (d : Data) (r : Option (List Token)) → of_json j ≡ Some d
    → Finds r (find.get name j) → FindsData r (get name d)
step_of name json.null d r e h = let same : d ≡ Data.null = cc in nothing r _ h (ap (get name) same)
step_of name (json.boolean b) d r e h = let same : d ≡ Data.boolean b = cc in nothing r _ h (ap (get name) same)
step_of name (json.number s) d r e h = nothing r _ h (no_object name number (number_of s) d (λ a. refl) e)
step_of name (json.string s) d r e h = let same : d ≡ Data.string s = cc in nothing r _ h (ap (get name) same)
step_of name (json.array js) d r e h = nothing r _ h (no_object name array (of_items js) d (λ a. refl) e)
step_of name (json.object ms) d r e h =
    let x = inner object (of_members ms no_members) d e in
    found_in name r (find.get_member name ms) (get name d) h
    (subst (λ y. After name no_members (find.get_member name ms) (get name y)) (sym x.2)
    (members_found name ms no_members x.0 x.1))

-- one name: what the tape has is what the data has
pub step_found : (name text : List ℕ) (ts : List Token) (d : Data) (r : Option (List Token)) → text ≡ name
    → ((j : json.Json) → find.BeginsWith ts j → Finds r (find.get text j)) → StandsForData ts d → FindsData r (get name d)
step_found name text ts d r same all h =
    step_of name h.0 d r h.2 (subst (λ k. Finds r (find.get k h.0)) same (all h.0 h.1))

-- a name that leads nowhere ends the path
pub walk_none : (steps : List (List ℕ)) (i : ℕ) (name : List ℕ) (d e : Data) → i < length steps
    → name ≡ get_or steps i name → at_path steps d ≡ at_path (drop i steps) e
    → get name e ≡ None → at_path steps d ≡ None
walk_none steps i name d e h is on none =
    on ∙ ap (λ l. at_path l e) (drop-cons steps i name h)
    ∙ ap (option_and_then (at_path (drop (suc i) steps))) (ap (λ k. get k e) (sym is) ∙ none)

-- a name that leads on leaves the names after it
pub walk_some : (steps : List (List ℕ)) (i : ℕ) (name : List ℕ) (d e x : Data) → i < length steps
    → name ≡ get_or steps i name → at_path steps d ≡ at_path (drop i steps) e
    → get name e ≡ Some x → at_path steps d ≡ at_path (drop (i + 1) steps) x
walk_some steps i name d e x h is on some =
    on ∙ ap (λ l. at_path l e) (drop-cons steps i name h)
    ∙ ap (option_and_then (at_path (drop (suc i) steps))) (ap (λ k. get k e) (sym is) ∙ some)
    ∙ ap (λ k. at_path (drop k steps) x) (sym (add-one i))

-- no name is left
pub walk_over : (steps : List (List ℕ)) (i : ℕ) (d e : Data) → length steps ≤ i
    → at_path steps d ≡ at_path (drop i steps) e → at_path steps d ≡ Some e
walk_over steps i d e h on = on ∙ ap (λ l. at_path l e) (drop_all i steps h)

-- ---- a path

pub path_none : (path more : List (List ℕ)) (first : List ℕ) (d : Data) → path ≡ first ∷ more
    → get first d ≡ None → at_path path d ≡ None
path_none path more first d is none = ap (λ l. at_path l d) is ∙ ap (option_and_then (at_path more)) none

pub path_on : (path more : List (List ℕ)) (first : List ℕ) (d e : Data) (r : Option (List Token))
    → path ≡ first ∷ more → get first d ≡ Some e
    → FindsData r (at_path more e) → FindsData r (at_path path d)
path_on path more first d e r is some h =
    subst (FindsData r) (sym (ap (λ l. at_path l d) is ∙ ap (option_and_then (at_path more)) some)) h

-- what was found is the field
pub field_found : (path : List (List ℕ)) (d e : Data) (f : Field) → at_path path d ≡ Some e → f ≡ kind_of_data e
    → f ≡ json_field_in path d
unfolding json_field_in
field_found path d e f is h = h ∙ sym (ap json_field_of is)
