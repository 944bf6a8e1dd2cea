-- The definitions of a version tell which one it is, so a closed log is left at the version that its control pass knew.
use Rattle.std.proofs.Common.{◌≡◌, ◌≢◌, ℕ, zero, suc, ◌+◌, ◌%◌, ◌<◌, ◌≤◌, inl, inr, List, [], ◌∷◌, ◌++◌, true, cond, length, map}
use Rattle.std.proofs.Common.{refl, sym, ap, ◌∙◌, arith, Some, slice_get}
use Rattle.std.proofs.Math.Decide.{ℕ_discrete, dec_lt}
use Rattle.std.proofs.lemmas.Option.{same_Some}
use Rattle.fish_catalog.specs.Listing.{IsListing, ended, ended_at, listed_in, listed_of}
use Rattle.fish_catalog.specs.declared.listed.Listed.{Listed}
use Rattle.fish_layout.proofs.Clearing.{choose_first, choose_second}
use Rattle.fish_layout.specs.Cleared.{choose}
use Rattle.fish_rule.proofs.laws.ClosedLogs.{definitions_closed}
use Rattle.fish_rule.proofs.laws.Versions.{definitions_first, definitions_next}
use Rattle.fish_rule.specs.ClosedLog.{IsClosed}
use Rattle.fish_rule.specs.Epochs.{Versions}
use Rattle.fish_rule.specs.Registry.{IsOperation, definitions_at, made, op_at, row_in, version_in}
use Rattle.fish_rule.specs.Table.{IsOfMoment}
use Rattle.fish_rule.specs.declared.close.Remains.{Remains}
use Rattle.fish_rule.specs.declared.view.Key.{Key}
use Rattle.fish_rule.specs.declared.view.View.{View}

-- ---- how far definitions are

-- a definition is one step where it is active, and two where it has ended
abbrev steps_of : Listed → ℕ
steps_of l = cond l.active 1 2

-- so many steps were made for these definitions
abbrev steps : List Listed → ℕ
steps [] = 0
steps (l ∷ ls) = steps_of l + steps ls

-- one more definition adds its steps
steps_push : (ls : List Listed) (y : Listed) → steps (ls ++ y ∷ []) ≡ steps ls + steps_of y
steps_push [] y = omega arith
steps_push (l ∷ ls) y = (let rest = steps_push ls y in omega arith)

-- the definitions are numbered from a number on
abbrev AreFrom : ℕ → List Listed → Type 0
AreFrom from ls = (n : ℕ) (l : Listed) → slice_get ls n ≡ Some l → l.id ≡ from + n

-- so are those after the first
from_next : (from : ℕ) (l : Listed) (ls : List Listed) → AreFrom from (l ∷ ls) → AreFrom (suc from) ls
from_next from l ls ids n x at = (let id = ids (suc n) x at in omega arith)

-- one that ends
abbrev once_ended : ℕ → Listed → Listed
once_ended id l = choose (ℕ_discrete l.id id) (ended l) l

-- where none has the id, none ends
none_ends : (id from : ℕ) (ls : List Listed) → AreFrom from ls → id < from → steps (ended_at id ls) ≡ steps ls
none_ends id from [] ids less = refl
none_ends id from (l ∷ ls) ids less =
    let first : l.id ≡ from + 0 = ids 0 l refl in
    let other : l.id ≢ id = λ same. omega arith in
    let kept : once_ended id l ≡ l = choose_second (ℕ_discrete l.id id) (ended l) l other in
    let rest = none_ends id (suc from) ls (from_next from l ls ids) (omega arith) in
    ap (λ (z : Listed). steps_of z + steps (ended_at id ls)) kept ∙ ap (λ (z : ℕ). steps_of l + z) rest

-- where an active one has it, that is one step
one_ends : (id from : ℕ) (ls : List Listed) (i : ℕ) (x : Listed) → AreFrom from ls → slice_get ls i ≡ Some x → x.id ≡ id
    → x.active ≡ true → steps (ended_at id ls) ≡ suc (steps ls)
one_ends id from [] i x ids at is on = absurd cc
one_ends id from (l ∷ ls) zero x ids at is on =
    let same : l ≡ x = same_Some l x at in
    let here : l.id ≡ id = ap (λ (z : Listed). z.id) same ∙ is in
    let first : l.id ≡ from + 0 = ids 0 l refl in
    let ends : once_ended id l ≡ ended l = choose_first (ℕ_discrete l.id id) (ended l) l here in
    let rest = none_ends id (suc from) ls (from_next from l ls ids) (omega arith) in
    let was : steps_of l ≡ 1 = ap (λ (z : Listed). steps_of z) same ∙ ap (λ b. cond b 1 2) on in
    ap (λ (z : Listed). steps_of z + steps (ended_at id ls)) ends
    ∙ (let more : 2 + steps (ended_at id ls) ≡ suc (steps_of l + steps ls) = omega arith in more)
one_ends id from (l ∷ ls) (suc i) x ids at is on =
    let first : l.id ≡ from + 0 = ids 0 l refl in
    let place : x.id ≡ from + suc i = ids (suc i) x at in
    let other : l.id ≢ id = λ same. omega arith in
    let kept : once_ended id l ≡ l = choose_second (ℕ_discrete l.id id) (ended l) l other in
    let rest = one_ends id (suc from) ls i x (from_next from l ls ids) at is on in
    ap (λ (z : Listed). steps_of z + steps (ended_at id ls)) kept
    ∙ (let more : steps_of l + steps (ended_at id ls) ≡ suc (steps_of l + steps ls) = omega arith in more)

-- an operation is one step
made_step : (g : ℕ → ℕ) (x : ℕ) (ls : List Listed) → IsListing ls → IsOperation (row_in g (length ls)) ls x
    → steps (made g x ls) ≡ suc (steps ls)
made_step g x ls listing (inl h) =
    let room = h.1.room in
    let is = h.0 in
    let y : Listed = listed_in (row_in g (length ls)) (length ls) true in
    let push : steps (ls ++ y ∷ []) ≡ steps ls + 1 = steps_push ls y in
    ap steps (choose_first (dec_lt x 512) (ls ++ y ∷ []) (ended_at (x % 256) ls) (omega arith))
    ∙ push ∙ (let one : steps ls + 1 ≡ suc (steps ls) = omega arith in one)
made_step g x ls listing (inr h) =
    let is = h.1 in
    let few = h.2 in
    let on = h.3 in
    let y : Listed = listed_in (row_in g (length ls)) (length ls) true in
    let id : x % 256 ≡ h.0 = omega arith in
    let place : on.listed.id ≡ h.0 = listing.ids h.0 on.listed on.there in
    ap steps (choose_second (dec_lt x 512) (ls ++ y ∷ []) (ended_at (x % 256) ls) (λ less. omega arith))
    ∙ one_ends (x % 256) 0 ls h.0 on.listed (λ n l at. (let of = listing.ids n l at in omega arith)) on.there (place ∙ sym id) on.active

-- ---- versions

-- a version has its steps where its definitions are as many steps after those with which the table begins
abbrev HasSteps : Key → (ℕ → ℕ) → ℕ → Type 0
HasSteps k g n = steps (definitions_at k g n) + k.version ≡ steps (map listed_of k.rows.value) + n

-- so has the next one
next_steps : (k : Key) (count : ℕ) (g version_of : ℕ → ℕ) → Versions k count g version_of → (n : ℕ) → k.version ≤ suc n
    → n < version_in g → (k.version ≤ n → HasSteps k g n) → HasSteps k g (suc n)
next_steps k count g version_of h n from upto before = by (dec_lt n k.version)
  where
    by : Dec (n < k.version) → HasSteps k g (suc n)
    by (yes less) =
        let same : k.version ≡ suc n = omega arith in
        ap (λ (z : List Listed). steps z + k.version) (definitions_first k g (suc n) (omega arith))
        ∙ ap (λ (z : ℕ). steps (map listed_of k.rows.value) + z) same
    by (no more) =
        let was = before (omega arith) in
        let step = made_step g (g (op_at (suc n))) (definitions_at k g n) (h.listings n (omega arith))
        (h.operations n (omega arith) upto) in
        ap (λ (z : List Listed). steps z + k.version) (definitions_next k g n (omega arith))
        ∙ (let sum : steps (made g (g (op_at (suc n))) (definitions_at k g n)) + k.version
        ≡ steps (map listed_of k.rows.value) + suc n = omega arith in sum)

-- each version has
version_steps : (k : Key) (count : ℕ) (g version_of : ℕ → ℕ) → Versions k count g version_of → (n : ℕ) → k.version ≤ n
    → n ≤ version_in g → HasSteps k g n
version_steps k count g version_of h zero from upto = omega arith
version_steps k count g version_of h (suc n) from upto =
    next_steps k count g version_of h n from (omega arith) (λ before. version_steps k count g version_of h n before (omega arith))

-- versions with the same definitions are the same
pub one_version : (k : Key) (count later : ℕ) (g g' version_of version_of' : ℕ → ℕ) (n m : ℕ) → Versions k count g version_of
    → Versions k later g' version_of' → k.version ≤ n → n ≤ version_in g → k.version ≤ m → m ≤ version_in g'
    → definitions_at k g n ≡ definitions_at k g' m → n ≡ m
one_version k count later g g' version_of version_of' n m h t from upto from' upto' same =
    let a = version_steps k count g version_of h n from upto in
    let b = version_steps k later g' version_of' t m from' upto' in
    let c = ap steps same in
    omega arith

-- so a closed log is left at the version that its control pass knew
pub version_closed : (v : View) (remains : Remains) → (c : IsClosed v remains) → IsOfMoment v → v.lane ≡ 1
    → remains.version ≡ v.learned.version
version_closed v remains c s control =
    let its = (s.rule.registry.each s.seat v s.at).control control in
    let was : v.learned.version ≡ version_in s.moment.registry = its.version in
    let is : remains.version ≡ version_in c.moment.registry = c.version in
    let from = c.rule.registry.versions.from in
    let from' = s.rule.registry.versions.from in
    let same : definitions_at v.about c.moment.registry remains.version ≡ definitions_at v.about s.moment.registry v.learned.version =
    definitions_closed v remains c control ∙ sym its.definitions
    ∙ ap (λ (z : ℕ). definitions_at v.about s.moment.registry z) (sym was) in
    one_version v.about c.moment.count s.moment.count c.moment.registry s.moment.registry c.rule.version_of s.rule.version_of
    remains.version v.learned.version c.rule.registry.versions s.rule.registry.versions (omega arith) (omega arith) (omega arith)
    (omega arith) same
