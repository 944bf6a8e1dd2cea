-- How many versions were made, by the definitions: each operation adds one or ends one.
use Rattle.std.proofs.Common.{◌≡◌, ℕ, ◌+◌, ◌-◌, ◌%◌, ◌<◌, ◌≤◌, zero, suc, List, [], ◌∷◌, ◌++◌, length, map, refl, ap, ◌∙◌}
use Rattle.std.proofs.Common.{inl, inr, arith, Some, slice_get, true, false, Bool}
use Rattle.std.proofs.Math.Decide.{ℕ_discrete, dec_lt}
use Rattle.fish_catalog.specs.Listing.{ended, ended_at, listed_in, listed_of}
use Rattle.fish_catalog.specs.declared.listed.Listed.{Listed}
use Rattle.fish_layout.proofs.Clearing.{choose_first, choose_second}
use Rattle.fish_layout.specs.Cleared.{choose}
use Rattle.fish_lanes.proofs.Lists.{some_once}
use Rattle.fish_rule.proofs.laws.Versions.{definitions_first, definitions_next}
use Rattle.fish_rule.specs.Epochs.{Versions}
use Rattle.fish_rule.specs.Registry.{IsOperation, definitions_at, made, op_at, row_in, version_in}
use Rattle.fish_rule.specs.Table.{IsOfMoment}
use Rattle.fish_rule.specs.declared.view.Key.{Key}
use Rattle.fish_rule.specs.declared.view.View.{View}

-- ---- what definitions count

-- one where a definition has ended
abbrev off : Bool → ℕ
off true = 0
off false = 1

-- each counts one, and one that has ended one more
abbrev tally : List Listed → ℕ
tally [] = 0
tally (l ∷ ls) = 1 + off l.active + tally ls

tally_last : (ls : List Listed) (l : Listed) → tally (ls ++ l ∷ []) ≡ tally ls + 1 + off l.active
tally_last [] l = omega arith
tally_last (x ∷ ls) l = (let e = tally_last ls l in omega arith)

-- the ids are those from a number on
abbrev AreFrom : ℕ → List Listed → Type 0
AreFrom n ls = (i : ℕ) (l : Listed) → slice_get ls i ≡ Some l → l.id ≡ n + i

from_next : (n : ℕ) (l : Listed) (ls : List Listed) → AreFrom n (l ∷ ls) → AreFrom (suc n) ls
from_next n l ls h i x at = (let e = h (suc i) x at in omega arith)

-- one that has ended or not, by its id
abbrev end_at : ℕ → Listed → Listed
end_at id l = choose (ℕ_discrete l.id id) (ended l) l

-- no other one ends
tally_others : (id n : ℕ) (ls : List Listed) → AreFrom n ls → id < n → tally (ended_at id ls) ≡ tally ls
tally_others id n [] h less = refl
tally_others id n (l ∷ ls) h less =
    let here : l.id ≡ n + 0 = h 0 l refl in
    let rest = tally_others id (suc n) ls (from_next n l ls h) (omega arith) in
    let same : end_at id l ≡ l = choose_second (ℕ_discrete l.id id) (ended l) l (λ e. omega arith) in
    let active : off (end_at id l).active ≡ off l.active = ap (λ (z : Listed). off z.active) same in
    omega arith

-- an active one ends
tally_ended : (id n : ℕ) (ls : List Listed) (l : Listed) (i : ℕ) → AreFrom n ls → slice_get ls i ≡ Some l → id ≡ n + i
    → l.active ≡ true → tally (ended_at id ls) ≡ tally ls + 1
tally_ended id n [] l i h at is active = absurd cc
tally_ended id n (x ∷ ls) l zero h at is active =
    let here : x.id ≡ n + 0 = h 0 x refl in
    let rest = tally_others id (suc n) ls (from_next n x ls h) (omega arith) in
    let same : end_at id x ≡ ended x = choose_first (ℕ_discrete x.id id) (ended x) x (omega arith) in
    let now : off (end_at id x).active ≡ 1 = ap (λ (z : Listed). off z.active) same in
    let was : off x.active ≡ 0 = ap (λ (z : Listed). off z.active) (some_once x l at) ∙ ap off active in
    omega arith
tally_ended id n (x ∷ ls) l (suc i) h at is active =
    let here : x.id ≡ n + 0 = h 0 x refl in
    let rest = tally_ended id (suc n) ls l i (from_next n x ls h) at (omega arith) active in
    let same : end_at id x ≡ x = choose_second (ℕ_discrete x.id id) (ended x) x (λ e. omega arith) in
    let one : off (end_at id x).active ≡ off x.active = ap (λ (z : Listed). off z.active) same in
    omega arith

-- ---- operations

-- each makes one more
made_counts : (g : ℕ → ℕ) (x : ℕ) (ls : List Listed) → AreFrom 0 ls → IsOperation (row_in g (length ls)) ls x
    → tally (made g x ls) ≡ tally ls + 1
made_counts g x ls ids (inl new) =
    let is = new.0 in
    let room = new.1.room in
    let l : Listed = listed_in (row_in g (length ls)) (length ls) true in
    ap tally (choose_first (dec_lt x 512) (ls ++ l ∷ []) (ended_at (x % 256) ls) (omega arith))
    ∙ tally_last ls l ∙ (let e : tally ls + 1 + 0 ≡ tally ls + 1 = omega arith in e)
made_counts g x ls ids (inr end) =
    let is = end.1 in
    let few = end.2 in
    let on = end.3 in
    let id : x % 256 ≡ end.0 = omega arith in
    ap tally (choose_second (dec_lt x 512) (ls ++ listed_in (row_in g (length ls)) (length ls) true ∷ []) (ended_at (x % 256) ls)
    (λ less. omega arith))
    ∙ ap (λ (z : ℕ). tally (ended_at z ls)) id
    ∙ tally_ended end.0 0 ls on.listed end.0 ids on.there (omega arith) on.active

module _ (k : Key) (count : ℕ) (g version_of : ℕ → ℕ) (h : Versions k count g version_of) where
  ids_of : (v : ℕ) → v ≤ version_in g → AreFrom 0 (definitions_at k g v)
  ids_of v within i l at = (let e = (h.listings v within).ids i l at in omega arith)

  -- as many as versions were made after the start's
  counts : (d : ℕ) → k.version + d ≤ version_in g
      → tally (definitions_at k g (k.version + d)) ≡ tally (map listed_of k.rows.value) + d
  counts zero within = ap tally (definitions_first k g (k.version + 0) (omega arith)) ∙ (omega arith)
  counts (suc d) within =
      let v : ℕ = k.version + d in
      let next : k.version + suc d ≡ suc v = omega arith in
      let before = counts d (omega arith) in
      ap (λ (z : ℕ). tally (definitions_at k g z)) next
      ∙ ap tally (definitions_next k g v (omega arith))
      ∙ made_counts g (g (op_at (suc v))) (definitions_at k g v) (ids_of v (omega arith)) (h.operations v (omega arith) (omega arith))
      ∙ (omega arith)

-- so the version that the control pass knows follows from the definitions that it knows
version_law : (u : View) → IsOfMoment u → u.lane ≡ 1
    → u.learned.version + tally (map listed_of u.about.rows.value) ≡ u.about.version + tally u.rows
version_law u s control =
    let w = s.moment in
    let g = w.registry in
    let versions = s.rule.registry.versions in
    let known = (s.rule.registry.each s.seat u s.at).control control in
    let from = versions.from in
    let version = known.version in
    let d : ℕ = version_in g - u.about.version in
    let whole : u.about.version + d ≡ version_in g = omega arith in
    let all = counts u.about w.count g s.rule.version_of versions d (omega arith) in
    let rows : tally (definitions_at u.about g (u.about.version + d)) ≡ tally u.rows =
    ap (λ (z : ℕ). tally (definitions_at u.about g z)) whole ∙ ap tally known.definitions in
    omega arith

-- the same definitions are those of the same version
pub same_version : (u t : View) → IsOfMoment u → IsOfMoment t → u.lane ≡ 1 → t.lane ≡ 1 → t.about ≡ u.about → t.rows ≡ u.rows
    → t.learned.version ≡ u.learned.version
same_version u t su st control_u control_t about rows =
    let a = version_law u su control_u in
    let b = version_law t st control_t in
    let first : t.about.version ≡ u.about.version = ap (λ (z : Key). z.version) about in
    let start : tally (map listed_of t.about.rows.value) ≡ tally (map listed_of u.about.rows.value) =
    ap (λ (z : Key). tally (map listed_of z.rows.value)) about in
    let same : tally t.rows ≡ tally u.rows = ap tally rows in
    omega arith
