-- From what each step keeps of a world to what the table allows.
use Rattle.std.proofs.Common.{◌≡◌, ℕ, ◌-◌, List, length, get_or, set, sym, ◌∙◌, subst, length-set, ◌+◌, ◌<◌, ◌≤◌, ap}
use Rattle.std.proofs.Common.{arith, inl, inr}
use Rattle.std.proofs.lemmas.List.{set-get_or}
use Rattle.fish_rule.proofs.basics.Context.{Key, Rule, View, World, get_elem?, some}
use Rattle.atomic_table.proofs.Lists.{set_here}
use Rattle.atomic_table.specs.Table.{keeps}
pub use Rattle.atomic_table.specs.Table.{Allows, step}
use Rattle.fish_rule.proofs.basics.Lists.{within_list}
use Rattle.fish_rule.specs.Table.{IsOfMoment}
pub use Rattle.fish_rule.specs.Table.{Ruled, Sat, Told}
use Rattle.fish_rule.specs.World.{total, world, heads_at, registry_size}
use Rattle.fish_rule.proofs.basics.Worlds.{area-in}
use Rattle.fish_rule.specs.Epochs.{IsUnmade}

-- what a step owes: for all words and views that meet the rule, a new view with which they meet it afterwards
abbrev pub Owes : Key → ℕ → Sat → ℕ → (ℕ → ℕ) → (ℕ → Sat → Type 0) → Type 0
Owes k id me i f then = (ws : List ℕ) (vs : List View) → length ws ≡ total k → Rule k (world k ws vs)
    → get_elem? vs id ≡ some me.0
    → (v' : View) × Rule k (world k (set ws i (f (get_or ws i 0))) (set vs id v')) × then (get_or ws i 0) (v', me.1)

-- then the table allows it
pub allowed : (given k : Key) → given ≡ k
    → (size id : ℕ) (me : Sat) (i : ℕ) (f : ℕ → ℕ) (then : ℕ → Sat → Type 0) → Owes k id me i f then
    → Allows (Ruled given) size id me i f then
allowed given k same size id me i f then owes =
    subst (λ (z : Key). Allows (Ruled z) size id me i f then) (sym same) (λ s ruled homes at small.
    let h = owes s.words s.views ruled.wide ruled.rule at in
    (h.0, keeps, tt, record { wide = length-set s.words i (f (get_or s.words i 0)) ∙ ruled.wide; rule = h.1 }, h.2))

-- a view stands where the rule holds and it is there
pub stands : (k : Key) (u : World) (id : ℕ) (v : View) → Rule k u → v.about ≡ k → get_elem? u.views id ≡ some v
    → IsOfMoment v
stands k u id v r about at = record {
  moment = u;
  rule = subst (λ (z : Key). Rule z u) (sym about) r;
  seat = id;
  at = at;
}

-- the new view is there
pub there : (vs : List View) (id : ℕ) (v v' : View) → get_elem? vs id ≡ some v → get_elem? (set vs id v') id ≡ some v'
there vs id v v' at = set_here vs id v' (within_list vs id v at)

-- a load leaves the words
pub loaded_words : (k : Key) (ws : List ℕ) (vs : List View) (i : ℕ) → Rule k (world k ws vs)
    → Rule k (world k (set ws i (get_or ws i 0)) vs)
loaded_words k ws vs i r = subst (λ (z : List ℕ). Rule k (world k z vs)) (sym (set-get_or ws i 0)) r

-- the word at an index of the registry
pub word_at : (k : Key) (ws : List ℕ) (vs : List View) (p : ℕ) → 2 ≤ p → p < heads_at
    → get_or ws p 0 ≡ (world k ws vs).registry p
word_at k ws vs p above below = (let e : p ≡ 2 + (p - 2) = omega arith in
    ap (λ (z : ℕ). get_or ws z 0) e ∙ sym (area-in ws 2 2 registry_size p above (omega arith)))

-- and so is one of which nothing is made
pub unmade_within : (k : Key) (w : World) (p : ℕ) → IsUnmade k w.registry p → (2 ≤ p) × (p < heads_at)
unmade_within k w p (inl h) = (let a = h.2 in let b = h.3 in (omega arith, omega arith))
unmade_within k w p (inr h) = (let a = h.3 in let b = h.4 in let c = h.5 in (omega arith, omega arith))
