-- The entries that a walk passes, one after the other.
use Rattle.std.proofs.Common.{◌≡◌, ℕ, ◌+◌, ◌*◌, ◌<◌, ◌≤◌, ◌⊎◌, List, [], ◌∷◌, ◌++◌, length, refl, sym, subst, inl, inr}
use Rattle.std.proofs.Common.{⊎_elim, length-append, arith, None, Some}
use Rattle.fish_chain.specs.Walks.{IsBounded, IsEntryFrom, LeadDown}
use Rattle.fish_chain.specs.declared.walk.Node.{Node}
use Rattle.fish_rule.specs.Logs.{Learns}
use Rattle.fish_rule.specs.declared.table.Walk.{Walk}
use Rattle.fish_rule.specs.declared.view.View.{View}

-- an entry is one for whoever knows as much
pub entry_later : (v u : View) (b first place : ℕ) → Learns v u → IsEntryFrom v b first place → IsEntryFrom u b first place
entry_later v u b first place learns h = record {
  node = learns.nodes (record { bucket = b; place = place }) h.node;
  number = h.number;
  numbered = record {
    label = h.numbered.label;
    read = learns.labels h.numbered.label h.numbered.read;
    place_is = h.numbered.place_is;
    number_is = h.numbered.number_is;
  };
  from = h.from;
}

-- what leads down leads down for whoever knows as much
pub down_later : (v u : View) (b first from to : ℕ) (places : List ℕ) → Learns v u → LeadDown v b first from to places
    → LeadDown u b first from to places
down_later v u b first from to [] learns e = e
down_later v u b first from to (p ∷ places) learns h =
    let rest = h.2 in (
      h.0,
      entry_later v u b first p learns h.1,
      (rest.0, rest.1, down_later v u b first rest.0 to places learns rest.2),
    )

-- one entry more
down_more : (v : View) (b first from mid to : ℕ) (places : List ℕ) → LeadDown v b first from mid places
    → IsEntryFrom v b first mid → to < mid → LeadDown v b first from to (places ++ mid ∷ [])
down_more v b first from mid to [] e entry less = (e, entry, (to, less, refl))
down_more v b first from mid to (p ∷ places) h entry less =
    let rest = h.2 in
    (h.0, h.1, (rest.0, rest.1, down_more v b first rest.0 mid to places rest.2 entry less))

-- a walk came down to a place with two loads of each entry that it passed, or it ended at one of an older record
pub record HasPassed (v u : View) (b first from to : ℕ) : Type 0 where
  pub passed : List ℕ
  pub end : ℕ
  pub down : LeadDown u b first from end passed
  pub few : ((to ≡ end) × (u.clock.loads ≤ v.clock.loads + 2 * length passed))
      ⊎ ((to ≡ 0) × (u.clock.loads ≤ v.clock.loads + 2 * length passed + 1))

-- where a walk has not ended, its end is where it stands
stands_there : (v u : View) (b first from mid : ℕ) (h : HasPassed v u b first from mid) → 0 < mid
    → (mid ≡ h.end) × (u.clock.loads ≤ v.clock.loads + 2 * length h.passed)
stands_there v u b first from mid h some = ⊎_elim
    (λ (e : (mid ≡ h.end) × (u.clock.loads ≤ v.clock.loads + 2 * length h.passed)). e)
    (λ (e : (mid ≡ 0) × (u.clock.loads ≤ v.clock.loads + 2 * length h.passed + 1)).
    let none = e.0 in absurd (omega arith)) h.few

module _ (v m u : View) (b first from mid : ℕ) (h : HasPassed v m b first from mid) (some : 0 < mid) (learns : Learns m u) where
  -- what leads down to where the walk stands
  leads_there : LeadDown u b first from mid h.passed
  leads_there = subst (λ (z : ℕ). LeadDown u b first from z h.passed) (sym (stands_there v m b first from mid h some).0)
      (down_later m u b first from h.end h.passed learns h.down)

  -- a turn passes one entry with at most two loads
  pub passed_more : (to : ℕ) → IsEntryFrom u b first mid → to < mid → u.clock.loads ≤ m.clock.loads + 2
      → HasPassed v u b first from to
  passed_more to entry less loads =
      let few = (stands_there v m b first from mid h some).1 in
      let longer = length-append h.passed (mid ∷ []) in
      record {
        passed = h.passed ++ mid ∷ [];
        end = to;
        down = down_more u b first from mid to h.passed leads_there entry less;
        few = inl (refl, omega arith);
      }

  -- at an entry of an older record the walk ends with one
  pub passed_last : (to : ℕ) → to ≡ 0 → u.clock.loads ≤ m.clock.loads + 1 → HasPassed v u b first from to
  passed_last to none loads =
      let few = (stands_there v m b first from mid h some).1 in
      record { passed = h.passed; end = mid; down = leads_there; few = inr (none, omega arith) }

-- the entry that the last turn passed is given
pub bounded_given : (v m u t : View) (walk : Walk) (b first from mid to : ℕ) (to' : ℕ) (node : Node)
    → HasPassed v m b first from mid → 0 < mid → Learns m u → IsEntryFrom u b first mid → to < mid
    → u.clock.loads ≤ m.clock.loads + 2 → t ≡ u → b ≡ walk.bucket → first ≡ walk.from → from ≡ walk.place → to ≡ to'
    → IsBounded v t walk to' (Some node)
bounded_given v m u t walk b first from mid to to' node h some learns entry less loads e bucket_is first_is from_is to_is =
    let few = (stands_there v m b first from mid h some).1 in
    let longer = length-append h.passed (mid ∷ []) in
    let seen : t.clock.loads ≡ u.clock.loads = (λ i. (e i).clock.loads) in
    record {
      passed = h.passed ++ mid ∷ [];
      end = to;
      down = subst (λ (z : View × ℕ × ℕ × ℕ). LeadDown z.0 z.1 z.2 z.3 to (h.passed ++ mid ∷ []))
          (λ i. (sym e i, bucket_is i, first_is i, from_is i))
          (down_more u b first from mid to h.passed (leads_there v m u b first from mid h some learns) entry less);
      within = omega arith;
      few = (omega arith, omega arith);
    }

-- or none is left
pub bounded_ended : (v u t : View) (walk : Walk) (b first from to to' : ℕ) → HasPassed v u b first from to → t ≡ u
    → b ≡ walk.bucket → first ≡ walk.from → from ≡ walk.place → to ≡ to' → IsBounded v t walk to' None
bounded_ended v u t walk b first from to to' h e bucket_is first_is from_is to_is =
    let seen : t.clock.loads ≡ u.clock.loads = (λ i. (e i).clock.loads) in
    record {
      passed = h.passed;
      end = h.end;
      down = subst (λ (z : View × ℕ × ℕ × ℕ). LeadDown z.0 z.1 z.2 z.3 h.end h.passed)
          (λ i. (sym e i, bucket_is i, first_is i, from_is i)) h.down;
      within = ⊎_elim (λ (a : (to ≡ h.end) × (u.clock.loads ≤ v.clock.loads + 2 * length h.passed)).
          let is = a.0 in omega arith)
          (λ (a : (to ≡ 0) × (u.clock.loads ≤ v.clock.loads + 2 * length h.passed + 1)). let is = a.0 in omega arith) h.few;
      few = ⊎_elim (λ (a : (to ≡ h.end) × (u.clock.loads ≤ v.clock.loads + 2 * length h.passed)).
          let most = a.1 in omega arith)
          (λ (a : (to ≡ 0) × (u.clock.loads ≤ v.clock.loads + 2 * length h.passed + 1)). let most = a.1 in omega arith) h.few;
    }

-- what is so of a number below another and of one that isn't is so
pub below_or_on : {P : Type 0} {n m : ℕ} → Dec (n < m) → (n < m → P) → (¬ (n < m) → P) → P
below_or_on (yes less) f g = f less
below_or_on (no on) f g = g on
