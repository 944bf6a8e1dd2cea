-- How a run of device calls goes on.
use Rattle.std.proofs.Common.{inl, inr, ⊎_elim, ℕ, List, arith}
use Rattle.fish_disk.specs.Crash.{LeavesOnly}

module _ {D : Type 0} (images : D → List ℕ → Type 0) (since : D → ℕ → List ℕ → Type 0) (moment : D → ℕ) where
  -- no call leaves nothing else
  pub leaves_none : (disk : D) (P : List ℕ → Type 0) →
      ((c : List ℕ) → images disk c → P c) → LeavesOnly images since moment disk disk P
  leaves_none disk P here =
      record { later = omega arith; now = here; before = λ t c le left. inl left }

  -- what leaves only this leaves only what follows from it
  pub leaves_more : (old new : D) (P Q : List ℕ → Type 0) →
      ((c : List ℕ) → P c → Q c) → LeavesOnly images since moment old new P → LeavesOnly images since moment old new Q
  leaves_more old new P Q weaker leaves = record {
    later = leaves.later;
    now = λ c here. weaker c (leaves.now c here);
    before = λ t c le left. ⊎_elim (λ was. inl was) (λ has. inr (weaker c has)) (leaves.before t c le left);
  }

  -- one call and then another
  pub leaves_then : (old mid new : D) (P : List ℕ → Type 0) →
      LeavesOnly images since moment old mid P → LeavesOnly images since moment mid new P → LeavesOnly images since moment old new P
  leaves_then old mid new P first second = record {
    later = omega (arith, first.later, second.later);
    now = second.now;
    before = λ t c le left.
        ⊎_elim (first.before t c le) (λ has. inr has)
        (second.before t c (omega (arith, le, first.later)) left);
  }

  -- each image since the start has what the images of the start have and the calls leave
  pub leaves_each : (old new : D) (P : List ℕ → Type 0) →
      ((c : List ℕ) → since old (moment old) c → images old c) → ((c : List ℕ) → images old c → P c)
      → LeavesOnly images since moment old new P → (c : List ℕ) → since new (moment old) c → P c
  leaves_each old new P only here leaves c left =
      ⊎_elim (λ was. here c (only c was)) (λ has. has) (leaves.before (moment old) c (omega arith) left)
