-- The log that is closed where it could be shown, and the fault with which it is.
use Rattle.std.proofs.Common.{◌≡◌, None, Option, Some, refl, subst}
use Rattle.std.specs.Prelude.{IfSome}
use Rattle.fish_rule.specs.declared.close.Remains.{Remains}
use Rattle.fish_store.specs.declared.store.Store.{Store}

-- what is so of a store that is there
pub store_is : (P : Store → Type 0) (o : Option Store) (x : Store) → o ≡ Some x → IfSome o P → P x
store_is P o x is h = (let k : IfSome (Some x) P = subst (λ (z : Option Store). IfSome z P) is h in k)

-- ---- the log that is closed

-- it is there where no fault came
pub shown_some : (P Q : Remains → Type 0) (o : Option Remains) → (o ≡ None → ⊥) → IfSome o P → ((r : Remains) → P r → Q r)
    → (r : Remains) × (o ≡ Some r) × Q r
shown_some P Q (Some r) some h f = (r, refl, f r h)
shown_some P Q None some h f = absurd (some refl)

-- and what is so of it is so of the one that is known
pub shown_is : (P Q : Remains → Type 0) (o : Option Remains) (r : Remains) → o ≡ Some r → IfSome o P → (P r → Q r) → Q r
shown_is P Q o r is h f = (let k : IfSome (Some r) P = subst (λ (z : Option Remains). IfSome z P) is h in f k)
