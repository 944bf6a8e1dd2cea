-- What is said of an opening that was refused from outside: the disk failed, or memory ran out.
use Rattle.std.proofs.Common.{◌≡◌, ℕ, ◌<◌, ◌≤◌, List, length, refl, subst, sym, arith}
use Rattle.std.specs.Prelude.{Option, Some, None, IfSome, Result, Ok, Err, IfErr, IfOk, IsErrAnd, IsErrOf, OnOk}
use Rattle.fish_disk.proofs.Regions.{told_at}
use Rattle.fish_disk.specs.Content.{StillReads}
use Rattle.fish_flush.specs.Causes.{HasFlushCause}
use Rattle.fish_flush.specs.declared.refusal.FlushRefusal.{FlushRefusal}
use Rattle.fish_flush.specs.declared.refusal.FlushRefusal.TheVariants as flush
use Rattle.fish_recover.specs.Choosing.{HasOpenCause}
use Rattle.fish_recover.specs.Opening.{IsOfStore, IsOpenCause}
use Rattle.fish_recover.specs.within.Opening.{IsOutside}
use Rattle.fish_recover.specs.Stores.{IsStoreCause}
use Rattle.fish_recover.specs.within.Stores.{IsFlushed}
use Rattle.fish_recover.specs.declared.refusal.Asked.{Asked}
use Rattle.fish_recover.specs.declared.refusal.OpenRefusal.{OpenRefusal}
use Rattle.fish_recover.specs.declared.refusal.OpenRefusal.TheVariants.{Damaged, DiskFault, NotAStore, OutOfMemory, ShapeDiffers}

-- ---- one refusal

module _ {T : Type 0} (x : OpenRefusal) where
  -- nothing is answered
  pub err_ok : (r : Result T OpenRefusal) (P : T → Type 0) → IsErrAnd r (λ e. e ≡ x) → IfOk r P
  err_ok (Ok a) P h = elim h [ ]
  err_ok (Err e) P h = tt

  pub err_on : (r : Result T OpenRefusal) (P : Type 0) → IsErrAnd r (λ e. e ≡ x) → OnOk r P
  err_on (Ok a) P h = elim h [ ]
  err_on (Err e) P h = tt

  -- and what holds of the refusal holds
  pub err_is : (r : Result T OpenRefusal) (P : OpenRefusal → Type 0) → IsErrAnd r (λ e. e ≡ x) → P x → IfErr r P
  err_is (Ok a) P h p = tt
  err_is (Err e) P h p = subst P (sym h) p

-- what a refusal gives another one gives
pub err_then : {T : Type 0} (r : Result T OpenRefusal) (P Q : OpenRefusal → Type 0) → IfErr r P → ((e : OpenRefusal) → P e → Q e)
    → IfErr r Q
err_then (Ok a) P Q h f = tt
err_then (Err e) P Q h f = f e h

-- of two clauses
pub err_both : {T : Type 0} (r : Result T OpenRefusal) (P Q R : OpenRefusal → Type 0) → IfErr r P → IfErr r Q
    → ((e : OpenRefusal) → P e → Q e → R e) → IfErr r R
err_both (Ok a) P Q R h g f = tt
err_both (Err e) P Q R h g f = f e h g

pub ok_both : {T : Type 0} (r : Result T OpenRefusal) (P Q R : T → Type 0) → IfOk r P → IfOk r Q → ((a : T) → P a → Q a → R a)
    → IfOk r R
ok_both (Ok a) P Q R h g f = f a h g
ok_both (Err e) P Q R h g f = tt

pub ok_then : {T : Type 0} (r : Result T OpenRefusal) (P Q : T → Type 0) → IfOk r P → ((a : T) → P a → Q a) → IfOk r Q
ok_then (Ok a) P Q h f = f a h
ok_then (Err e) P Q h f = tt

-- ---- from outside

-- a refusal from outside is a cause of its own
pub outside_open : (e : OpenRefusal) (x : Option (List ℕ)) (asked : Asked) → IsOutside e → IfSome x (λ i. IsOpenCause i asked e)
outside_open NotAStore x asked h = absurd h
outside_open (Damaged n) x asked h = absurd h
outside_open (ShapeDiffers kept other) x asked h = absurd h
outside_open DiskFault None asked h = tt
outside_open DiskFault (Some i) asked h = tt
outside_open OutOfMemory None asked h = tt
outside_open OutOfMemory (Some i) asked h = tt

pub outside_store : (e : OpenRefusal) (x : Option (List ℕ)) (asked : Asked) → IsOutside e → IfSome x (λ i. IsStoreCause i asked e)
outside_store NotAStore x asked h = absurd h
outside_store (Damaged n) x asked h = absurd h
outside_store (ShapeDiffers kept other) x asked h = absurd h
outside_store DiskFault None asked h = tt
outside_store DiskFault (Some i) asked h = tt
outside_store OutOfMemory None asked h = tt
outside_store OutOfMemory (Some i) asked h = tt

-- and doesn't speak of the store
pub outside_not : (P : Type 0) (e : OpenRefusal) → IsOutside e → IsOfStore e → P
outside_not P NotAStore h s = absurd h
outside_not P (Damaged n) h s = absurd h
outside_not P (ShapeDiffers kept other) h s = absurd h
outside_not P DiskFault h s = absurd s
outside_not P OutOfMemory h s = absurd s

-- the refusal of a commit is from outside
pub flushed_outside : (e : FlushRefusal) (f : OpenRefusal) → IsFlushed e f → IsOutside f
flushed_outside flush.DiskFault f is = subst IsOutside (sym is) tt
flushed_outside flush.OutOfMemory f is = subst IsOutside (sym is) tt

-- ---- counts of faults

-- a fault that was found later
pub later_cause : {T : Type 0} (a b c : ℕ) (r : Result T OpenRefusal) → a ≤ b → HasOpenCause b c r → HasOpenCause a c r
later_cause a b c r le h = record {
  later = (let l = h.later in omega arith);
  failed = λ is. (let f = h.failed is in omega arith);
}

-- where memory ran out none need be found
pub memory_cause : {T : Type 0} (a b : ℕ) (r : Result T OpenRefusal) → a ≤ b → IsErrAnd r (λ e. e ≡ OutOfMemory) → HasOpenCause a b r
memory_cause a b (Ok x) le h = elim h [ ]
memory_cause a b (Err e) le h = record { later = le; failed = λ is. absurd (cc (is, h)) }

-- which refusal it is doesn't depend on what might be answered
is_err : {T : Type 0} {e x : OpenRefusal} → IsErrOf {T = T} (Err e) x → e ≡ x
is_err is = cc

same_err : {S : Type 0} {x : OpenRefusal} (e : OpenRefusal) → e ≡ x → IsErrOf {T = S} (Err e) x
same_err e is = cc

-- a refusal that is handed on
pub same_cause : {S T : Type 0} (a b c : ℕ) (e : OpenRefusal) → a ≤ b → HasOpenCause {T = S} b c (Err e)
    → HasOpenCause {T = T} a c (Err e)
same_cause a b c e le h = record {
  later = (let l = h.later in omega arith);
  failed = λ is. (let f = h.failed (same_err e (is_err is)) in omega arith);
}

-- nor where something is answered
pub ok_cause : {T : Type 0} (a b : ℕ) (x : T) → a ≤ b → HasOpenCause {T = T} a b (Ok x)
ok_cause a b x le = record { later = le; failed = λ is. absurd (cc is) }

-- the refusal of a commit has its cause
pub flush_cause : {S T : Type 0} (a b : ℕ) (e : FlushRefusal) (f : OpenRefusal) → HasFlushCause {T = S} a b (Err e) → IsFlushed e f
    → HasOpenCause {T = T} a b (Err f)
flush_cause a b flush.DiskFault f h is = record { later = h.later; failed = λ fault. h.failed refl }
flush_cause a b flush.OutOfMemory f h is = record { later = h.later; failed = λ fault. absurd (cc (fault, is)) }

-- ---- an empty disk

-- why nothing was found is why nothing is open, where the disk isn't empty
pub store_cause : (e : OpenRefusal) (mid new : Option (List ℕ)) (size : ℕ) (asked : Asked) → 0 < size
    → IfSome mid (λ i. size ≡ length i) → IfSome new (λ i. IsOpenCause i asked e) → (IsOfStore e → StillReads mid new)
    → IfSome new (λ i. IsStoreCause i asked e)
store_cause e mid None size asked some is h reads = tt
store_cause NotAStore mid (Some i) size asked some is h reads =
    let same : size ≡ length i = told_at (λ c. size ≡ length c) mid i (reads tt) is in
    (omega arith, h)
store_cause (Damaged n) mid (Some i) size asked some is h reads = h
store_cause (ShapeDiffers kept other) mid (Some i) size asked some is h reads = h
store_cause DiskFault mid (Some i) size asked some is h reads = tt
store_cause OutOfMemory mid (Some i) size asked some is h reads = tt
