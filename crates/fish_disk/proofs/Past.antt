-- That a disk in memory keeps its past: what a crash since some moment could have left stays so over each call.
use Rattle.std.proofs.Common.{◌≡◌, ℕ, ◌≤◌, ◌⊎◌, ⊎_elim, inl, inr, List, [], ◌∷◌, ◌++◌, length, take}
use Rattle.std.proofs.Common.{sym, ◌∙◌, subst, arith, length-append}
use Rattle.std.specs.Prelude.{Some}
use mathlib.Core.Path.{transport}
use Rattle.std.proofs.Math.Nat.{eq-or-lt_of_le}
use Rattle.std.proofs.lemmas.List.{take_all, take-append-le}
use Rattle.fish_disk.specs.Calls.{LeftAt, LeftSince, Only, WasRead, after_calls}
use Rattle.fish_disk.specs.Memory.{bytes_of, moment_of, since_of}
use Rattle.fish_disk.specs.declared.call.Call.{Call}
use Rattle.fish_disk.specs.declared.memory.MemoryDisk.{MemoryDisk}
use Rattle.fish_disk.proofs.Recorded.{earlier_call, last_call, none_read}

-- what a crash at a moment left, it left there, whatever call comes
at-stays : (first : List ℕ) (calls : List Call) (call : Call) (k : ℕ) (c : List ℕ) →
    k ≤ length calls → LeftAt first calls k c → LeftAt first (calls ++ call ∷ []) k c
at-stays first calls call k c within (inl after) =
    inl (subst (λ some. after_calls (Only first) some c) (sym (take-append-le k calls (call ∷ []) within)) after)
at-stays first calls call k c within (inr read) =
    ⊎_elim
    (λ same. none_read calls k c (omega (arith, same)) read)
    (λ less. inr (subst (λ some. WasRead some c) (sym (earlier_call calls call k less)) read))
    (eq-or-lt_of_le within)

-- what a crash now could leave, it could leave at the last moment of the record, or leaves it now
now-stays : (first bytes now : List ℕ) (calls : List Call) (call : Call) (t : ℕ) (c : List ℕ) →
    ((c ≡ bytes) → (c ≡ now) ⊎ WasRead (Some call) c) → t ≤ length calls
    → (c ≡ bytes) ⊎ after_calls (Only first) calls c → LeftSince first now (calls ++ call ∷ []) t c
now-stays first bytes now calls call t c goes later (inl same) =
    ⊎_elim
    (λ here. inl (inl here))
    (λ read. inr (
      length calls,
      later,
      omega (arith, length-append calls (call ∷ [])),
      inr (subst (λ some. WasRead some c) (sym (last_call calls call)) read),
    ))
    (goes same)
now-stays first bytes now calls call t c goes later (inr after) =
    let whole : take (length calls) (calls ++ call ∷ []) ≡ calls =
    take-append-le (length calls) calls (call ∷ []) (omega arith) ∙ take_all (length calls) calls (omega arith) in
    inr (
      length calls,
      later,
      omega (arith, length-append calls (call ∷ [])),
      inl (subst (λ some. after_calls (Only first) some c) (sym whole) after),
    )

-- so it is since each moment
since-stays : (first bytes now : List ℕ) (calls : List Call) (call : Call) (t : ℕ) (c : List ℕ) →
    ((c ≡ bytes) → (c ≡ now) ⊎ WasRead (Some call) c) → t ≤ length calls
    → LeftSince first bytes calls t c → LeftSince first now (calls ++ call ∷ []) t c
since-stays first bytes now calls call t c goes later (inl here) = now-stays first bytes now calls call t c goes later here
since-stays first bytes now calls call t c goes later (inr was) =
    inr (was.0, was.1, omega (arith, was.2, length-append calls (call ∷ [])), at-stays first calls call was.0 c was.2 was.3)

-- the past is kept where a call is, which changes no byte or is a write that found them
pub recorded_past : (old new : MemoryDisk) (call : Call) →
    new.first ≡ old.first → new.calls ≡ old.calls ++ call ∷ []
    → ((c : List ℕ) → c ≡ bytes_of old → (c ≡ bytes_of new) ⊎ WasRead (Some call) c)
    → (t : ℕ) (c : List ℕ) → t ≤ moment_of old → since_of old t c → since_of new t c
recorded_past old new call first calls goes t c later left =
    transport (sym (λ i. LeftSince (first i) (bytes_of new) (calls i) t c))
    (since-stays old.first (bytes_of old) (bytes_of new) old.calls call t c (goes c) later left)

-- the past is kept where no call is and no byte changes
pub unrecorded_past : (old new : MemoryDisk) →
    new.first ≡ old.first → bytes_of new ≡ bytes_of old → new.calls ≡ old.calls
    → (t : ℕ) (c : List ℕ) → t ≤ moment_of old → since_of old t c → since_of new t c
unrecorded_past old new first bytes calls t c later left =
    transport (sym (λ i. LeftSince (first i) (bytes i) (calls i) t c)) left
