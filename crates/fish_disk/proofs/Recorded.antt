-- How the images of a disk in memory go on when a call is kept in its record.
use Rattle.std.proofs.Common.{◌≡◌, ℕ, ◌+◌, ◌<◌, ◌≤◌, ◌⊎◌, ⊎_elim, inl, inr, List, [], ◌∷◌, ◌++◌, length, get_or, take}
use Rattle.std.proofs.Common.{refl, ap, sym, ◌∙◌, subst, arith, length-append}
use Rattle.std.specs.Prelude.{Result, Ok, Err, OnOk, OnErr, Some, slice_get}
use mathlib.Core.Path.{transport}
use Rattle.std.proofs.Math.ListN.{get_or-append}
use Rattle.std.proofs.Math.Nat.{eq-or-lt_of_le}
use Rattle.std.proofs.Math.Seq.{get_or-append_seam}
use Rattle.std.proofs.lemmas.List.{take_all, take-append-le, take_more}
use Rattle.std.proofs.lemmas.Option.{slice_get-get_or, slice_get_past}
use Rattle.fish_disk.specs.Calls.{LeftAt, LeftNow, LeftSince, Only, WasRead, after_call, after_calls}
use Rattle.fish_disk.specs.Crash.{LeavesOnly, Torn, TornFrom}
use Rattle.fish_disk.specs.Memory.{bytes_of, images_of, moment_of, since_of}
use Rattle.fish_disk.specs.declared.call.Call.{Call}
use Rattle.fish_disk.specs.declared.call.Call.TheVariants.{Write, Sync, Other}
use Rattle.fish_disk.specs.declared.memory.MemoryDisk.{MemoryDisk}
use Rattle.fish_disk.proofs.Moments.{leaves_more}
use Rattle.fish_disk.proofs.Regions.{torn_same}

-- what follows from either end of a step follows from the step
pub by_result : {T E : Type 0} (r : Result T E) (A B C : Type 0) →
    OnOk r A → OnErr r B → (A → C) → (B → C) → C
by_result (Ok x) A B C ok err f g = f ok
by_result (Err e) A B C ok err f g = g err

-- one more call comes after all the others
pub after_calls-push : (images : List ℕ → Type 0) (calls : List Call) (call : Call) (c : List ℕ) →
    after_calls images (calls ++ call ∷ []) c ≡ after_call call (after_calls images calls) c
after_calls-push images [] call c = refl
after_calls-push images (first ∷ calls) call c = after_calls-push (after_call first images) calls call c

-- what the record says of the images, where its call may leave what has P
pub after-push : (first : List ℕ) (calls : List Call) (call : Call) (P : List ℕ → Type 0) (c : List ℕ) →
    ((d : List ℕ) → after_call call (after_calls (Only first) calls) d → P d)
    → after_calls (Only first) (calls ++ call ∷ []) c → P c
after-push first calls call P c has left =
    has c (subst (λ (T : Type 0). T) (after_calls-push (Only first) calls call c) left)

-- up to a moment before the last call the record is the old one
earlier : (first : List ℕ) (calls : List Call) (call : Call) (k : ℕ) (c : List ℕ) →
    k ≤ length calls → after_calls (Only first) (take k (calls ++ call ∷ [])) c
    → after_calls (Only first) (take k calls) c
earlier first calls call k c le left =
    subst (λ some. after_calls (Only first) some c) (take-append-le k calls (call ∷ []) le) left

-- the calls before the last are the old ones
pub earlier_call : (calls : List Call) (call : Call) (k : ℕ) →
    k < length calls → slice_get (calls ++ call ∷ []) k ≡ slice_get calls k
earlier_call calls call k within =
    slice_get-get_or (calls ++ call ∷ []) k call (omega (arith, length-append calls (call ∷ [])))
    ∙ ap Some (get_or-append calls (call ∷ []) call k within) ∙ sym (slice_get-get_or calls k call within)

-- the last call is after them
pub last_call : (calls : List Call) (call : Call) → slice_get (calls ++ call ∷ []) (length calls) ≡ Some call
last_call calls call =
    slice_get-get_or (calls ++ call ∷ []) (length calls) call (omega (arith, length-append calls (call ∷ [])))
    ∙ ap Some (get_or-append_seam calls call [] call)

-- nothing was read as a call began that there isn't
pub none_read : (calls : List Call) (k : ℕ) (c : List ℕ) {P : Type 0} →
    length calls ≤ k → WasRead (slice_get calls k) c → P
none_read calls k c past read = absurd (subst (λ call. WasRead call c) (slice_get_past calls k past) read)

-- what was read as a call began: as an old one, or as the last one, or there was none
read-push : (first bytes : List ℕ) (calls : List Call) (call : Call) (t k : ℕ) (c : List ℕ) →
    ((d : List ℕ) → WasRead (Some call) d → d ≡ bytes) → t ≤ k → k ≤ length calls
    → WasRead (slice_get (calls ++ call ∷ []) k) c → LeftSince first bytes calls t c
read-push first bytes calls call t k c found later within read =
    ⊎_elim
    (λ last.
    let at_end : slice_get (calls ++ call ∷ []) k ≡ Some call =
    ap (slice_get (calls ++ call ∷ [])) last ∙ last_call calls call in
    inl (inl (found c (subst (λ some. WasRead some c) at_end read))))
    (λ less. inr (k, later, within, inr (subst (λ some. WasRead some c) (earlier_call calls call k less) read)))
    (eq-or-lt_of_le within)

-- at some moment so far: either now, or the old record says so
at-push : (first bytes now : List ℕ) (calls : List Call) (call : Call) (P : List ℕ → Type 0) (t k : ℕ) (c : List ℕ) →
    ((d : List ℕ) → LeftNow first now (calls ++ call ∷ []) d → P d)
    → ((d : List ℕ) → WasRead (Some call) d → d ≡ bytes) → t ≤ k → k ≤ length (calls ++ call ∷ [])
    → LeftAt first (calls ++ call ∷ []) k c → LeftSince first bytes calls t c ⊎ P c
at-push first bytes now calls call P t k c has found later within (inl after) =
    ⊎_elim
    (λ same.
    let whole : take k (calls ++ call ∷ []) ≡ calls ++ call ∷ [] =
    take_all k (calls ++ call ∷ []) (omega (arith, same)) in
    inr (has c (inr (subst (λ some. after_calls (Only first) some c) whole after))))
    (λ less.
    let le : k ≤ length calls = omega (arith, less, length-append calls (call ∷ [])) in
    inl (inr (k, later, le, inl (earlier first calls call k c le after))))
    (eq-or-lt_of_le within)
at-push first bytes now calls call P t k c has found later within (inr read) =
    ⊎_elim
    (λ same. none_read (calls ++ call ∷ []) k c (omega (arith, same)) read)
    (λ less. inl (read-push first bytes calls call t k c found later (omega (arith, less, length-append calls (call ∷ []))) read))
    (eq-or-lt_of_le within)

-- since some moment so far, likewise
since-push : (first bytes now : List ℕ) (calls : List Call) (call : Call) (P : List ℕ → Type 0) (t : ℕ) (c : List ℕ) →
    ((d : List ℕ) → LeftNow first now (calls ++ call ∷ []) d → P d)
    → ((d : List ℕ) → WasRead (Some call) d → d ≡ bytes)
    → LeftSince first now (calls ++ call ∷ []) t c → LeftSince first bytes calls t c ⊎ P c
since-push first bytes now calls call P t c has found (inl here) = inr (has c here)
since-push first bytes now calls call P t c has found (inr was) =
    at-push first bytes now calls call P t was.0 c has found was.1 was.2 was.3

-- where nothing was kept in the record and no byte changed, a crash
-- leaves what it left before
pub unrecorded : (old new : MemoryDisk) →
    new.first ≡ old.first → bytes_of new ≡ bytes_of old → new.calls ≡ old.calls
    → LeavesOnly images_of since_of moment_of old new (images_of old)
unrecorded old new first bytes calls =
    let now : (c : List ℕ) → images_of new c → images_of old c =
    λ c here. transport (λ i. LeftNow (first i) (bytes i) (calls i) c) here in
    record {
      later = omega (arith, ap length calls);
      now = now;
      before = λ t c le left. inl (transport (λ i. LeftSince (first i) (bytes i) (calls i) t c) left);
    }

-- where one call was kept, a crash leaves what it leaves now, beside what it left before
pub recorded : (old new : MemoryDisk) (call : Call) (P : List ℕ → Type 0) →
    new.first ≡ old.first → new.calls ≡ old.calls ++ call ∷ []
    → ((c : List ℕ) → images_of new c → P c) → ((c : List ℕ) → WasRead (Some call) c → c ≡ bytes_of old)
    → LeavesOnly images_of since_of moment_of old new P
recorded old new call P first calls here found =
    let has : (d : List ℕ) → LeftNow old.first (bytes_of new) (old.calls ++ call ∷ []) d → P d =
    λ d left. here d (transport (sym (λ i. LeftNow (first i) (bytes_of new) (calls i) d)) left) in
    record {
      later = omega (arith, ap length calls, length-append old.calls (call ∷ []));
      now = here;
      before = λ t c le left.
          since-push old.first (bytes_of old) (bytes_of new) old.calls call P t c has found
          (transport (λ i. LeftSince (first i) (bytes_of new) (calls i) t c) left);
    }

-- a call that changes nothing leaves what was left before
pub looked : (old new : MemoryDisk) →
    new.first ≡ old.first → bytes_of new ≡ bytes_of old → new.calls ≡ old.calls ++ Other ∷ []
    → LeavesOnly images_of since_of moment_of old new (images_of old)
looked old new first bytes calls =
    recorded old new Other (images_of old) first calls
    (λ c left. ⊎_elim
    (λ same. inl (same ∙ bytes))
    (λ after. inr (after-push old.first old.calls Other (after_calls (Only old.first) old.calls) c (λ d it. it)
    (transport (λ i. after_calls (Only (first i)) (calls i) c) after)))
    left)
    (λ c none. absurd none)

-- a sync leaves the content that it brought over
pub kept : (old new : MemoryDisk) →
    new.first ≡ old.first → bytes_of new ≡ bytes_of old → new.calls ≡ old.calls ++ Sync (bytes_of old) ∷ []
    → (c : List ℕ) → images_of new c → c ≡ bytes_of old
kept old new first bytes calls c left =
    ⊎_elim
    (λ same. same ∙ bytes)
    (λ after. after-push old.first old.calls (Sync (bytes_of old)) (λ d. d ≡ bytes_of old) c (λ d it. it)
    (transport (λ i. after_calls (Only (first i)) (calls i) c) after))
    left

-- so after a sync a crash leaves only what was left before
pub synced : (old new : MemoryDisk) →
    new.first ≡ old.first → bytes_of new ≡ bytes_of old → new.calls ≡ old.calls ++ Sync (bytes_of old) ∷ []
    → LeavesOnly images_of since_of moment_of old new (images_of old)
synced old new first bytes calls =
    recorded old new (Sync (bytes_of old)) (images_of old) first calls
    (λ c left. inl (kept old new first bytes calls c left)) (λ c none. absurd none)

-- a write leaves what a torn write leaves of an old image, whatever became of the bytes that are read
pub wrote : (old new : MemoryDisk) (at : ℕ) (piece : List ℕ) →
    new.first ≡ old.first → new.calls ≡ old.calls ++ Write at piece (bytes_of old) ∷ []
    → Torn at (length piece) (bytes_of old) (bytes_of new)
    → LeavesOnly images_of since_of moment_of old new (TornFrom (images_of old) at (length piece))
wrote old new at piece first calls torn =
    let P = TornFrom (images_of old) at (length piece) in
    recorded old new (Write at piece (bytes_of old)) P first calls
    (λ c left. ⊎_elim
    (λ same. (bytes_of old, inl refl, subst (λ d. Torn at (length piece) (bytes_of old) d) (sym same) torn))
    (λ after. after-push old.first old.calls (Write at piece (bytes_of old)) P c
    (λ d from. (from.0, inr from.1, from.2))
    (transport (λ i. after_calls (Only (first i)) (calls i) c) after))
    left)
    (λ c same. same)

-- a write that wasn't even kept in the record leaves what one may leave that was cut short at once
pub not_wrote : (old new : MemoryDisk) (at n : ℕ) →
    new.first ≡ old.first → bytes_of new ≡ bytes_of old → new.calls ≡ old.calls
    → LeavesOnly images_of since_of moment_of old new (TornFrom (images_of old) at n)
not_wrote old new at n first bytes calls =
    leaves_more images_of since_of moment_of old new (images_of old) (TornFrom (images_of old) at n)
    (λ c here. (c, here, torn_same at n c))
    (unrecorded old new first bytes calls)

-- a call that leaves this of one image leaves it of all images
left_of : (call : Call) (images : List ℕ → Type 0) (d c : List ℕ) →
    images d → after_call call (Only d) c → after_call call images c
left_of (Write at piece before) images d c here left =
    (left.0, subst images (sym left.1) here, left.2)
left_of (Sync content) images d c here left = left
left_of Other images d c here left = subst images (sym left) here

-- what is left goes on by one call of the record
pub replayed : (first : List ℕ) (calls : List Call) (k : ℕ) (call : Call) (d c : List ℕ) →
    k < length calls → call ≡ get_or calls k call
    → after_calls (Only first) (take k calls) d → after_call call (Only d) c
    → after_calls (Only first) (take (k + 1) calls) c
replayed first calls k call d c within is here left =
    let same : take (k + 1) calls ≡ take k calls ++ call ∷ [] =
    take_more calls k call within ∙ ap (λ x. take k calls ++ x ∷ []) (sym is) in
    subst (λ some. after_calls (Only first) some c) (sym same)
    (transport (sym (after_calls-push (Only first) (take k calls) call c))
    (left_of call (after_calls (Only first) (take k calls)) d c here left))
