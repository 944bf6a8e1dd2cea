-- A disk in memory, by its record of calls.
use Rattle.std.specs.Prelude.{◌≡◌, ℕ, ◌≤◌, List, [], length, None, unwrap_or}
use mathlib.Core.Logic.{inl, inr}
use Rattle.std.proofs.Common.{subst, le_trans}
use Rattle.std.proofs.lemmas.List.{take_all}
use Rattle.std.proofs.lemmas.Option.{slice_get_past}
use Rattle.fish_outside.specs.Memory.{new_plan}
use Rattle.fish_disk.specs.Calls.{LeftAt, LeftNow, LeftSince, Only, WasRead, after_calls}
use Rattle.fish_disk.specs.declared.memory.MemoryDisk.{MemoryDisk}

-- all its bytes: those of the last write, or the first ones
abbrev pub bytes_of : MemoryDisk → List ℕ
bytes_of disk = unwrap_or disk.written disk.first

-- what a crash now may leave of it
abbrev pub images_of : MemoryDisk → List ℕ → Type 0
images_of disk c = LeftNow disk.first (bytes_of disk) disk.calls c

-- what a crash since moment t may have left of it
abbrev pub since_of : MemoryDisk → ℕ → List ℕ → Type 0
since_of disk t c = LeftSince disk.first (bytes_of disk) disk.calls t c

-- how many calls it has kept
abbrev pub moment_of : MemoryDisk → ℕ
moment_of disk = length disk.calls

-- a disk of these bytes that has had no call, and whose calls of these numbers are to fail
pub record IsNew (disk : MemoryDisk) (content failing : List ℕ) : Type 0 where
  pub first : disk.first ≡ content
  pub written : disk.written ≡ None
  pub calls : disk.calls ≡ []
  pub plan : disk.plan ≡ new_plan failing

-- at the last moment a crash left nothing else than now
only_now_at : (disk : MemoryDisk) (k : ℕ) (c : List ℕ) → length disk.calls ≤ k → LeftAt disk.first disk.calls k c → images_of disk c
only_now_at disk k c last (inl after) =
    inr (subst (λ calls. after_calls (Only disk.first) calls c) (take_all k disk.calls last) after)
only_now_at disk k c last (inr read) = absurd (subst (λ call. WasRead call c) (slice_get_past disk.calls k last) read)

-- so since now there is nothing else than now
pub only_now_of : (disk : MemoryDisk) (c : List ℕ) → since_of disk (moment_of disk) c → images_of disk c
only_now_of disk c (inl now) = now
only_now_of disk c (inr was) = only_now_at disk was.0 c was.1 was.3

-- since a later moment a crash may have left less
pub fewer_later_of : (disk : MemoryDisk) (t u : ℕ) (c : List ℕ) → t ≤ u → since_of disk u c → since_of disk t c
fewer_later_of disk t u c later (inl now) = inl now
fewer_later_of disk t u c later (inr was) =
    inr (was.0, le_trans later was.1, was.2, was.3)
