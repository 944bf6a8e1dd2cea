-- A store that was opened is that which the disk held, and a crash left nothing else soon after the start.
use Rattle.std.proofs.Common.{◌≡◌, ℕ, ◌+◌, ◌≤◌, inl, inr, List, [], refl, sym, subst, arith}
use Rattle.std.specs.Prelude.{Bool, true, false, Option, Some, None, IfSome, IsSome}
use Rattle.std.proofs.lemmas.Bool.{cases_lt}
use Rattle.fish_catalog.specs.declared.commit.Commit.{Commit}
use Rattle.fish_catalog.specs.declared.entry.Entry.{Entry}
use Rattle.fish_disk.specs.declared.disk.Disk.{Ghosts as Disks}
use Rattle.fish_flush.proofs.Resting.{rest_stands}
use Rattle.fish_image.specs.Stands.{Stands}
use Rattle.fish_recover.specs.Stores.{HasOpened, IsImageAsked, IsOpened, StandsSince}
use Rattle.fish_recover.specs.declared.opened.Opened.{Opened}
use Rattle.fish_recover.specs.declared.refusal.Asked.{Asked}
use Rattle.fish_program.specs.Limits.{first_calls}
use Rattle.fish_program.specs.Stores.{Held, Opens}

-- what is so where content is told is so of content that is
told_is : (x : Option (List ℕ)) (P : Type 0) → IsSome x → IfSome x (λ _. P) → P
told_is None P some h = absurd cc
told_is (Some c) P some h = h

module _ {D : Type 0} (disks : Disks D) (disk mid disk' : D) (asked : Asked) (o : Opened) where
  module _ (c : Commit) (log : List Entry) (is : IsOpened (disks.content mid) (disks.images mid) c log o)
      (some : IsSome (disks.content disk')) where
    -- it was, and from this moment on a crash leaves nothing else
    held_from : (image : List ℕ) → disks.content disk ≡ Some image → IsImageAsked asked o.made c log image → (from : ℕ)
        → from ≤ disks.moment disk + first_calls o.made → from ≤ disks.moment mid → ((i : List ℕ) → disks.since mid from i → Stands c i log)
        → Held disks disk mid disk' asked o c log
    held_from image read was from early within stands = record {
      image = image;
      read = read;
      was = was;
      from = from;
      early = early;
      stood = record { is = is; early = within; stood = stands; told = some };
    }

    -- once it is open, each image stands for its log
    stands_last : ((i : List ℕ) → disks.since mid (disks.moment mid) i → disks.images mid i) → (i : List ℕ)
        → disks.since mid (disks.moment mid) i → Stands c i log
    stands_last only i there = rest_stands (disks.images mid) o.flusher c log is.carries.rest i (only i there)

    -- where it was made, from the end of the opening on
    held_made : ((i : List ℕ) → disks.since mid (disks.moment mid) i → disks.images mid i) → (image : List ℕ)
        → disks.content disk ≡ Some image
        → IsImageAsked asked true c log image → o.made ≡ true → (disks.content disk ≡ Some [] → disks.moment mid ≤ disks.moment disk + 8)
        → Held disks disk mid disk' asked o c log
    held_made only image read was made calls =
        let empty : disks.content disk ≡ Some [] = subst (λ (i : List ℕ). disks.content disk ≡ Some i) was.0 read in
        held_from image read (subst (λ (m : Bool). IsImageAsked asked m c log image) (sym made) was) (disks.moment mid)
        (subst (λ (m : Bool). disks.moment mid ≤ disks.moment disk + first_calls m) (sym made) (calls empty)) (omega arith)
        (stands_last only)

    -- where it was there, from the first call on, or from the end of the opening on if there was none
    held_old : ((i : List ℕ) → disks.since mid (disks.moment mid) i → disks.images mid i) → (image : List ℕ)
        → disks.content disk ≡ Some image
        → IsImageAsked asked false c log image → o.made ≡ false → StandsSince disks.since disks.moment disk mid c log
        → Held disks disk mid disk' asked o c log
    held_old only image read was made since_then = elim (cases_lt (disks.moment mid) since_then.from) [
      | inl over ↦ at (disks.moment mid) (let e = since_then.early in omega arith) (omega arith) (stands_last only)
      | inr within ↦ at since_then.from since_then.early within since_then.stands
    ]
      where
        at : (from : ℕ) → from ≤ disks.moment disk + 1 → from ≤ disks.moment mid → ((i : List ℕ) → disks.since mid from i → Stands c i log)
            → Held disks disk mid disk' asked o c log
        at from early within stands =
            held_from image read (subst (λ (m : Bool). IsImageAsked asked m c log image) (sym made) was) from
            (subst (λ (m : Bool). from ≤ disks.moment disk + first_calls m) (sym made) early) within stands

    -- so it is in both cases
    held_both : ((i : List ℕ) → disks.since mid (disks.moment mid) i → disks.images mid i) → (m : Bool) → o.made ≡ m
        → (image : List ℕ) → disks.content disk ≡ Some image → IsImageAsked asked m c log image
        → (disks.content disk ≡ Some [] → disks.moment mid ≤ disks.moment disk + 8)
        → ((i : List ℕ) (d : Commit) (l : List Entry) → disks.content disk ≡ Some i → Stands d i l
        → StandsSince disks.since disks.moment disk mid d l)
        → Held disks disk mid disk' asked o c log
    held_both only true made image read was calls stood = held_made only image read was made calls
    held_both only false made image read was calls stood =
        held_old only image read was made (stood image c log read was.0)

  -- a store that was opened is one that the disk held, where the disk is told in the end
  pub opens : HasOpened (disks.content disk) (disks.content mid) (disks.images mid) asked o
      → ((i : List ℕ) → disks.since mid (disks.moment mid) i → disks.images mid i)
      → ((i : List ℕ) (d : Commit) (l : List Entry) → disks.content disk ≡ Some i → Stands d i l
      → StandsSince disks.since disks.moment disk mid d l)
      → IfSome (disks.content mid) (λ _. disks.content disk ≡ Some [] → disks.moment mid ≤ disks.moment disk + 8)
      → (IsSome (disks.content disk') → IsSome (disks.content mid))
      → Opens disks disk mid disk' asked o
  opens has only stood calls before = record {
    commit = has.commit;
    log = has.log;
    is = has.opened;
    held = λ some.
        let was = told_is (disks.content mid)
        ((i : List ℕ) × (disks.content disk ≡ Some i) × IsImageAsked asked o.made has.commit has.log i)
        (before some) has.was in
        held_both has.commit has.log has.opened some only o.made refl was.0 was.1 was.2
        (told_is (disks.content mid) (disks.content disk ≡ Some [] → disks.moment mid ≤ disks.moment disk + 8) (before some) calls) stood;
  }
