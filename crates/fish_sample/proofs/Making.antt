-- The store of a sample, as it is made.
use Rattle.std.proofs.Common.{[], ◌≡◌, ℕ, List, Option, Some, map, refl, sym, ap, ◌∙◌, subst}
use Rattle.fish_catalog.specs.Clamps.{clamped}
use Rattle.fish_catalog.specs.declared.commit.Commit.{Commit}
use Rattle.fish_catalog.specs.declared.entry.Entry.{Entry}
use Rattle.fish_disk.specs.declared.disk.Disk.{Ghosts as Disks}
use Rattle.fish_recover.specs.Stores.{HasOpened, IsImageAsked, IsOpened, asked_shape}
use Rattle.fish_recover.specs.declared.opened.Opened.{Opened}
use Rattle.fish_store.proofs.Opening.{opened_sound}
use Rattle.fish_store.specs.Opened.{IsOfOpened, first_past}
use Rattle.fish_store.specs.Sound.{Point, Sound}
use Rattle.fish_store.specs.declared.store.Store.{Store}
use Rattle.std.proofs.Common.{Bool, true, false, None, Result, Ok, Err}
use Rattle.std.proofs.lemmas.Bool.{false≢true}
use Rattle.std.specs.Prelude.{IfOk, IfSome, IsSome}
use Rattle.fish_flush.specs.Kept.{first_commit}
use Rattle.fish_recover.specs.declared.refusal.Asked.{Asked}
use Rattle.fish_sample.specs.within.Blocks.{IsAlwaysShown, IsSampleStore, IsOfMade}
use Rattle.fish_lanes.proofs.Beginning.{between_opened}
use Rattle.fish_lanes.specs.Between.{IsBetweenBlocks}
use Rattle.fish_rule.specs.declared.table.Log.{Log}
use Rattle.fish_store.proofs.Opened.{opened_at}

module _ {D : Type 0} (disks : Disks D) (disk : D) (c : Commit) (log : List Entry) (o : Opened)
    (h : IsOpened (disks.content disk) (disks.images disk) c log o) where
  module _ (s : Store) (m : IsOfOpened o s) where
    -- nothing is in a store of an empty log, of a disk whose content is told
    pub new_made : ((i : List ℕ) → disks.content disk ≡ Some i → disks.images disk i) → IsSome (disks.content disk) → log ≡ []
        → c.count ≡ 0 → c.rows ≡ []
        → IsSampleStore disks disk s
    new_made read told nothing count rows = record {
      between = subst (IsBetweenBlocks disks.images disk s) (ap (λ (z : Log). z.key.number) m.log ∙ h.number ∙ count)
          (between_opened disks disk c log o h s m);
      rows = m.rows ∙ h.catalog ∙ ap (map (clamped c.count)) rows;
      past = first_past log o;
      nothing = nothing;
      sound = subst (λ (z : Point D). Sound disks z (first_past log o)) (sym (opened_at o s m disk))
          (opened_sound disks disk c log o h read told);
    }

-- a store that was made of an empty disk is new
made_new : {D : Type 0} (disks : Disks D) (before after : D)
    → ((i : List ℕ) → disks.content after ≡ Some i → disks.images after i) → IsAlwaysShown disks.content
    → disks.content before ≡ Some [] → (asked : Asked)
    → (o : Opened) → HasOpened (disks.content before) (disks.content after) (disks.images after) asked o → (s : Store) → IsOfMade o s
    → IsSampleStore disks after s
made_new disks before after read told empty asked o h s m =
    by (disks.content after) refl (told after) h.was
  where
    of : (made : Bool) → made ≡ true → (c : Commit) (log : List Entry) (i : List ℕ) → IsImageAsked asked made c log i
        → (log ≡ []) × (c ≡ first_commit (asked_shape asked))
    of true is c log i k = (k.2, k.1)
    of false is c log i k = absurd (false≢true is)

    by : (now : Option (List ℕ)) → disks.content after ≡ now → IsSome now
        → IfSome now (λ x. (i : List ℕ) × (disks.content before ≡ Some i) × IsImageAsked asked o.made h.commit h.log i)
        → IsSampleStore disks after s
    by None is some was = absurd (let bad = some in cc)
    by (Some x) is some was =
        let k = of o.made m.made h.commit h.log was.0 was.2 in
        new_made disks after h.commit h.log o h.opened s m.of read (told after) k.0
        (ap (λ (z : Commit). z.count) k.1) (ap (λ (z : Commit). z.rows) k.1)

pub new_opened : {D E : Type 0} (disks : Disks D) (before after : D)
    → ((i : List ℕ) → disks.content after ≡ Some i → disks.images after i) → IsAlwaysShown disks.content
    → disks.content before ≡ Some [] → (asked : Asked)
    → (o : Opened) → HasOpened (disks.content before) (disks.content after) (disks.images after) asked o → (r : Result Store E)
    → IfOk r (IsOfMade o)
    → IfOk r (IsSampleStore disks after)
new_opened disks before after read told empty asked o h (Ok s) m = made_new disks before after read told empty asked o
    h s m
new_opened disks before after read told empty asked o h (Err e) m = m
