-- From block to block.
use Rattle.std.proofs.Common.{◌≡◌, ◌<◌, ◌∷◌, [], Some, List, refl, arith, length, slice_get, subst, sym, ◌∙◌}
use Rattle.fish_disk.specs.declared.disk.Disk.{Ghosts as Disks}
use Rattle.fish_lanes.proofs.Controls.{each_last}
use Rattle.fish_lanes.proofs.Lists.{some_once}
use Rattle.fish_lanes.specs.Between.{IsBetweenBlocks}
use Rattle.fish_lanes.specs.Blocks.{HasRegistered, control_items}
use Rattle.fish_lanes.specs.Leaving.{LeavesStore}
use Rattle.fish_lanes.specs.Registering.{KnowsRegistry, registry_of}
use Rattle.fish_lanes.specs.declared.block.BlockEnd.{BlockEnd}
use Rattle.fish_lanes.specs.declared.lane.Lane.{Lane}
use Rattle.fish_lanes.specs.declared.work.LaneFault.TheVariants as cause
use Rattle.fish_rule.specs.Passes.{view}
use Rattle.fish_store.specs.declared.store.Store.{Store}

-- a list that is not empty has a first element
pub first_of : {A : Type 0} (xs : List A) → 0 < length xs → (x : A) × (slice_get xs 0 ≡ Some x)
first_of [] less = absurd (omega (less, arith))
first_of (x ∷ xs) less = (x, refl)

-- where the first lane met no fault the definitions that its items say are known, a checkpoint may follow, and so may a block
pub between_after : {D : Type 0} (disks : Disks D) (disk : D) (s : Store) (disk' : D) (t : Store) (lanes : List Lane) (end : BlockEnd)
    → LeavesStore disks disk s disk' t lanes end
    → ((x : Lane) → slice_get lanes 0 ≡ Some x → HasRegistered (view s.pass) (view t.pass) s.registrar t.registrar x end)
    → (x : Lane) → slice_get lanes 0 ≡ Some x → x.fault ≡ cause.None → IsBetweenBlocks disks.images disk' t end.to
between_after disks disk s disk' t lanes end leaves registered x at whole =
    let r = registry_of (view s.pass) s.registrar in
    let has = registered x at in
    record {
      can = leaves.can;
      commit = leaves.again (λ y there failed.
          (let same = subst (λ (z : Lane). z.fault ≡ cause.None) (some_once x y (sym at ∙ there)) whole in
          let bad : cause.None ≡ cause.Disk = sym same ∙ failed in absurd cc));
      below = leaves.below;
      end = leaves.ends;
      known = subst (KnowsRegistry (view t.pass)) (sym (has.is whole))
          (each_last (KnowsRegistry (view t.pass)) r (control_items x end) (has.each whole));
    }
