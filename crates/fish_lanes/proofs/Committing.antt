-- A checkpoint of the control pass.
use Rattle.std.proofs.Common.{◌≡◌, ℕ, ◌≤◌, List, [], ◌∷◌, true, false, None, Result, Ok, Err, refl, sym, ap, ◌∙◌, subst, inl, inr}
use Rattle.std.proofs.Common.{arith}
use Rattle.std.specs.Prelude.{IfErr, IfOk}
use Rattle.fish_flush.specs.Carrying.{HasSettled, ReadsLog}
use Rattle.fish_ingest.specs.Ingestion.{CanStart}
use Rattle.fish_lanes.proofs.Controls.{take_nothing}
use Rattle.fish_lanes.proofs.Gaining.{gains_reads}
use Rattle.fish_lanes.proofs.Lists.{all_more}
use Rattle.fish_lanes.specs.CommitRows.{is_checkpoint}
use Rattle.fish_lanes.specs.Controlling.{CanControl, IsCheckpointAtMost}
use Rattle.fish_lanes.specs.within.Controlled.{IsPartControlled}
use Rattle.fish_lanes.specs.within.Controlling.{HasPolled}
use Rattle.fish_lanes.specs.within.Doing.{FitsCheckpoint, IsFit, IsItem}
use Rattle.fish_lanes.specs.within.Pasts.{anywhere}
use Rattle.fish_lanes.specs.within.Registering.{KeepsRegistry}
use Rattle.fish_lanes.specs.Telling.{count_of}
use Rattle.fish_lanes.specs.declared.work.Work.{Work}
use Rattle.fish_lanes.specs.declared.work.Work.TheVariants as work
use Rattle.fish_registry.proofs.Knowing.{knows_on}
use Rattle.fish_registry.specs.declared.registrar.Registrar.{Registrar}
use Rattle.fish_report.specs.declared.item.Item.{Item}
use Rattle.fish_report.specs.declared.item.Item.TheVariants as item
use Rattle.fish_rule.specs.Passes.{IsPassOf, view}
use Rattle.fish_rule.specs.Views.{AllOf}
use Rattle.fish_rule.specs.declared.table.Log.{Log}
use Rattle.fish_rule.specs.declared.table.Pass.{Pass}
use Rattle.fish_rule.specs.declared.view.View.{View}
use Rattle.fish_whole.specs.Whole.{Whole}

-- the control pass can go on where it only read
pub reads_control : (log : Log) (p q : Pass) (r : Registrar) → CanControl log p r → IsPassOf log q → ReadsLog (view p) (view q)
    → CanControl log q r
reads_control log p q r can of reads =
    let frame = reads.frame in
    record {
      of = of;
      start = record {
        live = subst (λ (n : ℕ). 1 ≤ n) (sym (ap (λ (z : View). z.lane) frame)) can.start.live;
        outside = ap (λ (z : View). z.epoch) frame ∙ can.start.outside;
      };
      knows = knows_on (view p) (view q) r (ap (λ (z : View). z.lane) frame) (ap (λ (z : View). z.rows) frame)
          (ap (λ (z : View). z.control_words) frame) (ap (λ (z : View). z.round) frame) reads.learns can.knows;
    }

-- what was settled and counted is what the item tells
pub commit_fits : (v u : View) (n : ℕ) (x : Item) → x ≡ item.Checkpointed n → HasSettled v u n → n ≤ u.learned.count
    → FitsCheckpoint v u x
commit_fits v u n x is h counted = record {
  count = n;
  is = is;
  above = h.rises;
  settled = h.settled;
  counted = counted;
  exact = λ alone. (h.count, h.rests alone, h.ends alone, h.known);
}

-- the definitions are the same
pub keeps_reads : (v u : View) → ReadsLog v u → KeepsRegistry v u
keeps_reads v u h = record {
  rows = ap (λ (z : View). z.rows) h.frame;
  control_words = ap (λ (z : View). z.control_words) h.frame;
  round = ap (λ (z : View). z.round) h.frame;
}

-- so a statement that commits has its item
pub commit_item : {E : Type 0} (v u : View) (r : Result Item E) → CanStart v → v.flight ≡ None → ReadsLog v u → IfOk r (FitsCheckpoint v u)
    → IfOk r (IsItem anywhere v u work.Checkpoint)
commit_item v u (Err e) start idle reads fit = tt
commit_item v u (Ok x) start idle reads fit = record {
  gained = record {
    registry = keeps_reads v u reads;
    rows = [];
    gains = gains_reads v u start.outside idle reads;
    first = take_nothing (count_of x) work.Checkpoint refl;
  };
  fit = fit;
  shuts = λ shut e. inl (sym (ap (λ (z : View). z.shut) reads.frame) ∙ e);
}

-- and a part of it is one
pub commit_part : {E : Type 0} (v u : View) (r : Result Item E) → CanStart v → v.flight ≡ None → ReadsLog v u
    → IfErr r (λ _. IsPartControlled v u work.Checkpoint)
commit_part v u (Ok x) start idle reads = tt
commit_part v u (Err e) start idle reads = record {
  rows = [];
  count = 0;
  gains = gains_reads v u start.outside idle reads;
  first = take_nothing 0 work.Checkpoint refl;
}

-- ---- what items tell of commits

-- no item of another statement tells of one
pub other_fit : (Past : Whole → Type 0) (u t : View) (w : Work) (x : Item) → (w ≡ work.Checkpoint → ⊥) → IsFit Past u t w x
    → is_checkpoint x ≡ false
other_fit Past u t (work.Register name def) x other (inl f) = ap is_checkpoint f.2
other_fit Past u t (work.Register name def) x other (inr (inl f)) = ap is_checkpoint f.3
other_fit Past u t (work.Register name def) x other (inr (inr f)) = ap is_checkpoint f.1
other_fit Past u t (work.Deregister name) x other (inl f) = ap is_checkpoint f.2
other_fit Past u t (work.Deregister name) x other (inr f) = ap is_checkpoint f.1
other_fit Past u t (work.Ingest form begin name file) x other (inl f) = ap is_checkpoint f.is
other_fit Past u t (work.Ingest form begin name file) x other (inr (inl f)) = ap is_checkpoint f.is
other_fit Past u t (work.Ingest form begin name file) x other (inr (inr f)) = ap is_checkpoint f.is
other_fit Past u t (work.Scan ask) x other (inl f) = ap is_checkpoint f.is
other_fit Past u t (work.Scan ask) x other (inr f) = ap is_checkpoint f.is
other_fit Past u t (work.Explain ask) x other (inl f) = ap is_checkpoint f.is
other_fit Past u t (work.Explain ask) x other (inr f) = ap is_checkpoint f.is
other_fit Past u t work.Checkpoint x other f = absurd (other refl)

-- so nothing is said of a commit
pub not_committed : (count : ℕ) (x : Item) → is_checkpoint x ≡ false → IsCheckpointAtMost count x
not_committed count x other n is = (let bad : false ≡ true = sym other ∙ ap is_checkpoint is in absurd cc)

pub other_committed : (Past : Whole → Type 0) {E : Type 0} (count : ℕ) (u t : View) (w : Work) (r : Result Item E)
    → (w ≡ work.Checkpoint → ⊥) → IfOk r (IsFit Past u t w) → IfOk r (IsCheckpointAtMost count)
other_committed Past count u t w (Ok x) other fit = not_committed count x (other_fit Past u t w x other fit)
other_committed Past count u t w (Err e) other fit = tt

-- what was committed stays so
pub committed_on : (low high : ℕ) (items : List Item) → low ≤ high → AllOf (IsCheckpointAtMost low) items
    → AllOf (IsCheckpointAtMost high) items
committed_on low high [] le h = tt
committed_on low high (x ∷ items) le h =
    (λ n is. (let first = h.0 n is in omega arith), committed_on low high items le h.1)

-- and no boundary tells of it
pub committed_polled : (count : ℕ) (u : View) (r : Registrar) (t : View) (s : Registrar) (old new : List Item)
    → HasPolled u r t s old new → AllOf (IsCheckpointAtMost count) old → AllOf (IsCheckpointAtMost count) new
committed_polled count u r t s old new (inl same) h = subst (AllOf (IsCheckpointAtMost count)) (sym same.0) h
committed_polled count u r t s old new (inr more) h = subst (AllOf (IsCheckpointAtMost count)) (sym more.2)
    (all_more (IsCheckpointAtMost count) old (item.Bound more.0 more.1) h (not_committed count (item.Bound more.0 more.1) refl))
