-- The control pass may go on to store and checkpoint.
use Rattle.std.proofs.Common.{◌≡◌, ℕ, ◌≤◌, List, [], ◌++◌, ap, sym, subst, ◌∙◌, false}
use Rattle.std.specs.Prelude.{Result, Ok, Err, IfOk, OnOk}
use Rattle.fish_catalog.specs.declared.row.CatRow.{CatRow}
use Rattle.fish_epoch.proofs.Reading.{defs_later}
use Rattle.fish_epoch.specs.declared.definitions.Defs.{Defs}
use Rattle.fish_flush.proofs.Lasting.{carries_on, first_carries, first_holds, holds_on}
use Rattle.fish_flush.specs.Carrying.{CarriesLog, HasCommitted, ReadsLog}
use Rattle.fish_flush.specs.Kept.{IsAtRest, commit_of, first_commit}
use Rattle.fish_flush.specs.Rows.{HoldsRows}
use Rattle.fish_flush.specs.declared.flusher.Flusher.{Flusher}
use Rattle.fish_ingest.specs.Ingestion.{CanIngest, CanStart}
use Rattle.fish_recover.specs.declared.opened.Opened.{Opened}
use Rattle.fish_rule.proofs.laws.Learning.{learns_same}
use Rattle.fish_rule.specs.Logs.{Learns}
use Rattle.fish_rule.specs.Passes.{IsPassOf, view}
use Rattle.fish_rule.specs.SeatSteps.{split_left}
use Rattle.fish_rule.specs.Table.{first_view}
use Rattle.fish_rule.specs.declared.seats.Start.{Start}
use Rattle.fish_rule.specs.declared.table.Log.{Log}
use Rattle.fish_rule.specs.declared.table.Pass.{Pass}
use Rattle.fish_rule.specs.declared.table.Shape.{Shape}
use Rattle.fish_rule.specs.declared.view.View.{View}
use Rattle.tests_store.specs.Flushing.{IsEmptyLog, IsFlushing, IsOpenStore}
use Rattle.tests_store.specs.declared.passes.Control.{Control}

-- what holds where a call succeeds, from what it tells then
pub on_all : {E : Type 0} (r : Result ℕ E) (A : ℕ → Type 0) (B : Type 0) → IfOk r A → ((n : ℕ) → A n → B) → OnOk r B
on_all (Ok n) A B a f = f n a
on_all (Err e) A B a f = tt

-- a store that was made carries a log that was opened
pub flushing_first : (images : List ℕ → Type 0) (shape : Shape) (start : Start) (log : Log) (pass : Pass) (defs : Defs)
    (flusher : Flusher) → IsEmptyLog shape start log pass → IsAtRest images flusher (first_commit shape) [] → flusher.shut ≡ false
    → CanIngest log pass defs
    → IsFlushing images log (record { pass = pass; start = start; defs = defs; flusher = flusher })
flushing_first images shape start log pass defs flusher opened rest live ready =
    let k = log.key in
    record {
      ready = ready;
      live = live;
      held = subst (λ (z : View × List CatRow). HoldsRows z.0 z.1) (λ i. (sym opened.first i, opened.rows i)) (first_holds k);
      commit = first_commit shape;
      entries = [];
      carries = subst (λ (z : View × Shape). CarriesLog images flusher z.0 z.1 start.catalog (first_commit shape) [])
          (λ i. (sym opened.first i, sym opened.shape_is i))
          (first_carries images flusher shape k start.catalog rest opened.number opened.line);
    }

-- so does a store that was opened
pub flushing_open : (images : List ℕ → Type 0) (o : Opened) (control : Control) → IsOpenStore images o → control.pass ≡ o.pass
    → control.start.catalog ≡ o.catalog → control.flusher ≡ o.flusher → control.defs.known.read ≡ false
    → IsFlushing images o.log control
flushing_open images o control opened pass catalog flusher read =
    let h = opened.is in
    let of = subst (IsPassOf o.log) (sym pass) h.pass in
    let first : view control.pass ≡ first_view o.log.key = ap view pass ∙ h.first in
    record {
      ready = record {
        of = of;
        start = record { live = of.live; outside = ap (λ (z : View). z.epoch) first };
        read = λ was. absurd (cc (was, read));
      };
      live = ap (λ (z : Flusher). z.shut) flusher ∙ h.live;
      held = subst (λ (z : View × List CatRow). HoldsRows z.0 z.1)
          (λ i. (sym first i, (h.rows ∙ sym catalog) i)) (first_holds o.log.key);
      commit = opened.commit;
      entries = opened.entries;
      carries = subst (λ (z : Flusher × View × List CatRow). CarriesLog images z.0 z.1 o.log.shape z.2 opened.commit opened.entries)
          (λ i. (sym flusher i, view (sym pass i), sym catalog i)) h.carries;
    }

module _ (images : List ℕ → Type 0) (log : Log) (control : Control) (h : IsFlushing images log control) (pass : Pass) where
  -- the view before and after
  abbrev before : View
  before = view control.pass

  abbrev after : View
  after = view pass

  -- what the pass learns leaves all that is asked of it
  pub flushing_on : (defs : Defs) → CanIngest log pass defs → after.lane ≡ before.lane → after.rows ≡ before.rows
      → after.control_words ≡ before.control_words → Learns before after
      → IsFlushing images log (record control { pass = pass; defs = defs })
  flushing_on defs ready lane listed words learns = record {
    ready = ready;
    live = h.live;
    held = holds_on before after control.start.catalog lane listed words h.held;
    commit = h.commit;
    entries = h.entries;
    carries = carries_on images control.flusher before after log.shape control.start.catalog control.start.catalog h.commit h.entries
        h.carries learns h.carries.grown;
  }

  -- a pass that learned may ingest with the definitions that it read
  pub ready_on : IsPassOf log pass → after.lane ≡ before.lane → after.epoch ≡ before.epoch → Learns before after
      → CanIngest log pass control.defs
  ready_on of lane epoch learns = record {
    of = of;
    start = record {
      live = subst (λ (n : ℕ). 1 ≤ n) (sym lane) h.ready.start.live;
      outside = epoch ∙ h.ready.start.outside;
    };
    read = defs_later before after control.defs.known learns h.ready.read;
  }

  -- a lane that is given out leaves all else
  pub split_on : (a b : ℕ) → IsPassOf log pass → after ≡ split_left b (split_left a before)
      → IsFlushing images log (record control { pass = pass; defs = control.defs })
  split_on a b of left =
      let lane = ap (λ (z : View). z.lane) left in
      let learns = learns_same before after (ap (λ (z : View). z.about) left) (ap (λ (z : View). z.learned) left) in
      flushing_on control.defs (ready_on of lane (ap (λ (z : View). z.epoch) left) learns) lane (ap (λ (z : View). z.rows) left)
      (ap (λ (z : View). z.control_words) left) learns

  -- a commit is the last one from then on
  pub committed_on : (images' : List ℕ → Type 0) (flusher : Flusher) (n : ℕ) → IsPassOf log pass → ReadsLog before after
      → HasCommitted images images' control.flusher flusher before after log.shape control.start.catalog n
      → IsFlushing images' log (record control { pass = pass; flusher = flusher })
  committed_on images' flusher n of reads committed =
      let frame = reads.frame in
      let lane = ap (λ (z : View). z.lane) frame in
      let more = committed.carries h.commit h.entries h.carries in
      record {
        ready = ready_on of lane (ap (λ (z : View). z.epoch) frame) reads.learns;
        live = committed.live;
        held = holds_on before after control.start.catalog lane (ap (λ (z : View). z.rows) frame)
            (ap (λ (z : View). z.control_words) frame) h.held;
        commit = commit_of flusher log.shape control.start.catalog;
        entries = h.entries ++ more.0;
        carries = more.2;
      }
