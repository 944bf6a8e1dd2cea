-- A statement more, or the end, after what the file had before the table all the while.
use Rattle.std.proofs.Common.{◌≡◌, ◌∙◌, ◌+◌, ℕ, List, [], ◌∷◌, Option, get_or, length, length-append, sym, ap, subst, arith, true}
use Rattle.std.proofs.Common.{false, inl, inr}
use Rattle.fish_lanes.proofs.Finished.{cause_before, on_fault}
use Rattle.fish_lanes.proofs.Full.{fault_tells, found_more, found_none, found_tells, full_test, open_test}
use Rattle.fish_lanes.proofs.Gaining.{gains_start}
use Rattle.fish_lanes.proofs.Lists.{all_more}
use Rattle.fish_lanes.proofs.Pages.{reads_both, reads_here, reads_none, reads_told}
use Rattle.fish_lanes.proofs.Showing.{fit_answer}
use Rattle.fish_lanes.proofs.SoFar.{far_next, far_part, item_fewer}
use Rattle.fish_lanes.specs.Running.{IsShared}
use Rattle.fish_lanes.specs.Spans.{IsAnswerItem}
use Rattle.fish_lanes.specs.Telling.{count_of}
use Rattle.fish_lanes.specs.declared.work.LaneFault.TheVariants as fault
use Rattle.fish_lanes.specs.within.Works.{FinishesWorks}
use Rattle.fish_lanes.specs.within.Advancing.{IsWorkSoFar}
use Rattle.fish_lanes.specs.within.Full.{HasMetFull}
use Rattle.fish_lanes.specs.within.Pasts.{IsHere, WasHere}
use Rattle.fish_report.specs.declared.item.Item.{Item}
use Rattle.fish_rule.specs.Passes.{view}
use Rattle.fish_rule.specs.Views.{AllOf}
use Rattle.fish_whole.specs.Whole.{Whole}
use Rattle.fish_lanes.proofs.finishing.finish_works.Goals as goal

pub loop-next-init : goal.loop-next-init
loop-next-init g c = record {
  can = c.requires.pass;
  read = λ r. (let bad : false ≡ true = sym c.new-defs.ensures.unread ∙ r in absurd cc);
  reads = reads_none g.D.Disk c.args.log.now.key c.args.disk.now c.args.file.now c.requires.below;
  position = sym c.len-next.ensures;
  far = λ start later told before. before;
  last = λ unset found. found;
  answers = λ all. all;
}

pub run_shared-requires-clause-has : goal.run_shared-requires-clause-has
run_shared-requires-clause-has g c = record { of = c.loop-next.invariant.can.of; read = c.loop-next.invariant.read }

pub run_shared-requires-clause-shared : goal.run_shared-requires-clause-shared
run_shared-requires-clause-shared g c =
    let test = c.loop-next-test.true in
    let end = c.loop-next.auto.next-end in
    subst IsShared (sym c.index-works-next.is) (c.requires.shared c.loop-next.next c.index-works-next.result (omega arith))

-- ---- a statement more

pub loop-next-preserved : goal.loop-next-preserved
loop-next-preserved g c =
    let disk = g.D.Disk in
    let inv = c.loop-next.invariant in
    let works = c.args.works.now in
    let old = c.loop-next.items in
    let w = c.index-works-next.result in
    let u = view c.loop-next.pass in
    let t = view c.run_shared.new.pass in
    let test = c.loop-next-test.true in
    let end = c.loop-next.auto.next-end in
    let position = inv.position in
    let at : w ≡ get_or works (length old) w = subst (λ (n : ℕ). w ≡ get_or works n w) (sym position) c.index-works-next.is in
    let told = reads_told disk c.args.log.now.key inv.reads c.run_shared.ensures.reads in
    let k = c.args.log.now.key in
    let now = disk.content c.run_shared.new.disk in
    let read = c.loop-next.file.cold in
    let Was : Option (List ℕ) → Whole → Type 0 = WasHere (disk.content c.args.disk.now) k c.args.file.now.cold in
    let x = c.in-Ok.item in
    let done = c.in-Ok.ensures.item in
    let pushed = c.in-Ok-push.ensures.ok in
    let shared = subst IsShared (sym c.index-works-next.is) (c.requires.shared c.loop-next.next w (omega arith)) in
    record {
      can = record { of = c.run_shared.ensures.has.of; start = gains_start u t done.gained.rows inv.can.start done.gained.gains };
      read = c.run_shared.ensures.has.read;
      reads = reads_both disk k inv.reads c.run_shared.ensures.reads;
      position = ap (λ (z : List Item). length z) pushed ∙ length-append old (x ∷ []) ∙ ap (λ (z : ℕ). z + 1) position;
      far = λ start later still began. subst (IsWorkSoFar (Was later) start t works) (sym pushed)
          (far_next start u t works old (inv.far start later (λ some. told (still some)) began) w (omega arith) at x shared
          c.run_shared.ensures.has.of.stands
          (item_fewer (IsHere now k read) (Was later) u t w x (reads_here disk k inv.reads c.run_shared.ensures.reads later still) done));
      last = λ unset found.
          let free = open_test u.shut c.args.full c.finds_full.result c.finds_full.ensures c.if-finds_full.false unset in
          subst (HasMetFull t) (sym pushed) (found_more (IsHere now k read) u t w old x free
          (found_none u old (inv.last unset found) free) done.fit done.shuts);
      answers = λ all. subst (AllOf IsAnswerItem) (sym pushed) (all_more IsAnswerItem old x (inv.answers all)
          (fit_answer (IsHere now k read) u t w x done.fit));
    }

-- ---- a fault

pub returns-in-Err-clause-reads : goal.returns-in-Err-clause-reads
returns-in-Err-clause-reads g c =
    reads_both g.D.Disk c.args.log.now.key c.loop-next.invariant.reads c.run_shared.ensures.reads

pub returns-in-Err-clause-pass : goal.returns-in-Err-clause-pass
returns-in-Err-clause-pass g c =
    let part = c.in-Err.ensures.stops.0 in
    record {
      of = c.run_shared.ensures.has.of;
      start = gains_start (view c.loop-next.pass) (view c.run_shared.new.pass) part.1.rows c.loop-next.invariant.can.start part.1.gains;
    }

pub returns-in-Err-clause-finishes : goal.returns-in-Err-clause-finishes
returns-in-Err-clause-finishes g c =
    let disk = g.D.Disk in
    let inv = c.loop-next.invariant in
    let works = c.args.works.now in
    let old = c.loop-next.items in
    let w = c.index-works-next.result in
    let u = view c.loop-next.pass in
    let t = view c.run_shared.new.pass in
    let test = c.loop-next-test.true in
    let end = c.loop-next.auto.next-end in
    let position = inv.position in
    let at : w ≡ get_or works (length old) w = subst (λ (n : ℕ). w ≡ get_or works n w) (sym position) c.index-works-next.is in
    let told = reads_told disk c.args.log.now.key inv.reads c.run_shared.ensures.reads in
    let stops = c.in-Err.ensures.stops in
    let named = stops.1.0 in
    record {
      goes = λ start began. on_fault start t works old c.in-Err.fault named
          (far_part start u t works old w c.in-Err.fault (inv.far start (disk.content c.run_shared.new.disk) told began) (omega arith) at
          named stops.0);
      answers = inv.answers;
      all = λ none. absurd (named none);
      last = λ unset found.
          let free = open_test u.shut c.args.full c.finds_full.result c.finds_full.ensures c.if-finds_full.false unset in
          fault_tells t old c.in-Err.fault named (found_none u old (inv.last unset found) free);
    }

pub returns-in-Err-clause-stops : goal.returns-in-Err-clause-stops
returns-in-Err-clause-stops g c =
    let disk = g.D.Disk in
    let k = c.args.log.now.key in
    let inv = c.loop-next.invariant in
    let stops = c.in-Err.ensures.stops.1.1 in
    record {
      later = (reads_both disk k inv.reads c.run_shared.ensures.reads).pages.cold.later;
      cause = cause_before (disk.faults c.args.disk.now) (disk.faults c.loop-next.disk) (disk.faults c.run_shared.new.disk) c.in-Err.fault
          inv.reads.pages.cold.later stops.cause;
      whole = λ past was. stops.whole past (reads_here disk k inv.reads c.run_shared.ensures.reads (disk.content c.run_shared.new.disk)
          (λ some. some) past was);
    }

-- ---- an item for which memory ran out

pub returns-in-Err-push-clause-reads : goal.returns-in-Err-push-clause-reads
returns-in-Err-push-clause-reads g c =
    reads_both g.D.Disk c.args.log.now.key c.loop-next.invariant.reads c.run_shared.ensures.reads

pub returns-in-Err-push-clause-pass : goal.returns-in-Err-push-clause-pass
returns-in-Err-push-clause-pass g c =
    let done = c.in-Ok.ensures.item in
    record {
      of = c.run_shared.ensures.has.of;
      start = gains_start (view c.loop-next.pass) (view c.run_shared.new.pass) done.gained.rows c.loop-next.invariant.can.start
          done.gained.gains;
    }

pub returns-in-Err-push-clause-finishes : goal.returns-in-Err-push-clause-finishes
returns-in-Err-push-clause-finishes g c =
    let disk = g.D.Disk in
    let inv = c.loop-next.invariant in
    let works = c.args.works.now in
    let old = c.loop-next.items in
    let w = c.index-works-next.result in
    let u = view c.loop-next.pass in
    let t = view c.run_shared.new.pass in
    let test = c.loop-next-test.true in
    let end = c.loop-next.auto.next-end in
    let position = inv.position in
    let at : w ≡ get_or works (length old) w = subst (λ (n : ℕ). w ≡ get_or works n w) (sym position) c.index-works-next.is in
    let told = reads_told disk c.args.log.now.key inv.reads c.run_shared.ensures.reads in
    let now = disk.content c.run_shared.new.disk in
    let Was = WasHere (disk.content c.args.disk.now) c.args.log.now.key c.args.file.now.cold now in
    subst (λ (z : List Item). FinishesWorks Was c.args.full (view c.args.pass.now) t works c.args.items.now z fault.Memory)
    (sym c.in-Err-push.ensures.err) (record {
      goes = λ start began. far_part start u t works old w fault.Memory (inv.far start now told began) (omega arith) at (λ e. absurd cc)
          (count_of c.in-Ok.item, c.in-Ok.ensures.item.gained);
      answers = inv.answers;
      all = λ none. absurd cc;
      last = λ unset found.
          let free = open_test u.shut c.args.full c.finds_full.result c.finds_full.ensures c.if-finds_full.false unset in
          fault_tells t old fault.Memory (λ e. absurd cc) (found_none u old (inv.last unset found) free);
    })

pub returns-in-Err-push-clause-stops : goal.returns-in-Err-push-clause-stops
returns-in-Err-push-clause-stops g c = record {
  later = (reads_both g.D.Disk c.args.log.now.key c.loop-next.invariant.reads c.run_shared.ensures.reads).pages.cold.later;
  cause = tt;
  whole = λ past was. tt;
}

-- ---- the end

pub returns-clause-finishes : goal.returns-clause-finishes
returns-clause-finishes g c =
    let inv = c.loop-next.invariant in
    let test = c.loop-next-test.false in
    let end = c.loop-next.auto.next-end in
    let position = inv.position in
    record {
      goes = λ start began. inv.far start (g.D.Disk.content c.loop-next.disk) (λ some. some) began;
      answers = inv.answers;
      all = λ none. inl (omega arith);
      last = λ unset found. found_tells (view c.loop-next.pass) c.loop-next.items fault.None (inv.last unset found);
    }

pub returns-clause-stops : goal.returns-clause-stops
returns-clause-stops g c = record {
  later = c.loop-next.invariant.reads.pages.cold.later;
  cause = tt;
  whole = λ past was. tt;
}

pub returns-then-finds_full-clause-finishes : goal.returns-then-finds_full-clause-finishes
returns-then-finds_full-clause-finishes g c =
    let inv = c.loop-next.invariant in
    record {
      goes = λ start began. inv.far start (g.D.Disk.content c.loop-next.disk) (λ some. some) began;
      answers = inv.answers;
      all = λ none.
          inr (full_test (view c.loop-next.pass).shut c.args.full c.finds_full.result c.finds_full.ensures c.if-finds_full.true);
      last = λ unset found. found_tells (view c.loop-next.pass) c.loop-next.items fault.None (inv.last unset found);
    }

pub returns-then-finds_full-clause-stops : goal.returns-then-finds_full-clause-stops
returns-then-finds_full-clause-stops g c = record {
  later = c.loop-next.invariant.reads.pages.cold.later;
  cause = tt;
  whole = λ past was. tt;
}
