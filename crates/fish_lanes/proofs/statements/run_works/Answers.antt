-- A statement more, or the end, or the first scan of older records.
use Rattle.std.proofs.Common.{Ok, Err, ◌≡◌, ◌∙◌, ◌+◌, ℕ, List, [], ◌∷◌, get_or, length, length-append, sym, ap, subst}
use Rattle.std.proofs.Common.{arith, inl, refl}
use Rattle.std.specs.Prelude.{is_some}
use Rattle.fish_ingest.proofs.IngestionStart.{idle_law}
use Rattle.fish_lanes.proofs.Full.{found_none, found_tells, next_found, open_test, stopped_found}
use Rattle.fish_lanes.proofs.SoFar.{next_answers, next_done, next_more, next_start, next_stopped, stopped_short}
use Rattle.fish_lanes.specs.within.Works.{AdvancesWorks}
use Rattle.fish_lanes.specs.Running.{IsShared}
use Rattle.fish_lanes.specs.declared.work.LaneFault.TheVariants as fault
use Rattle.fish_report.specs.declared.item.Item.{Item}
use Rattle.fish_rule.specs.Passes.{view}
use Rattle.fish_lanes.proofs.statements.run_works.Goals as goal

pub loop-next-init : goal.loop-next-init
loop-next-init g c = record {
  can = c.requires.can;
  read = c.requires.defs;
  position = sym c.len-next.ensures;
  far = λ start content k cold later far. far;
  last = λ unshut none. inl (unshut, none);
  more = omega arith;
  answers = λ all. all;
}

pub run_next-requires-clause-shared : goal.run_next-requires-clause-shared
run_next-requires-clause-shared g c =
    let test = c.loop-next-test.true in
    let end = c.loop-next.auto.next-end in
    subst IsShared (sym c.index-works-next.is) (c.requires.shared c.loop-next.next c.index-works-next.result (omega arith))

pub loop-next-preserved : goal.loop-next-preserved
loop-next-preserved g c =
    let inv = c.loop-next.invariant in
    let works = c.args.works.now in
    let old = c.loop-next.items in
    let new = c.run_next.new.items in
    let w = c.index-works-next.result in
    let u = view c.loop-next.pass in
    let t = view c.run_next.new.pass in
    let test = c.loop-next-test.true in
    let end = c.loop-next.auto.next-end in
    let position = inv.position in
    let idle = idle_law u inv.can.of.stands inv.can.start in
    let at : w ≡ get_or works (length old) w = subst (λ (n : ℕ). w ≡ get_or works n w) (sym position) c.index-works-next.is in
    let n = c.in-Ok.ensures.next in
    let shared = subst IsShared (sym c.index-works-next.is) (c.requires.shared c.loop-next.next w (omega arith)) in
    record {
      can = record { of = c.run_next.ensures.pass; start = next_start u t w old new (Ok tt) idle inv.can.start n };
      read = c.run_next.ensures.defs;
      position = ap (λ (z : List Item). length z) n.1 ∙ length-append old (n.0 ∷ []) ∙ ap (λ (z : ℕ). z + 1) position;
      far = λ start content k cold later before. next_done start u t works old new w (inv.far start content k cold later before)
          (omega arith) at tt shared c.run_next.ensures.pass.stands n;
      last = λ unshut none.
          let free = open_test u.shut c.is_full-full.result c.finds_full.result c.finds_full.ensures c.if-finds_full.false
          (c.is_full-full.ensures ∙ ap is_some unshut) in
          next_found u t w old new free (found_none u old (inv.last unshut none) free) tt n;
      more = (let grown = next_more u t w old new (Ok tt) n in let before = inv.more in omega arith);
      answers = λ all. next_answers u t w old new (Ok tt) n (inv.answers all);
    }

pub returns-in-Err-clause-can : goal.returns-in-Err-clause-can
returns-in-Err-clause-can g c =
    let can = c.loop-next.invariant.can in
    let u = view c.loop-next.pass in
    record {
      of = c.run_next.ensures.pass;
      start = next_start u (view c.run_next.new.pass) c.index-works-next.result c.loop-next.items c.run_next.new.items (Err c.in-Err.stop)
          (idle_law u can.of.stands can.start) can.start c.in-Err.ensures.next;
    }

pub returns-in-Err-clause-advances : goal.returns-in-Err-clause-advances
returns-in-Err-clause-advances g c =
    let inv = c.loop-next.invariant in
    let works = c.args.works.now in
    let old = c.loop-next.items in
    let new = c.run_next.new.items in
    let w = c.index-works-next.result in
    let u = view c.loop-next.pass in
    let t = view c.run_next.new.pass in
    let test = c.loop-next-test.true in
    let end = c.loop-next.auto.next-end in
    let position = inv.position in
    let at : w ≡ get_or works (length old) w = subst (λ (n : ℕ). w ≡ get_or works n w) (sym position) c.index-works-next.is in
    let next = c.in-Err.ensures.next in
    subst (AdvancesWorks (view c.args.pass.now) t works c.args.items.now new) (sym c.fault_at.ensures) (record {
      goes = λ start content k cold later before. next_stopped start u t works old new w (inv.far start content k cold later before)
          (omega arith) at c.in-Err.stop inv.can.start.outside (idle_law u inv.can.of.stands inv.can.start) next;
      answers = λ all. next_answers u t w old new (Err c.in-Err.stop) next (inv.answers all);
      last = λ unshut none.
          let free = open_test u.shut c.is_full-full.result c.finds_full.result c.finds_full.ensures c.if-finds_full.false
          (c.is_full-full.ensures ∙ ap is_some unshut) in
          stopped_found u t w old new free (found_none u old (inv.last unshut none) free) c.in-Err.stop next;
      short = stopped_short c.in-Err.stop;
      more = (let before = inv.more in let grown = next_more u t w old new (Err c.in-Err.stop) next in omega arith);
    })

pub returns-then-finds_full-clause-advances : goal.returns-then-finds_full-clause-advances
returns-then-finds_full-clause-advances g c =
    let inv = c.loop-next.invariant in
    record {
      goes = inv.far;
      answers = inv.answers;
      last = λ unshut none. found_tells (view c.loop-next.pass) c.loop-next.items fault.None (inv.last unshut none);
      short = inl refl;
      more = inv.more;
    }

pub returns-clause-advances : goal.returns-clause-advances
returns-clause-advances g c =
    let inv = c.loop-next.invariant in
    record {
      goes = inv.far;
      answers = inv.answers;
      last = λ unshut none. found_tells (view c.loop-next.pass) c.loop-next.items fault.None (inv.last unshut none);
      short = inl refl;
      more = inv.more;
    }
