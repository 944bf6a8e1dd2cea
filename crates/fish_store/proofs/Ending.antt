-- What a run leaves of a store, from the moments that it went through.
use Rattle.std.proofs.Common.{◌≡◌, ℕ, ◌≤◌, arith, List, [], length, refl, sym, ◌∙◌}
use Rattle.fish_catalog.specs.declared.entry.Entry.{Entry}
use Rattle.fish_disk.specs.declared.disk.Disk.{Ghosts as Disks}
use Rattle.fish_rule.specs.ClosedLog.{IsClosed}
use Rattle.fish_rule.specs.declared.close.Remains.{Remains}
use Rattle.fish_rule.specs.declared.view.View.{View}
use Rattle.fish_store.proofs.Running.{since_on}
use Rattle.fish_store.specs.Ending.{IsLost, IsPartOf, IsShownLog, KeepsOld}
use Rattle.fish_store.specs.Sound.{IsImageOf, Point, Reaches}
use Rattle.fish_whole.proofs.Parts.{known_old, known_sure}
use Rattle.fish_whole.proofs.Prefixes.{prefix_both, prefix_first}
use Rattle.fish_whole.proofs.Tables.{ends_so, stands_behind}
use Rattle.fish_whole.proofs.Wholes.{may_hold}
use Rattle.fish_whole.specs.Whole.{IsPrefix, MayEnd, Whole, behind_table}

-- an image of a part of the log keeps the old log, where it has as many entries
abbrev kept_so : (old : List Entry) (past : Whole) (v : View) (least : ℕ) (c : List ℕ) → IsPrefix old past.log → length old ≤ least
    → IsImageOf past v least c → KeepsOld old least c
kept_so old past v least c first many h = record {
  commit = h.commit;
  part = h.log;
  stands = h.stands;
  first = known_old past v old h.log first h.known (let a = h.many in omega arith);
  many = h.many;
}

-- and each whole that may be in the end begins with it
part_so : (old : List Entry) (past : Whole) (v : View) (least : ℕ) (c : List ℕ) (w : Whole) → IsPrefix old past.log → length old ≤ least
    → MayEnd past v w → IsImageOf past v least c → IsPartOf old w.log least c
part_so old past v least c w first many may h = record {
  kept = kept_so old past v least c first many h;
  front = known_sure past v h.log h.known w (may_hold past v w may);
}

module _
    {D : Type 0} (disks : Disks D)
    (past : Whole) (p q : Point D) (tells : Whole → Type 0)
    (a : Reaches disks past p q tells)
    (t : ℕ) (early : t ≤ disks.moment p.disk) (rises : p.flusher.count ≤ q.flusher.count) (many : length past.log ≤ p.flusher.count)
    (opened : (c : List ℕ) → disks.since p.disk t c → IsImageOf past p.view (length past.log) c) where
  -- what a crash since that moment may have left
  left : (c : List ℕ) → disks.since q.disk t c → IsImageOf a.next q.view (length past.log) c
  left = since_on disks past p q t (length past.log) tells many early a opened

  -- where the log is shown
  pub run_shown : (remains : Remains) → IsClosed q.view remains → q.view.lane ≡ 1 → q.view.out ≡ []
      → IsShownLog (disks.images q.disk) (disks.since q.disk t) past.log q.flusher.count tells remains
  run_shown remains c control all =
      let w = behind_table a.next q.view remains c in
      let may = ends_so a.next q.view remains c a.sound.fits control all in
      record {
        view = q.view;
        closed = c;
        past = a.next;
        whole = w;
        behind = stands_behind a.next q.view remains c a.sound.fits;
        shows = refl;
        base = sym a.sound.fits.base ∙ sym c.base;
        first = prefix_both past.log a.next.log w.log a.goes.grows (prefix_first a.next.log remains.log);
        told = a.told w may;
        crash_now = λ d here. part_so past.log a.next q.view q.flusher.count d w a.goes.grows (omega arith) may (a.sound.now d here);
        crash_since = λ d gone. part_so past.log a.next q.view (length past.log) d w a.goes.grows (omega arith) may (left d gone);
      }

  -- where there was no memory for that
  pub run_lost : IsLost (disks.images q.disk) (disks.since q.disk t) past.log q.flusher.count
  run_lost = record {
    crash_now = λ d here. kept_so past.log a.next q.view q.flusher.count d a.goes.grows (omega arith) (a.sound.now d here);
    crash_since = λ d gone. kept_so past.log a.next q.view (length past.log) d a.goes.grows (omega arith) (left d gone);
  }
