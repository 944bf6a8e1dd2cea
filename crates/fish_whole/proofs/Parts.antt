-- Parts of the log that a pass knows for good, and how states go on.
use Rattle.std.proofs.Common.{◌≡◌, ℕ, ◌+◌, ◌≤◌, List, ◌++◌, length, map, sym, subst}
use Rattle.fish_catalog.specs.Listing.{listed_of}
use Rattle.fish_catalog.specs.declared.entry.Entry.{Entry}
use Rattle.fish_rule.proofs.laws.Alone.{knows_as_later}
use Rattle.fish_rule.proofs.laws.ClosedLogs.{known_closed}
use Rattle.fish_rule.specs.ClosedLog.{IsClosed}
use Rattle.fish_rule.specs.Logs.{AreKnown, Learns, KnowsAs}
use Rattle.fish_rule.specs.declared.close.Remains.{Remains}
use Rattle.fish_rule.specs.declared.view.Key.{Key}
use Rattle.fish_rule.specs.declared.view.View.{View}
use Rattle.fish_whole.proofs.Prefixes.{prefix_append, prefix_both, prefix_first, prefix_gets, prefix_self, prefix_shorter}
use Rattle.fish_whole.proofs.Wholes.{narrows_both, narrows_later}
use Rattle.fish_whole.specs.Whole.{FitsPast, GoesOn, IsKnown, IsPrefix, Later, MustHold, Whole}

-- a table comes after what was before it in each of its states
pub fits_later : (past : Whole) (v u : View) → Learns v u → FitsPast past v → FitsPast past u
fits_later past v u learns fits = record {
  base = subst (λ (z : Key). z.number ≡ length past.log) (sym learns.about) fits.base;
  joins = subst (λ (z : Key). past.rows z.version ≡ map listed_of z.rows.value) (sym learns.about) fits.joins;
}

-- what is left of a table begins with the entries that are told
pub told_front : (past : Whole) (v u : View) (remains : Remains) (entries : List Entry) → u.about.number ≡ length past.log
    → Learns v u → IsClosed u remains → AreKnown v (length past.log) entries → IsPrefix entries remains.log
told_front past v u remains entries base learns c told = prefix_gets entries remains.log (λ i e at.
    known_closed v u i e remains learns c (subst (λ (z : ℕ). KnowsAs v (z + i) e) (sym base) (told i e at)))

-- each whole begins with what is a part of the log for good
pub known_sure : (past : Whole) (v : View) (log : List Entry) → IsKnown past v log → MustHold past v (λ w. IsPrefix log w.log)
known_sure past v log k w m =
    prefix_both log (past.log ++ k.entries) w.log k.front
    (prefix_both (past.log ++ k.entries) (past.log ++ m.remains.log) w.log
    (prefix_append past.log k.entries m.remains.log
    (told_front past v m.last m.remains k.entries m.base m.learns m.closed k.told)) m.behind.starts)

-- and where it is no shorter than a part of what stood before the table, it begins with that
pub known_old : (past : Whole) (v : View) (old log : List Entry) → IsPrefix old past.log → IsKnown past v log
    → length old ≤ length log → IsPrefix old log
known_old past v old log front k less = prefix_shorter old log (past.log ++ k.entries)
    (prefix_both old past.log (past.log ++ k.entries) front (prefix_first past.log k.entries)) k.front less

-- it stays a part
pub known_later : (past : Whole) (v u : View) (log : List Entry) → Learns v u → IsKnown past v log → IsKnown past u log
known_later past v u log learns k = record {
  entries = k.entries;
  told = λ i e at. knows_as_later v u (length past.log + i) e learns (k.told i e at);
  front = k.front;
}

-- a state goes on to a later one of its table
pub goes_later : (past : Whole) (v u : View) → Later v u → FitsPast past v → GoesOn past v past u
goes_later past v u later fits = record {
  fits = fits_later past v u later.learns fits;
  narrows = narrows_later past v u later;
  grows = prefix_self past.log;
  known = λ log k. known_later past v u log later.learns k;
}

-- and to what that goes on to
pub goes_both : (a : Whole) (u : View) (b : Whole) (v : View) (c : Whole) (t : View) → GoesOn a u b v → GoesOn b v c t
    → GoesOn a u c t
goes_both a u b v c t p q = record {
  fits = q.fits;
  narrows = narrows_both a u b v c t p.narrows q.narrows;
  grows = prefix_both a.log b.log c.log p.grows q.grows;
  known = λ log k. q.known log (p.known log k);
}
