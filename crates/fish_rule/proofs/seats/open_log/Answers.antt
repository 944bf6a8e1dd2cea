-- The words are those of an empty log, of which the rule holds, and the first pass has the view of its start.
use Rattle.std.proofs.Common.{length, sym, ap, ◌∙◌, subst, ℕ, ◌≤◌, arith}
use Rattle.fish_rule.proofs.steps.OpenLog.{begins, first_stands}
use Rattle.fish_rule.specs.within.Start.{IsEmpty}
use Rattle.fish_rule.specs.Table.{Sat, IsOfMoment}
use Rattle.fish_rule.specs.declared.view.View.{View}
use Rattle.fish_rule.proofs.seats.open_log.Goals as goal

-- the words are those of an empty log
pub of_words-requires : goal.of_words-requires
of_words-requires c =
    let key = c.key_of-key.result in
    begins key c.key_of-key.ensures.fits c.deref.result.now
    (subst (IsEmpty key) (sym c.deref.ensures.value) c.in_ok-words.ensures)

-- the table has the log's key, and as many words as it says
pub invariant_of-log : goal.invariant_of-log
invariant_of-log c =
    let empty = c.in_ok-words.ensures in
    record {
      keyed = c.in_ok-table.ensures.5;
      fits = c.key_of-key.ensures.fits;
      wide = c.in_ok-table.ensures.0 ∙ ap length c.deref.ensures.value ∙ empty.wide;
      bare = c.in_ok-table.ensures.1;
    }

-- the first pass is one of the log
pub returns-clause-pass : goal.returns-clause-pass
returns-clause-pass c =
    let key = c.key_of-key.result in
    let is = ap (λ (z : Sat). z.0) c.in_ok-table.ensures.4 in
    record {
      table = c.in_ok-table.ensures.2;
      about = ap (λ (z : View). z.about) is;
      live = subst (λ (z : ℕ). 1 ≤ z) (sym (ap (λ (z : View). z.lane) is)) (omega arith);
      stands = subst IsOfMoment (sym is)
          (first_stands key c.key_of-key.ensures.fits c.in_ok-words.words.items c.in_ok-words.ensures);
    }
