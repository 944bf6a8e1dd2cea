-- The table's words are those of the moment at which the pass ends, and what was read is what is left of it.
use Rattle.std.proofs.Common.{◌≡◌, ◌∙◌, ◌+◌, ◌-◌, ℕ, List, Bool, sym, ap, subst, arith}
use Rattle.core.specs.Mem.Slots.{IsFull, slots_items}
use Rattle.core.specs.declared.slots.Slots.{Slots}
use Rattle.atomic_table.specs.Table.{Final, Seen}
use Rattle.fish_rule.proofs.basics.Context.{Key, Rule, View, get_elem?, some, view}
use Rattle.fish_rule.proofs.laws.Remains.{closes, entry_words}
use Rattle.fish_rule.specs.LogWords.{entries_in}
use Rattle.fish_rule.specs.Table.{Ruled, IsOfMoment}
use Rattle.fish_rule.specs.World.{world}
use Rattle.fish_rule.proofs.close.remains_of.Goals as goal

-- a moment that the words are, where the pass has its view
record IsThere (key : Key) (id : ℕ) (v : View) (words : List ℕ) : Type 0 where
  views : List View
  rule : Rule key (world key words views)
  at : get_elem? views id ≡ some v

-- the table's last state is one
is_there : (key table_key : Key) (id : ℕ) (v : View) (words : Slots ℕ) (slots : Slots Bool) → table_key ≡ key
    → IsFull words × IsFull slots × Final (Seen (Ruled table_key) id v) (slots_items words) (slots_items slots)
    → IsThere key id v (slots_items words)
is_there key table_key id v words slots same (full, none, last) = record {
  views = last.0.views;
  rule = subst (λ (z : Key × List ℕ). Rule z.0 (world z.0 z.1 last.0.views)) (λ i. (same i, last.2 i)) last.1.0.rule;
  at = last.1.1;
}

-- so the view stands there
abbrev stands : (key : Key) (id : ℕ) (v : View) (words : List ℕ) → v.about ≡ key → IsThere key id v words → IsOfMoment v
stands key id v words about there = record {
  moment = world key words there.views;
  rule = subst (λ (z : Key). Rule z (world key words there.views)) (sym about) there.rule;
  seat = id;
  at = there.at;
}

pub invariant_of-result : goal.invariant_of-result
invariant_of-result c =
    let key : Key = c.args.log.key in
    let v = view c.args.control in
    let about = c.requires.pass.about in
    let closed = c.close_with-closed.result in
    let there = is_there key c.args.log.table.shared.key c.args.control.seat.id v closed.words closed.slots c.args.log.keyed
    c.close_with-closed.ensures.values in
    let s = stands key c.args.control.seat.id v (slots_items closed.words) about there in
    let h = c.requires.whole.read in
    let from = h.upto.from in
    let many = h.upto.many in
    let first = ap (λ (z : Key). z.number) about in
    record {
      full = c.close_with-closed.ensures.values.0;
      bare = c.close_with-closed.ensures.counts.1 ∙ c.args.log.bare;
      wide = c.close_with-closed.ensures.counts.0 ∙ c.args.log.wide;
      views = there.views;
      rule = there.rule;
      listed = λ i less. entry_words v s h.number c.args.whole.read h.upto (key.number + i) (omega arith) (omega arith);
    }

pub returns-clause-closed : goal.returns-clause-closed
returns-clause-closed c =
    let key : Key = c.args.log.key in
    let v = view c.args.control in
    let about = c.requires.pass.about in
    let closed = c.close_with-closed.result in
    let there = is_there key c.args.log.table.shared.key c.args.control.seat.id v closed.words closed.slots c.args.log.keyed
    c.close_with-closed.ensures.values in
    let s = stands key c.args.control.seat.id v (slots_items closed.words) about there in
    let first : v.about.number ≡ key.number = ap (λ (z : Key). z.number) about in
    closes v c.args.whole key.number _ s c.requires.alone c.requires.whole (sym first)
    (ap (λ (z : ℕ). entries_in s.moment.dir s.moment.log z (c.args.whole.read.number - z)) (sym first))
