-- Below the number at which a table begins, intervals are those of the rows with which it begins.
use Rattle.std.proofs.Common.{◌≡◌, ℕ, ◌∙◌, ◌<◌, suc, Some, slice_get, subst, sym, arith}
use Rattle.std.proofs.Math.Decide.{dec_lt}
use Rattle.std.proofs.lemmas.Option.{same_Some}
use Rattle.fish_catalog.specs.Words.{row_word}
use Rattle.fish_catalog.specs.declared.row.CatRow.{CatRow}
use Rattle.fish_rule.proofs.basics.Context.{Among, Key, Rule, View, World, get_elem?, some}
use Rattle.fish_rule.proofs.basics.FirstBoundaries.{from_word, word_from, word_to}
use Rattle.fish_rule.proofs.basics.Lists.{all_among}
use Rattle.fish_rule.specs.Boundaries.{IsUnended}
use Rattle.fish_rule.specs.Intervals.{CoveredAreBetween, IntervalsAreCovered}
use Rattle.fish_rule.specs.Registry.{IsRegistered, row_at}
use Rattle.fish_rule.specs.declared.view.RegistryWord.{RegistryWord}

-- a word that a pass has read is the table's
word_is : {k : Key} {w : World} (r : Rule k w) (seat : ℕ) {v : View} → get_elem? w.views seat ≡ some v
    → (x : RegistryWord) → Among x v.learned.words → w.registry x.index ≡ x.value
word_is {k = k} {w = w} r seat {v = v} at x among =
    (all_among (IsRegistered k w.registry) x v.learned.words (r.registry.each seat v at).read among).word

-- a number of an interval, below the one at which the table begins, is covered by the row of the start
pub opened_interval : IntervalsAreCovered
opened_interval v id from below n s h after before low =
    let w : World = s.moment in
    let begins = word_is s.rule s.seat s.at _ h.begins in
    let first = s.rule.registry.boundaries.early id 0 from h.few (omega arith) begins (omega arith) in
    let known = all_among (IsUnended v.about w.count w.registry s.rule.version_of) h.unended v.learned.unended
    (s.rule.registry.each s.seat v s.at).unended h.among in
    let upto = h.upto in (
      first.0,
      first.1,
      record {
        from = from;
        begins = word_from first.0 from first.2;
        behind = after;
        ahead = λ to is.
            let there = subst (λ (z : ℕ). slice_get v.about.rows.value z ≡ Some first.0) (sym h.of) first.1 in
            let most = known.opened first.0 to there is in
            omega arith;
      },
    )

-- and one that it covers lies between the boundaries that were read
pub covered_between : CoveredAreBetween
covered_between v id n row s few there covers low =
    let first = (s.rule.registry.boundaries.opened id row few there).stays 0 covers.from (omega arith)
    (from_word row covers.from covers.begins) in
    let behind = covers.behind in (
      λ from among. let word = word_is s.rule s.seat s.at _ among in omega arith,
      λ to among. ahead to (word_is s.rule s.seat s.at _ among) (dec_lt to v.about.number),
    )
  where
    ahead : (to : ℕ) → s.moment.registry (row_at id 1) ≡ suc to → Dec (to < v.about.number) → n < to
    ahead to word (no h) = omega arith
    ahead to word (yes h) =
        let first = s.rule.registry.boundaries.early id 1 to few (omega arith) word h in
        let same : first.0 ≡ row = same_Some first.0 row (sym first.1 ∙ there) in
        covers.ahead to (word_to row to (subst (λ (z : CatRow). row_word z 1 ≡ suc to) same first.2))
