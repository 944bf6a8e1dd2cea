-- Which entries the whole has of those that stand in the moment at which its last table was closed.
use Rattle.std.proofs.Common.{◌≡◌, ℕ, ◌+◌, ◌-◌, ◌<◌, ◌≤◌, List, ◌++◌, length, sym, ap, ◌∙◌, subst, arith, Some, slice_get}
use Rattle.std.proofs.lemmas.List.{length-append}
use Rattle.fish_catalog.specs.declared.entry.Entry.{Entry}
use Rattle.fish_rule.proofs.laws.ClosedLogs.{always_closed, entry_at, entry_in, settled_within, within_log}
use Rattle.fish_rule.specs.ChainFacts.{Always}
use Rattle.fish_rule.specs.Logs.{IsEntry, KnowsAs}
use Rattle.fish_rule.specs.Parts.{IsEntryWord}
use Rattle.fish_rule.specs.declared.view.View.{View}
use Rattle.fish_whole.proofs.Prefixes.{back_get, behind_get, front_get, prefix_there}
use Rattle.fish_whole.proofs.Wholes.{may_hold}
use Rattle.fish_whole.specs.Whole.{WholeFact, MayHold, MustHold, Whole, WillHold}
use Rattle.fish_whole.specs.within.Whole.{MustHoldUpTo}

module _ (past : Whole) (v : View) (w : Whole) (m : MayHold past v w) where
  -- the whole is no shorter
  pub longer : length past.log + length m.remains.log ≤ length w.log
  longer =
      let all : length w.log ≡ length past.log + length m.remains.log + length m.behind.starts.0 =
      ap (λ (z : List Entry). length z) m.behind.starts.1 ∙ length-append (past.log ++ m.remains.log) m.behind.starts.0
      ∙ ap (λ (z : ℕ). z + length m.behind.starts.0) (length-append past.log m.remains.log) in
      omega arith

  -- what the pass knows to be settled was there
  pub settled_there : (n : ℕ) → n ≤ v.learned.settled → n ≤ length past.log + length m.remains.log
  settled_there n less =
      let c = m.closed in
      let floor = c.rule.floors c.seat c.last c.at in
      let a = m.learns.settled in
      let b = c.later.settled in
      let d = settled_within c.rule m.remains.log c.log in
      let base = m.base in
      omega arith

  -- and what it knows to be an entry
  pub word_there : (n : ℕ) → length past.log ≤ n → Always v (λ k x. IsEntryWord (x.dir n)) → n < length past.log + length m.remains.log
  word_there n above known =
      let i : ℕ = n - length past.log in
      let base = m.base in
      let number : m.last.about.number + i ≡ n = omega arith in
      let inside = within_log m.closed.rule m.remains.log m.closed.log i
      (subst (λ (z : ℕ). IsEntryWord (m.closed.moment.dir z)) (sym number)
      (always_closed v m.last (λ k x. IsEntryWord (x.dir n)) m.remains m.learns m.closed known)) in
      omega arith

  -- an entry of the whole that was there stands in the moment
  pub entry_there : (n : ℕ) (e : Entry) → length past.log ≤ n → n < length past.log + length m.remains.log
      → slice_get w.log n ≡ Some e → IsEntry m.closed.moment n e
  entry_there n e above inside at_n =
      let i : ℕ = n - length past.log in
      let at : length past.log + i ≡ n = omega arith in
      let base = m.base in
      let number : m.last.about.number + i ≡ n = omega arith in
      let size = length-append past.log m.remains.log in
      let in_table : slice_get (past.log ++ m.remains.log) n ≡ Some e =
      front_get (past.log ++ m.remains.log) m.behind.starts.0 n e (omega arith)
      (subst (λ (z : List Entry). slice_get z n ≡ Some e) m.behind.starts.1 at_n) in
      let in_remains : slice_get m.remains.log i ≡ Some e =
      back_get past.log m.remains.log i e (subst (λ (z : ℕ). slice_get (past.log ++ m.remains.log) z ≡ Some e) (sym at) in_table) in
      subst (λ (z : ℕ). IsEntry m.closed.moment z e) number (entry_at m.closed.rule m.remains.log m.closed.log i e in_remains)

  -- and one of the moment stands in the whole
  pub entry_here : (n : ℕ) (e : Entry) → length past.log ≤ n → IsEntry m.closed.moment n e → slice_get w.log n ≡ Some e
  entry_here n e above is =
      let i : ℕ = n - length past.log in
      let at : length past.log + i ≡ n = omega arith in
      let base = m.base in
      let number : m.last.about.number + i ≡ n = omega arith in
      let in_remains : slice_get m.remains.log i ≡ Some e =
      entry_in m.closed.rule m.remains.log m.closed.log i e (subst (λ (z : ℕ). IsEntry m.closed.moment z e) (sym number) is) in
      subst (λ (z : ℕ). slice_get w.log z ≡ Some e) at
      (prefix_there (past.log ++ m.remains.log) w.log (length past.log + i) e m.behind.starts
      (behind_get past.log m.remains.log i e in_remains))

-- what is certain up to a settled number holds in the end
pub up_to_will : (past : Whole) (v : View) (end : ℕ) (Q : WholeFact) → end ≤ v.learned.settled → MustHoldUpTo past v end Q
    → WillHold past v Q
up_to_will past v end Q settled all w m =
    let h = may_hold past v w m in
    all w h (settled_there past v w h end settled)

-- an entry that is told stands in the whole
pub sure_entry : (past : Whole) (v : View) (n : ℕ) (e : Entry) → length past.log ≤ n → KnowsAs v n e
    → MustHold past v (λ w. slice_get w.log n ≡ Some e)
sure_entry past v n e above tells w m = entry_here past v w m n e above
    (always_closed v m.last (λ k x. IsEntry x n e) m.remains m.learns m.closed tells)

-- what is settled is within the whole
pub sure_settled : (past : Whole) (v : View) (n : ℕ) → n ≤ v.learned.settled → MustHold past v (λ w. n ≤ length w.log)
sure_settled past v n less w m = (let a = settled_there past v w m n less in let b = longer past v w m in omega arith)
