-- A closed log of which all is committed: it ends at the commit's count, and is the commit's.
use Rattle.std.proofs.Common.{◌≡◌, ℕ, ◌+◌, ◌-◌, ◌<◌, ◌≤◌, inl, inr, List, [], ◌∷◌, ◌++◌, Some, length, take, drop}
use Rattle.std.proofs.Common.{refl, sym, ap, ◌∙◌, subst, arith, length-append, length-drop, append-nil}
use Rattle.std.proofs.Math.Decide.{dec_lt}
use Rattle.std.proofs.lemmas.List.{take-append-drop}
use Rattle.fish_catalog.specs.declared.entry.Entry.{Entry}
use Rattle.fish_rule.proofs.laws.Moments.{entry_word, there_is}
use Rattle.fish_rule.proofs.laws.ClosedLogs.{always_closed, settled_within}
use Rattle.fish_rule.proofs.laws.Learning.{learns_self}
use Rattle.fish_rule.specs.ClosedLog.{IsClosed}
use Rattle.fish_rule.specs.Logs.{AreKnown, KnowsMark}
use Rattle.fish_rule.specs.Parts.{RestsAt}
use Rattle.fish_rule.specs.Regions.{code}
use Rattle.fish_rule.specs.World.{high, low}
use Rattle.fish_rule.specs.declared.close.Remains.{Remains}
use Rattle.fish_rule.specs.declared.view.Kind.TheVariants.{Mark}
use Rattle.fish_rule.specs.declared.view.View.{View}
use Rattle.fish_walk.specs.Settling.{EndsAt, HasTail}
use Rattle.fish_whole.proofs.Parts.{told_front}
use Rattle.fish_whole.specs.Whole.{Whole}

module _ (v : View) (remains : Remains) (c : IsClosed v remains) where
  -- all that the pass knew to be settled is left
  settled_left : v.learned.settled ≤ v.about.number + length remains.log
  settled_left =
      let floor = c.rule.floors c.seat c.last c.at in
      let more = c.later.settled in
      let within = settled_within c.rule remains.log c.log in
      omega arith

  -- nothing is left from a mark on
  left_marked : (to : ℕ) → v.about.number ≤ to → KnowsMark v to → v.about.number + length remains.log ≤ to
  left_marked to above mark = by (dec_lt to (v.about.number + length remains.log))
    where
      by : Dec (to < v.about.number + length remains.log) → v.about.number + length remains.log ≤ to
      by (no more) = omega arith
      by (yes less) =
          let i : ℕ = to - v.about.number in
          let place : v.about.number + i ≡ to = omega arith in
          let t = there_is remains.log i (omega arith) in
          let word = entry_word c.moment (v.about.number + i) t.0 (c.log.each i t.0 t.1) in
          let marked : high (c.moment.dir to) ≡ code Mark =
          always_closed v v (λ k w. high (w.dir to) ≡ code Mark) remains (learns_self v) c mark in
          absurd (word.unmarked (ap (λ (z : ℕ). high (c.moment.dir z)) place ∙ marked))

  -- the tail that the pass knows is where the log ended
  tail_left : (count : ℕ) → HasTail v count → c.moment.count ≡ count
  tail_left count tail =
      let rests : RestsAt c.moment.count c.moment.line (Some (record { number = high tail.0; line = low tail.0 })) =
      subst (RestsAt c.moment.count c.moment.line) tail.1 c.rests in
      sym rests.0 ∙ tail.2

  -- so what is left ends where the log does
  pub closed_end : (to count : ℕ) → v.about.number ≤ to → to ≤ v.learned.settled → HasTail v count → EndsAt v to count
      → v.about.number + length remains.log ≡ to
  closed_end to count above settled tail (inl same) =
      let left = settled_left in
      let most = c.log.within in
      let at = tail_left count tail in
      omega arith
  closed_end to count above settled tail (inr mark) =
      let left = settled_left in
      let most = left_marked to above mark.1 in
      omega arith

  -- a log that begins with what was there before the table, and goes on as the pass was told, up to that end, is what was there before
  -- and what is left
  pub whole_log : (past : Whole) (log : List Entry) → v.about.number ≡ length past.log → take (length past.log) log ≡ past.log
      → AreKnown v v.about.number (drop v.about.number log) → length log ≡ v.about.number + length remains.log
      → log ≡ past.log ++ remains.log
  whole_log past log base begins told size =
      let n : ℕ = length past.log in
      let behind : AreKnown v n (drop n log) = subst (λ (z : ℕ). AreKnown v z (drop z log)) base told in
      let front = told_front past v v remains (drop n log) base (learns_self v) c behind in
      let cut = length-drop n log in
      let both = ap (λ (l : List Entry). length l) front.1 ∙ length-append (drop n log) front.0 in
      let none : front.0 ≡ [] = no_entries front.0 (omega arith) in
      let same : remains.log ≡ drop n log = front.1 ∙ ap (λ (l : List Entry). drop n log ++ l) none ∙ append-nil (drop n log) in
      sym (take-append-drop n log) ∙ (λ i. begins i ++ sym same i)
    where
      no_entries : (l : List Entry) → length l ≡ 0 → l ≡ []
      no_entries [] is = refl
      no_entries (e ∷ l) is = absurd (omega arith)
