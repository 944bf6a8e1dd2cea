-- Each step goes on from where the last one came.
use Rattle.std.proofs.Common.{◌≡◌, ℕ, ◌+◌, ◌-◌, ◌*◌, ◌<◌, ◌≤◌, List, ◌++◌, drop, drop-drop, length, length-drop, arith}
use Rattle.std.proofs.Common.{sym, ap, subst, ◌∙◌, suc, add-one, take}
use Rattle.std.proofs.lemmas.List.{drop-append-le, take_all}
use Rattle.fish_catalog.specs.declared.commit.Commit.{Commit}
use Rattle.fish_image.specs.Log.{Agrees, FollowsAt, region, region_lines}
use Rattle.fish_image.specs.Progress.{IsAt}
use Rattle.fish_image.specs.Reached.{Reached}
use Rattle.fish_image.specs.Steps.{HasCome}
use Rattle.fish_image.specs.within.Steps.{Stepped}
use Rattle.fish_image.specs.declared.step.Step.TheVariants.{Damaged, Took, Waits}
use Rattle.fish_image.specs.declared.progress.Progress.{Progress}
use Rattle.fish_image.proofs.Agreement.{agrees_within, goes}
use Rattle.fish_image.proofs.advance.advance.Goals as goal

-- what is left of words, as it was cut off
left_is : (words : List ℕ) (used : ℕ) → take (length words - used) (drop used words) ≡ drop used words
left_is words used = take_all (length words - used) (drop used words) (omega (arith, length-drop used words))

-- one region further
further : (c : Commit) (w words : List ℕ) (used n : ℕ) (t m : Reached) (old new : Progress) → HasCome c w t old → t.number < c.count
    → drop used words ≡ drop (4 * t.line) w → FollowsAt c t (drop used words) m → IsAt c m new → n ≡ 4 * region_lines (drop used words)
    → HasCome c w m new × (m.number ≡ t.number + 1) × (drop (used + n) words ≡ drop (4 * m.line) w)
further c w words used n t m old new come wanted left follows at size =
    let g = goes c t (region_lines (drop used words)) (region (drop used words)) m follows in
    let number : m.number ≡ suc t.number = g.number ∙ add-one t.number in
    let line = g.line in
    let behind : 4 * t.line + n ≡ 4 * m.line = omega arith in (
      record {
        agrees = subst (λ (k : ℕ). Agrees c w k m) (sym number)
            (t, come.agrees, subst (λ (r : List ℕ). FollowsAt c t r m) left follows);
        few = omega arith;
        is_at = at;
      },
      g.number,
      sym (drop-drop n used words) ∙ ap (drop n) left ∙ drop-drop n (4 * t.line) w ∙ ap (λ (k : ℕ). drop k w) behind,
    )

pub overflow_add-used : goal.overflow_add-used
overflow_add-used c =
    let words = c.args.words.now in
    let used = c.loop-number.used in
    let t = c.loop-number.invariant.some in
    let stepped = subst (λ (z : List ℕ). Stepped (Took c.in-Took.count) t.0 t.1 z c.step.new.at) (left_is words used)
    ((rw c.in-Took.is at c.in_ok-count.ensures) t.0 t.1 t.2 t.3) in
    let few = stepped.3 in
    let size = length-drop used words in
    let upto = c.loop-number.invariant.used in
    let room : used + c.in-Took.count ≤ length words = omega arith in
    omega arith

pub returns-in-Waits-clause-all : goal.returns-in-Waits-clause-all
returns-in-Waits-clause-all c k w s terms come words =
    let used = c.loop-number.used in
    let t = c.loop-number.invariant.all k w s terms come words in
    let stepped = subst (λ (z : List ℕ). Stepped Waits k t.0 z c.step.new.at) (left_is c.args.words.now used)
    ((rw c.in-Waits.is at c.in_ok-count.ensures) k t.0 terms t.1.is_at) in
    record {
      end = t.0;
      come = record { agrees = t.1.agrees; few = t.1.few; is_at = stepped.0 };
      left_is = λ _. t.3;
      none = λ wanted m follows. stepped.1 m (subst (λ (r : List ℕ). FollowsAt k t.0 r m) (sym t.3) follows);
    }

pub returns-in-Damaged-clause-all : goal.returns-in-Damaged-clause-all
returns-in-Damaged-clause-all c k w s terms come words =
    let used = c.loop-number.used in
    let t = c.loop-number.invariant.all k w s terms come words in
    let stepped = subst (λ (z : List ℕ). Stepped Damaged k t.0 z c.step.new.at) (left_is c.args.words.now used)
    ((rw c.in-Damaged.is at c.in_ok-count.ensures) k t.0 terms t.1.is_at) in
    let less = c.loop-number-test.true in
    let count = terms.count in
    record {
      end = t.0;
      agrees = subst (λ (n : ℕ). Agrees k w n t.0) t.2 t.1.agrees;
      few = omega arith;
      never = λ more m follows. stepped more m
          (subst (λ (r : List ℕ). FollowsAt k t.0 r m)
          (drop-append-le (4 * t.0.line) w more (agrees_within k w t.0.number t.0 t.1.agrees)
          ∙ ap (λ (r : List ℕ). r ++ more) (sym t.3)) follows);
    }

pub loop-number-preserved : goal.loop-number-preserved
loop-number-preserved c =
    let words = c.args.words.now in
    let used = c.loop-number.used in
    let n = c.in-Took.count in
    let some = c.loop-number.invariant.some in
    let stepped = subst (λ (z : List ℕ). Stepped (Took n) some.0 some.1 z c.step.new.at) (left_is words used)
    ((rw c.in-Took.is at c.in_ok-count.ensures) some.0 some.1 some.2 some.3) in
    let few = stepped.3 in
    let size = length-drop used words in
    let upto = c.loop-number.invariant.used in
    let g = goes some.0 some.1 _ _ stepped.0 stepped.1 in
    let up = g.number in
    let is = some.4 in
    let less = c.loop-number-test.true in
    record {
      used = omega arith;
      some = (some.0, stepped.0, some.2, stepped.2, omega arith);
      all = λ k w s terms come rest.
          let t = c.loop-number.invariant.all k w s terms come rest in
          let next = subst (λ (z : List ℕ). Stepped (Took n) k t.0 z c.step.new.at) (left_is words used)
          ((rw c.in-Took.is at c.in_ok-count.ensures) k t.0 terms t.1.is_at) in
          let count = terms.count in
          let number = t.2 in
          let f = further k w words used n t.0 next.0 c.loop-number.at c.step.new.at t.1 (omega arith) t.3 next.1 next.2 next.3 in
          (next.0, f.0, f.1 ∙ ap (λ (m : ℕ). m + 1) number, f.2);
    }
