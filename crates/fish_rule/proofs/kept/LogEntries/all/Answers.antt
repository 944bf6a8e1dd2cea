-- One entry more.
use Rattle.std.proofs.Common.{◌≡◌, ◌+◌, ◌∙◌, ◌++◌, ◌∷◌, ℕ, zero, suc, List, [], sym, ap, take, slice_get, Some, arith}
use Rattle.std.proofs.lemmas.List.{take_all}
use Rattle.fish_catalog.specs.declared.entry.Entry.{Entry}
use Rattle.fish_rule.proofs.kept.LogEntries.all.Goals as goal

-- one element more of the front of a list
take_more : (xs : List Entry) (n : ℕ) (x : Entry) → slice_get xs n ≡ Some x → take n xs ++ x ∷ [] ≡ take (suc n) xs
take_more [] n x at = absurd cc
take_more (y ∷ xs) zero x at = (let same : y ≡ x = cc in λ j. sym same j ∷ [])
take_more (y ∷ xs) (suc n) x at = ap (λ (z : List Entry). y ∷ z) (take_more xs n x at)

pub loop-place-init : goal.loop-place-init
loop-place-init c = record { upto = c.len-place-end.ensures; first = c.new-entries.ensures }

pub loop-place-preserved : goal.loop-place-preserved
loop-place-preserved c =
    let n : ℕ = c.loop-place.place in
    let next : suc n ≡ n + 1 = omega arith in
    record {
      upto = c.loop-place.invariant.upto;
      first = c.in_ok-push.ensures.ok
          ∙ ap (λ (z : List Entry). z ++ c.in_ok-entry.entry ∷ []) c.loop-place.invariant.first
          ∙ take_more c.args.self.now n c.in_ok-entry.entry c.in_ok-entry.ensures
          ∙ ap (λ (z : ℕ). take z c.args.self.now) next;
    }

pub returns : goal.returns
returns c =
    let upto = c.loop-place.invariant.upto in
    let past = c.loop-place-test.false in
    let end = c.loop-place.auto.place-end in
    c.loop-place.invariant.first ∙ take_all c.loop-place.place c.args.self.now (omega arith)
