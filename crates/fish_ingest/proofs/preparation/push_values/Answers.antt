-- One entry more, and at the end all of them.
use Rattle.std.proofs.Common.{◌≡◌, ◌∷◌, [], ◌++◌, All, List, length, refl, sym, ap, subst, ◌∙◌, append_assoc, append-nil, arith}
use Rattle.std.proofs.lemmas.List.Elements.{All-head, All-tail}
use Rattle.std.specs.Vec.Iter.{into_iter_items}
use Rattle.fish_value.specs.declared.value.Value.{Value}
use Rattle.fish_ingest.proofs.PreparationKeys.{more_more, none_more}
use Rattle.fish_ingest.specs.within.Preparation.{AreMore, IsShortValue}
use Rattle.fish_ingest.proofs.preparation.push_values.Goals as goal

nothing_left : {X : Type 0} (l : List X) → length l ≡ 0 → l ≡ []
nothing_left [] h = refl
nothing_left (x ∷ xs) h = absurd (omega arith)

pub push_entry-requires : goal.push_entry-requires
push_entry-requires c =
    let steps = c.in-Some.ensures.steps.0 in
    All-head IsShortValue c.in-Some.value (into_iter_items c.next.new.self) (subst (All IsShortValue) steps c.loop-value.invariant.3)

pub loop-value-preserved : goal.loop-value-preserved
loop-value-preserved c =
    let at = c.loop-value in
    let x = c.in-Some.value in
    let steps : into_iter_items at.value-iterator ≡ x ∷ into_iter_items c.next.new.self = c.in-Some.ensures.steps.0 in (
      append_assoc at.yielded (x ∷ []) _ ∙ rw (← steps) at.invariant.0,
      more_more c.args.id at.yielded (x ∷ []) _ _ _ at.invariant.1 c.in_ok-push_entry.ensures,
      let was = at.invariant.2 in
          let gone = c.in-Some.ensures.steps.1 in
          let short = ap length steps in
          omega arith,
      All-tail IsShortValue x (into_iter_items c.next.new.self) (subst (All IsShortValue) steps at.invariant.3),
    )

pub returns : goal.returns
returns c =
    let at = c.loop-value in
    let none = c.in-None.ensures.steps in
    let empty : into_iter_items at.value-iterator ≡ [] = nothing_left _ (sym at.invariant.2 ∙ none.0) in
    let all = sym (append-nil at.yielded) ∙ rw empty at at.invariant.0 ∙ c.into_iter-value-iterator.ensures.into_iter_gives.0
    ∙ c.into_vec-value-items.ensures in
    subst (λ (vs : List Value). AreMore c.args.id vs c.args.keys.now at.keys) all at.invariant.1
