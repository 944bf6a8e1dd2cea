-- One more value comes after the others, and at the end all have come.
use Rattle.std.proofs.Common.{◌≡◌, ℕ, ◌∷◌, [], ◌++◌, List, length, map, sym, ap, ◌∙◌, append_assoc, append-nil, arith, refl}
use Rattle.std.proofs.lemmas.List.{map-append}
use Rattle.std.specs.Vec.Iter.{into_iter_items}
use Rattle.fish_value.specs.declared.value.Value.{Value}
use Rattle.fish_lang.specs.Definition.{definition_of}
use Rattle.fish_psf.specs.Eval.{values}
use Rattle.fish_psf.specs.Keys.{value_under}
use Rattle.fish_psf.specs.declared.key.KeyValue.{KeyValue}
use Rattle.fish_psf.proofs.properties.push_keys.Goals as goal

-- a list of no element is empty
nothing_left : {X : Type 0} (l : List X) → length l ≡ 0 → l ≡ []
nothing_left [] h = refl
nothing_left (x ∷ xs) h = absurd (omega arith)

-- what comes after the keys, where that is all
put_all : (new old : List KeyValue) (id : ℕ) (some all : List Value) → new ≡ old ++ map (value_under id) some → some ≡ all
    → new ≡ old ++ map (value_under id) all
put_all new old id some all is same = is ∙ ap (λ (vs : List Value). old ++ map (value_under id) vs) same

pub loop-value-preserved : goal.loop-value-preserved
loop-value-preserved g c =
    let at = c.loop-value in
    let x = c.in-Some.value in
    let id = c.args.active.now.id in
    let steps : into_iter_items at.value-iterator ≡ x ∷ into_iter_items c.next.new.self = c.in-Some.ensures.steps.0 in (
      append_assoc at.yielded (x ∷ []) _ ∙ rw (← steps) at.invariant.0,
      c.in_ok-push.ensures.ok ∙ ap (λ (l : List KeyValue). l ++ value_under id x ∷ []) at.invariant.1
          ∙ append_assoc c.args.keys.now (map (value_under id) at.yielded) (value_under id x ∷ [])
          ∙ ap (λ (l : List KeyValue). c.args.keys.now ++ l) (sym (map-append (value_under id) at.yielded (x ∷ []))),
      let was = at.invariant.2 in
          let gone = c.in-Some.ensures.steps.1 in
          let short = ap length steps in
          omega arith,
    )

pub returns : goal.returns
returns g c =
    let at = c.loop-value in
    let id = c.args.active.now.id in
    let none = c.in-None.ensures.steps in
    let empty : into_iter_items at.value-iterator ≡ [] = nothing_left _ (sym at.invariant.2 ∙ none.0) in
    let gives = values (definition_of c.args.active.now.def) (g.R.Parsed.fields c.args.rec.now) in
    let all : at.yielded ≡ gives =
    sym (append-nil at.yielded) ∙ rw empty at at.invariant.0
    ∙ c.into_iter-value-iterator.ensures.into_iter_gives.0
    ∙ c.into_vec-value-items.ensures ∙ c.in_ok-values.ensures in
    put_all _ _ id at.yielded gives at.invariant.1 all
