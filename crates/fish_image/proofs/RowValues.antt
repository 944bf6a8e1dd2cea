-- What a row asks of the values of its key entries, and the rows up to one.
use Rattle.std.proofs.Common.{◌≡◌, ℕ, ◌+◌, ◌<◌, List, [], ◌∷◌, Some, refl, sym, ap, subst, ◌∙◌, inl, arith, slice_get}
use Rattle.std.specs.Prelude.{◌↔◌}
use Rattle.std.proofs.lemmas.Option.{same_Some}
use Rattle.std.proofs.Math.Decide.{ℕ_discrete}
use Rattle.fish_lang.specs.Definition.{definition_of}
use Rattle.fish_psf.specs.Eval.{Fields, values}
use Rattle.fish_value.specs.declared.value.Value.{Value}
use Rattle.fish_image.specs.Log.{AreSomeOf}
use Rattle.fish_image.specs.within.Terms.{HasIndexValues, IndexCovers}
use Rattle.fish_image.specs.declared.terms.IndexRow.{IndexRow}

-- all of a list are some of it
some_all : (vs : List Value) → AreSomeOf vs vs
some_all [] = tt
some_all (v ∷ vs) = inl (refl, some_all vs)

module _ (x : IndexRow) (number : ℕ) (fields : Fields) (vs given : List Value)
    (are : given ≡ values (definition_of x.def) fields) where
  -- where the index covers the record, just its values are wanted
  pub all_wanted : IndexCovers x number → (vs ≡ given) ↔ HasIndexValues x number fields vs
  all_wanted covers = (
    λ same. record {
      some = subst (λ (us : List Value). AreSomeOf us (values (definition_of x.def) fields)) (sym (same ∙ are))
          (some_all (values (definition_of x.def) fields));
      all = λ _. same ∙ are;
    },
    λ h. h.all covers ∙ sym are,
  )

  -- and else some of them
  pub some_wanted : (IndexCovers x number → ⊥) → AreSomeOf vs given ↔ HasIndexValues x number fields vs
  some_wanted not = (
    λ some. record {
      some = subst (λ (us : List Value). AreSomeOf vs us) are some;
      all = λ covers. absurd (not covers);
    },
    λ h. subst (λ (us : List Value). AreSomeOf vs us) (sym are) h.some,
  )

-- where the index doesn't cover the record, no value is wanted
pub none_wanted : (x : IndexRow) (number : ℕ) (fields : Fields) (vs : List Value) → vs ≡ [] → (IndexCovers x number → ⊥)
    → HasIndexValues x number fields vs
none_wanted x number fields vs none not = record {
  some = subst (λ (us : List Value). AreSomeOf us (values (definition_of x.def) fields)) (sym none) tt;
  all = λ covers. absurd (not covers);
}

-- what is so of the rows before one and of that one is so of one more
pub one_more : (P : ℕ → IndexRow → Type 0) (rows : List IndexRow) (i : ℕ) (x : IndexRow) → slice_get rows i ≡ Some x
    → ((id : ℕ) → id < i → (y : IndexRow) → slice_get rows id ≡ Some y → P id y) → P i x
    → (id : ℕ) → id < i + 1 → (y : IndexRow) → slice_get rows id ≡ Some y → P id y
one_more P rows i x at before here id less y there = by (ℕ_discrete id i)
  where
    by : Dec (id ≡ i) → P id y
    by (yes e) = subst (λ (z : IndexRow). P id z) (same_Some x y (sym at ∙ ap (slice_get rows) (sym e) ∙ there))
        (subst (λ (n : ℕ). P n x) (sym e) here)
    by (no n) = before id (omega arith) y there
