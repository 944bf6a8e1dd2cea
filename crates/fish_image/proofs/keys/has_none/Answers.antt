-- After a greater id there is no entry of the definition.
use Rattle.std.proofs.Common.{rules, arith, refl, ◌≡◌, ◌<◌, List, ◌∷◌, length, ◌-◌, take, drop, ap, sym, subst, ◌∙◌}
use Rattle.std.proofs.lemmas.Slice.{first_rest}
use Rattle.fish_layout.specs.Body.{AreProperKeys}
use Rattle.fish_layout.specs.declared.parts.KeyPart.{KeyPart}
use Rattle.fish_image.specs.Log.{values_under}
use Rattle.fish_image.proofs.KeyValues.{none_from}
use Rattle.fish_image.proofs.keys.has_none.Goals as goal

pub returns-then-own-id-2 : goal.returns-then-own-id-2
returns-then-own-id-2 c =
    let behind : List KeyPart = take (length c.loop-rest.rest.now - 1) (drop 1 c.loop-rest.rest.now) in
    let some_keys = c.in-len1-up.len_at_least in
    let ks : c.loop-rest.rest.now ≡ c.key-item.result ∷ behind =
    first_rest c.loop-rest.rest.now c.key-item.result (omega arith)
    ∙ ap (λ (z : KeyPart). z ∷ behind) (sym c.key-item.is) in
    let under = sym (ap (values_under c.args.id) ks) ∙ c.loop-rest.invariant.same in
    let above : c.args.id < c.key-item.result.id = search rules in
    let proper = subst (AreProperKeys 0) ks c.loop-rest.invariant.proper in
    (λ _. sym under ∙ none_from c.args.id c.key-item.result behind proper above, λ _. refl)
