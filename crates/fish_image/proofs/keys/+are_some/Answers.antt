-- Where the first are the same, the others are some of the others.
use Rattle.std.proofs.Common.{rules, arith, ◌≡◌, List, ◌∷◌, length, ◌-◌, take, drop, ap, sym, ◌∙◌}
use Rattle.std.proofs.lemmas.Slice.{first_rest}
use Rattle.fish_value.specs.declared.value.Value.{Value}
use Rattle.fish_layout.specs.declared.parts.KeyPart.{KeyPart}
use Rattle.fish_image.specs.Log.{values_under}
use Rattle.fish_image.proofs.KeyValues.{some_taken, under_own}
use Rattle.fish_image.proofs.keys.+are_some.Goals as goal

pub returns-then-is : goal.returns-then-is
returns-then-is t c =
    let same : c.first-item.result ≡ c.key-item.result.value = search rules in
    let own : c.key-item.result.id ≡ c.args.id = search rules in
    let behind : List KeyPart = take (length c.args.keys.now - 1) (drop 1 c.args.keys.now) in
    let more : List Value = take (length c.args.given.now - 1) (drop 1 c.args.given.now) in
    let some_keys = c.in-len1-up.len_at_least in
    let some_given = c.in-len1-up-given.len_at_least in
    let ks : c.args.keys.now ≡ c.key-item.result ∷ behind =
    first_rest c.args.keys.now c.key-item.result (omega arith)
    ∙ ap (λ (z : KeyPart). z ∷ behind) (sym c.key-item.is) in
    let gs : c.args.given.now ≡ c.first-item.result ∷ more =
    first_rest c.args.given.now c.first-item.result (omega arith)
    ∙ ap (λ (z : Value). z ∷ more) (sym c.first-item.is) in
    let us = ap (values_under c.args.id) ks ∙ under_own c.args.id c.key-item.result behind own in
    let n = some_taken c.key-item.result.value (values_under c.args.id behind) c.first-item.result more same us gs in
    let r = c.are_some-then-is.ensures in
    (λ yes. n.1 (r.0 yes), λ h. r.1 (n.0 h))
