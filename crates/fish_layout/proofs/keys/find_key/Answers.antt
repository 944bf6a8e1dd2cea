-- The entry's words say its key, and its value's bytes stand where they say.
use Rattle.std.proofs.Common.{◌≡◌, Some, length, ap, ◌∙◌, sym, arith}
use Rattle.std.proofs.lemmas.Bool.Decides.{nat_tests}
use Rattle.fish_layout.specs.Body.{values_of}
use Rattle.fish_layout.proofs.Entries.{some_same}
use Rattle.fish_layout.proofs.KeyWords.{body_key}
use Rattle.fish_layout.proofs.Outlines.{body_length}
use Rattle.fish_layout.proofs.Sizes.{roomy, some_lines}
use Rattle.fish_layout.proofs.Spelled.{body_says}
use Rattle.fish_layout.proofs.KeyValues.{key_points}
use Rattle.fish_layout.proofs.keys.find_key.Goals as goal
use Rattle.fish_layout.proofs.keys.find_key.Goals.{then-keys-position-via-then-keys-position}
use Rattle.fish_layout.proofs.keys.find_key.Goals.{then-keys-position-via-else-keys-position+then-words-keys}

pub returns-then-is_empty : goal.returns-then-is_empty
returns-then-is_empty c p k h within is =
    let none : length c.args.words.now ≡ 0 = grind (arith, nat_tests) in
    absurd (omega (arith, body_length h, some_lines p))

pub returns-then-keys-position : goal.returns-then-keys-position
returns-then-keys-position c p k h within is =
    let keys = c.keys_in.ensures.value ∙ (body_says h).keys in
    let room = roomy p in
    let size = body_length h in
    elim c.then-keys-position.branch [
      | then-keys-position-via-then-keys-position w ↦ absurd (omega (arith, w.if-keys-position.true, c.from-keys.ensures))
      | then-keys-position-via-else-keys-position+then-words-keys w ↦ absurd (omega (arith, w.if-words-keys.true, c.from-keys.ensures))
    ]

pub returns-in_default : goal.returns-in_default
returns-in_default c p k h within is =
    let keys = c.from-keys.ensures ∙ c.keys_in.ensures.value ∙ (body_says h).keys in
    let points = key_points h c.args.position k within is c.from-keys.result keys in
    let found = c.in_ok-value.ensures k.value
    (length (values_of p.keys)) points.proper points.kind points.within points.room points.bytes in
    let none = c.in_default.is in
    cc

pub returns : goal.returns
returns c p k h within is =
    let keys = c.from-keys.ensures ∙ c.keys_in.ensures.value ∙ (body_says h).keys in
    let points = key_points h c.args.position k within is c.from-keys.result keys in
    let found = c.in_ok-value.ensures k.value
    (length (values_of p.keys)) points.proper points.kind points.within points.room points.bytes in
    let says = body_key c.args.position k h within is in
    let value : c.in-Some.value ≡ k.value = some_same (sym c.in-Some.is ∙ found) in
    ap (λ n. Some (record { prev = n; id = c.id_in.result; value = c.in-Some.value })) says.prev
    ∙ ap (λ n. Some (record { prev = k.prev; id = n; value = c.in-Some.value })) (c.id_in.ensures ∙ says.id)
    ∙ ap (λ v. Some (record { prev = k.prev; id = k.id; value = v })) value
