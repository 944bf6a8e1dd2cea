-- The entry's words say its key, and its value's bytes stand where they say.
use Rattle.std.proofs.Common.{◌≡◌, Some, length, ap, ◌∙◌, sym, arith}
use Rattle.fish_layout.proofs.Entries.{proper_at, some_same, values_within}
use Rattle.fish_layout.proofs.KeyWords.{body_key, value_pointed}
use Rattle.fish_layout.proofs.keys.read_key.Goals as goal

pub returns-then-values-end : goal.returns-then-values-end
returns-then-values-end c p k h values within is =
    let says = body_key c.args.position k h within is in
    absurd (omega (
      arith,
      ap length values,
      values_within p.keys c.args.position k within is,
      says.offset,
      says.size,
      c.offset_in-from.ensures.value,
      c.size_in.ensures.value,
    ))

pub returns-in_default : goal.returns-in_default
returns-in_default c p k h values within is =
    let says = body_key c.args.position k h within is in
    let bytes = value_pointed c.args.position k _ _ _ h within is values c.offset_in-from.ensures.value c.size_in.ensures.value in
    let found =
    c.in_ok-value.ensures k.value (proper_at 0 p.keys c.args.position k h.proper.keys within is).1
    (c.kind_in.ensures ∙ says.kind) bytes in
    let none = c.in_default.is in
    cc

pub returns : goal.returns
returns c p k h values within is =
    let says = body_key c.args.position k h within is in
    let bytes = value_pointed c.args.position k _ _ _ h within is values c.offset_in-from.ensures.value c.size_in.ensures.value in
    let found =
    c.in_ok-value.ensures k.value (proper_at 0 p.keys c.args.position k h.proper.keys within is).1
    (c.kind_in.ensures ∙ says.kind) bytes in
    let value : c.in-Some.value ≡ k.value = some_same (sym c.in-Some.is ∙ found) in
    ap (λ n. Some (record { prev = n; id = c.id_in.result; value = c.in-Some.value })) says.prev
    ∙ ap (λ n. Some (record { prev = k.prev; id = n; value = c.in-Some.value })) (c.id_in.ensures ∙ says.id)
    ∙ ap (λ v. Some (record { prev = k.prev; id = k.id; value = v })) value
