-- One field more is at most one value more, and where eight came together no other field changes them.
use Rattle.std.proofs.Common.{◌<◌, ◌∙◌, ap, arith, length, sym}
use Rattle.std.proofs.lemmas.Bool.Decides.{nat_tests}
use Rattle.fish_psf.proofs.FirstValues.{gathered_full, gathered_step}
use Rattle.fish_psf.proofs.value.first_values.Goals as goal

pub returns-then-len-eq-MAX_VALUES : goal.returns-then-len-eq-MAX_VALUES
returns-then-len-eq-MAX_VALUES c =
    let so_far = c.loop-field.invariant.0 in
    let eight = ap length (sym so_far) ∙ sym c.len.ensures ∙ c.if-len-eq-MAX_VALUES.true in
    so_far ∙ gathered_full c.args.fields.now c.loop-field.field-index eight

pub loop-field-preserved : goal.loop-field-preserved
loop-field-preserved c =
    let few = c.loop-field.invariant.1 in
    let len = c.len.ensures in
    let other = c.if-len-eq-MAX_VALUES.false in
    let room : length c.loop-field.values < 8 = grind (arith, nat_tests) in
    gathered_step c.args.fields.now c.loop-field.field-index _ c.loop-field.values _
    c.loop-field-test.true c.loop-field.invariant.0 room c.in_ok-push_field.ensures
