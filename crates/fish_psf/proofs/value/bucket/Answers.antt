-- The subtraction fits exactly where the multiple is within an i64.
use Rattle.std.proofs.Common.{sym}
use Rattle.std.specs.Int.{w64}
use Rattle.std.proofs.lemmas.Int.{to_z-of_z}
use Rattle.fish_psf.proofs.BucketLemmas.{bucket-narrow, bucket-left}
use Rattle.fish_psf.proofs.value.bucket.Goals as goal

pub returns-then-width-lt1 : goal.returns-then-width-lt1
returns-then-width-lt1 c =
    let width = to_z-of_z w64 c.args.width c.ranges.width in
    sym (bucket-narrow c.args.width c.args.number (rw width at c.if-width-lt1.true))

pub returns : goal.returns
returns c =
    let width = to_z-of_z w64 c.args.width c.ranges.width in
    let number = to_z-of_z w64 c.args.number c.ranges.number in
    let rest = to_z-of_z w64 c.rem_euclid.result (record { sfits = c.rem_euclid.type_inv }) in
    let wide = rw width at c.if-width-lt1.false in
    let value = rw (number, width) at c.rem_euclid.ensures.value in
    bucket-left c.args.width c.args.number c.checked_sub.result wide (rw (number, rest, value) at c.checked_sub.ensures)
