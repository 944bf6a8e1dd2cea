-- A field more, until the row has no more; a row that shows no byte is written as two quotes.
use Rattle.std.proofs.Common.{◌==◌, length, inl, inr, sym, ap, ◌∙◌, arith}
use Rattle.csv.specs.Records.{fields_of}
use Rattle.fish_csv.proofs.Written.{field-below, fields-more, written-blank, written-whole}
use Rattle.fish_csv.proofs.write.write_row.Goals as goal
use Rattle.fish_csv.proofs.write.write_row.Goals.{else-position-lt2-via-then-position-lt2+else-is_empty}
use Rattle.fish_csv.proofs.write.write_row.Goals.{else-position-lt2-via-else-position-lt2}

pub loop-field-smaller : goal.loop-field-smaller
loop-field-smaller c = let below =
    field-below (fields_of c.args.row.now) c.loop-field.position c.in-Some.field.now c.in-Some.ensures.value in omega arith

pub loop-field-preserved : goal.loop-field-preserved
loop-field-preserved c =
    let below = field-below (fields_of c.args.row.now) c.loop-field.position c.in-Some.field.now c.in-Some.ensures.value in
    record {
      within = omega arith;
      written = fields-more
          (fields_of c.args.row.now) c.loop-field.position c.in-Some.field.now _ _ _ c.in-Some.ensures.value
          c.loop-field.invariant.written c.in_ok-write_separator.ensures c.in_ok-write_field.ensures;
    }

pub returns-in_ok-extend_from_slice : goal.returns-in_ok-extend_from_slice
returns-in_ok-extend_from_slice c =
    written-blank (fields_of c.args.row.now) c.loop-field.position c.loop-field.out.items _ c.in_default.ensures.value
    c.loop-field.invariant.within c.loop-field.invariant.written
    c.if-position-lt2.true (ap (λ t. length t == 0) (sym c.as_slice.ensures.value) ∙ sym c.is_empty.ensures
    ∙ c.if-is_empty.true) c.in_ok-extend_from_slice.ensures.items

pub returns-else-position-lt2 : goal.returns-else-position-lt2
returns-else-position-lt2 c =
    written-whole (fields_of c.args.row.now) c.loop-field.position c.loop-field.out.items c.in_default.ensures.value
    c.loop-field.invariant.within c.loop-field.invariant.written
    (elim c.else-position-lt2.branch [
      | else-position-lt2-via-then-position-lt2+else-is_empty w ↦
          inr (ap (λ t. length t == 0) (sym w.as_slice.ensures.value) ∙ sym w.is_empty.ensures ∙ w.if-is_empty.false)
      | else-position-lt2-via-else-position-lt2 w ↦ inl (omega arith)
    ])
