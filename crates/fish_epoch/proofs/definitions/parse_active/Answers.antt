-- An active definition more is parsed, and an ended one is passed over.
use Rattle.std.proofs.Common.{◌∙◌, ap}
use Rattle.std.specs.Prelude.{Vec}
use Rattle.std.specs.declared.alloc.Global.{Global}
use Rattle.fish_epoch.proofs.Texts.{turn_off, turn_on}
use Rattle.fish_psf.specs.declared.key.ActiveDef.{ActiveDef}
use Rattle.fish_epoch.proofs.definitions.parse_active.Goals.{then-row+in_ok-parse_row+in_ok-push, else-row}
use Rattle.fish_epoch.proofs.definitions.parse_active.Goals as goal

pub loop-row-preserved : goal.loop-row-preserved
loop-row-preserved c =
    let h = c.loop-row in
    let l = c.row-item in
    elim c.if-row.branch [
      | then-row+in_ok-parse_row+in_ok-push w ↦
          (let d = w.in_ok-parse_row in
          let t = turn_on c.args.rows.now h.row-index l.result h.active.items c.loop-row-test.true l.is h.invariant.texts
          h.invariant.written d.field-0 c.if-row.active.items w.if-row.true d.ensures.text d.ensures.written
          (ap (λ (z : Vec ActiveDef Global). z.items) w.active-is ∙ w.in_ok-push.ensures.items) in
          record { texts = t.0; written = t.1 })
      | else-row w ↦
          (let t = turn_off c.args.rows.now h.row-index l.result h.active.items c.loop-row-test.true l.is
          h.invariant.texts h.invariant.written c.if-row.active.items w.if-row.false
          (ap (λ (z : Vec ActiveDef Global). z.items) w.active-is) in
          record { texts = t.0; written = t.1 })
    ]
