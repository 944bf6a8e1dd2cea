-- A stored text is a payload but for its length, its bytes, and a byte order mark before what is no row alone.
use Rattle.std.proofs.Common.{Some, ap, ◌∙◌, arith}
use Rattle.fish_csv.proofs.Readings.{kept_none, kept_some, read_none, read_some, row_of_long, row_of_none}
use Rattle.fish_csv.proofs.Readings.{row_reading_other, text_no, text_yes}
use Rattle.fish_csv.proofs.Stored.{kept-stored}
use Rattle.fish_csv.proofs.file.payload.Goals as goal
use Rattle.fish_csv.proofs.file.payload.Goals.{else-behind-text-via-then-behind-text+in_ok-read_one+else-not-branch}
use Rattle.fish_csv.proofs.file.payload.Goals.{else-behind-text-via-else-behind-text}

pub returns-then-text-gt-MAX_PAYLOAD : goal.returns-then-text-gt-MAX_PAYLOAD
returns-then-text-gt-MAX_PAYLOAD c = kept_none c.args.text.now (row_of_long c.args.text.now c.if-text-gt-MAX_PAYLOAD.true)

pub returns-in_default : goal.returns-in_default
returns-in_default c =
    kept_none c.args.text.now
    (row_of_none c.args.text.now (row_reading_other c.args.text.now (text_no c.args.text.now c.in_default.ensures)))

pub returns-then-not-branch : goal.returns-then-not-branch
returns-then-not-branch c =
    kept_none c.args.text.now (row_of_none c.args.text.now
    (read_none c.args.text.now c.without_mark-behind.result.now _ c.in_ok-read_one.field-0
    c.without_mark-behind.ensures
    (text_yes c.args.text.now c.in-Ok.ensures.1) c.in_ok-read_one.ensures c.if-not-branch.true))

pub returns : goal.returns
returns c =
    ap Some (c.in_ok-copy_of.ensures ∙ c.in-Ok.ensures.0)
    ∙ elim c.else-behind-text.branch [
      | else-behind-text-via-then-behind-text+in_ok-read_one+else-not-branch w ↦
          kept_some c.args.text.now _
          (read_some c.args.text.now c.without_mark-behind.result.now _ w.in_ok-read_one.field-0
          c.without_mark-behind.ensures (text_yes c.args.text.now c.in-Ok.ensures.1)
          (omega arith) w.in_ok-read_one.ensures w.if-not-branch.false)
      | else-behind-text-via-else-behind-text w ↦
          kept-stored c.args.text.now c.without_mark-behind.result.now c.requires (omega arith)
          (text_yes c.args.text.now c.in-Ok.ensures.1) c.without_mark-behind.ensures (omega arith)
    ]
