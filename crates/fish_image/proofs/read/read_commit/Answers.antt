-- Where the bytes tell a commit, nothing of it is wanting.
use Rattle.std.proofs.Common.{Some, arith, sym, ap, subst, ◌∙◌}
use Rattle.fish_catalog.specs.Rows.{IsCatalog}
use Rattle.fish_image.proofs.Spelling.{gone, told_length, told_rows, told_word}
use Rattle.fish_image.proofs.read.read_commit.Goals as goal

pub returns-then-b-ne-SLOT_BYTES : goal.returns-then-b-ne-SLOT_BYTES
returns-then-b-ne-SLOT_BYTES c k h = absurd (c.if-b-ne-SLOT_BYTES.true (told_length k c.args.b.now h))

pub returns-then-count : goal.returns-then-count
returns-then-count c k h =
    let count = c.word_at-count.ensures ∙ told_word k c.args.b.now h 6 (omega arith) in
    let few = h.commit.rows.few in
    absurd (omega arith)

pub returns-in_default : goal.returns-in_default
returns-in_default c k h =
    let count = c.word_at-count.ensures ∙ told_word k c.args.b.now h 6 (omega arith) in
    let some = c.in_ok-rows.ensures.some k.rows _ (told_rows k c.args.b.now h) (sym count) in
    absurd (gone c.in_ok-rows.field-0 some c.in_default.is)

pub returns-in_default-2 : goal.returns-in_default-2
returns-in_default-2 c k h =
    let count = c.word_at-count.ensures ∙ told_word k c.args.b.now h 6 (omega arith) in
    let rows = (rw c.in-Some.is at c.in_ok-rows.ensures.rows) k.rows _ (told_rows k c.args.b.now h) (sym count) in
    let some = c.in_ok-rows-2.ensures.some.1 (subst IsCatalog (sym rows) h.commit.rows) in
    absurd (gone c.in_ok-rows-2.field-0 some c.in_default-2.is)

pub returns : goal.returns
returns c k h =
    let count = c.word_at-count.ensures ∙ told_word k c.args.b.now h 6 (omega arith) in
    let rows = (rw c.in-Some.is at c.in_ok-rows.ensures.rows) k.rows _ (told_rows k c.args.b.now h) (sym count) in
    let made = rw c.in-Some-2.is at c.in_ok-rows-2.ensures.value in
    ap Some (c.commit_of.ensures k h (made ∙ rows))
