-- The page is what is read, so its words are the file's; what they answer is answered.
use Rattle.std.proofs.Common.{◌*◌, ◌/◌, ◌%◌, sym, subst, drop, arith}
use Rattle.fish_cold.specs.Answers.{AnswersEntry, HasNodeAt, LoadsWords}
use Rattle.fish_cold.specs.Pages.{page_words}
use Rattle.fish_cold.proofs.Looking.{answered_as, if_some_used, looks_answered}
use Rattle.fish_cold.proofs.cold.Cold.find_row.Goals as goal

pub returns-in-Ok-clause-entry : goal.returns-in-Ok-clause-entry
returns-in-Ok-clause-entry g c =
    let place = c.args.node.now.place in
    let number = c.args.node.now.number in
    if_some_used (g.D.Disk.content c.bring.new.disk) (place / 131072) c.args.self.now c.in-Ok.fresh c.used-held.result.now _
    c.in-Ok.ensures.fresh c.used-held.ensures
    (λ content page_is line p k read node.
    let words = (page_is read).words in
    let here = c.row_on-read.ensures.entry line p k (subst (λ ws. HasNodeAt ws (place % 131072) line p c.args.node.now.key k)
    (sym words) node) in
    answered_as (place / 131072) c.in-Ok.fresh c.args.self.now c.answer.new.self c.row_on-read.result c.answer.result
    (λ r. AnswersEntry number (drop (4 * line) (page_words c.args.self.now.base.line (place / 131072) content)) r
    × LoadsWords (drop (4 * line) (page_words c.args.self.now.base.line
    (place / 131072) content)) c.args.loads.now c.row_on-read.new.loads r)
    c.answer.ensures
    (subst (λ ws. AnswersEntry number (drop (4 * line) ws) c.row_on-read.result
    × LoadsWords (drop (4 * line) ws) c.args.loads.now c.row_on-read.new.loads c.row_on-read.result) words here) (tt, tt))

pub returns-in-Ok-clause-looks : goal.returns-in-Ok-clause-looks
returns-in-Ok-clause-looks g c =
    let lower = c.requires.lower in
    looks_answered g.D.Disk
    (c.args.node.now.place / 131072) c.args.self.now
    c.answer.new.self c.args.disk.now c.bring.new.disk c.in-Ok.fresh c.args.node.now.number c.row_on-read.result c.answer.result
    c.used-held.result.now c.in-Ok.ensures (omega arith) c.row_on-read.ensures.damage c.used-held.ensures c.answer.ensures
