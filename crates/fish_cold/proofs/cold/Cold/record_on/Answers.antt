-- The page is what is read, so its words are the file's; what they answer is answered.
use Rattle.std.proofs.Common.{◌*◌, ◌%◌, sym, subst, drop, arith}
use Rattle.fish_cold.specs.Answers.{AnswersEntry, LoadsWords}
use Rattle.fish_cold.specs.Pages.{page_words}
use Rattle.fish_cold.specs.Regions.{Leads}
use Rattle.fish_cold.proofs.Looking.{answered_as, if_some_used, looks_answered}
use Rattle.fish_cold.proofs.cold.Cold.record_on.Goals as goal

pub returns-in-Ok-clause-entry : goal.returns-in-Ok-clause-entry
returns-in-Ok-clause-entry g c =
    let page = c.args.page in
    let number = c.args.number in
    if_some_used (g.D.Disk.content c.bring.new.disk) page c.args.self.now c.in-Ok.fresh c.used-held.result.now _
    c.in-Ok.ensures.fresh c.used-held.ensures
    (λ content page_is start line read start_is leads.
    let is = page_is read in
    let words = is.words in
    let here = c.entry_on-read.ensures.entry (start.line % 32768) line (is.regions start start_is)
    (subst (λ ws. Leads ws (start.line % 32768) c.args.at line) (sym words) leads) in
    answered_as page c.in-Ok.fresh c.args.self.now c.answer.new.self c.entry_on-read.result c.answer.result
    (λ r. AnswersEntry number (drop (4 * line) (page_words c.args.self.now.base.line page content)) r
    × LoadsWords (drop (4 * line) (page_words c.args.self.now.base.line page content)) c.args.loads.now c.entry_on-read.new.loads r)
    c.answer.ensures
    (subst (λ ws. AnswersEntry number (drop (4 * line) ws) c.entry_on-read.result
    × LoadsWords (drop (4 * line) ws) c.args.loads.now c.entry_on-read.new.loads c.entry_on-read.result) words here) (tt, tt))

pub returns-in-Ok-clause-looks : goal.returns-in-Ok-clause-looks
returns-in-Ok-clause-looks g c =
    let within = c.requires in
    looks_answered g.D.Disk c.args.page c.args.self.now
    c.answer.new.self c.args.disk.now c.bring.new.disk c.in-Ok.fresh c.args.number c.entry_on-read.result c.answer.result
    c.used-held.result.now c.in-Ok.ensures (omega arith) c.entry_on-read.ensures.damage c.used-held.ensures c.answer.ensures
