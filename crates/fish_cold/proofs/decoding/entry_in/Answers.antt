-- The region is led to, so its line is kept, and its words are those from there on.
use Rattle.std.proofs.Common.{◌*◌, ◌∙◌, ap, arith, drop, subst}
use Rattle.std.proofs.lemmas.Option.{get_or_from_slice_get}
use Rattle.fish_layout.proofs.Outlines.{range_from}
use Rattle.fish_cold.specs.Answers.{AnswersEntry, LoadsWords}
use Rattle.fish_cold.proofs.RegionHeads.{leads_within}
use Rattle.fish_cold.proofs.decoding.entry_in.Goals as goal

pub returns-then-words-line-clause-entry : goal.returns-then-words-line-clause-entry
returns-then-words-line-clause-entry g c first line regions leads =
    let is = get_or_from_slice_get c.args.regions.now c.args.at line 0 (regions c.args.at line leads) in
    let within = leads_within c.args.words.now first c.args.at line leads in
    absurd (omega (arith, c.if-words-line.true))

pub returns-clause-entry : goal.returns-clause-entry
returns-clause-entry g c first line regions leads =
    let is = get_or_from_slice_get c.args.regions.now c.args.at line 0 (regions c.args.at line leads) in
    subst (λ l. AnswersEntry c.args.number l c.entry_at.result)
    (range_from c.args.words.now _ ∙ ap (λ n. drop (4 * n) c.args.words.now) is) c.entry_at.ensures.entry

pub returns-clause-loads : goal.returns-clause-loads
returns-clause-loads g c first line regions leads =
    let is = get_or_from_slice_get c.args.regions.now c.args.at line 0 (regions c.args.at line leads) in
    subst (λ l. LoadsWords l c.args.loads.now c.entry_at.new.loads c.entry_at.result)
    (range_from c.args.words.now _ ∙ ap (λ n. drop (4 * n) c.args.words.now) is) c.entry_at.ensures.loads
