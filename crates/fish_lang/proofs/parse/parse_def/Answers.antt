-- The answer is what the tokens lead to. That is what the language says of the source, and it alone.
use Rattle.std.proofs.Common.{subst}
use Rattle.std.specs.Prelude.{Result}
use Rattle.fish_lang.specs.Definition.{Definition, definition_of}
use Rattle.fish_lang.specs.Outcome.{Gives}
use Rattle.fish_lang.specs.within.Outcome.{outcome}
use Rattle.fish_lang.specs.declared.parse.LangRefusal.{LangRefusal}
use Rattle.fish_lang.proofs.Outcomes.{Gives-due, outcome-is, outcome-only}
use Rattle.fish_lang.proofs.parse.parse_def.Goals as goal

pub returns-clause-answer : goal.returns-clause-answer
returns-clause-answer c = Gives-due c.answer.result (outcome c.args.b.now) c.args.b.now
    c.answer.ensures (outcome-is c.args.b.now)

pub returns-clause-only : goal.returns-clause-only
returns-clause-only c = λ due is.
    let P : Result Definition LangRefusal → Type 0 = λ z. Gives definition_of c.answer.result z in
    subst P (outcome-only c.args.b.now due is) c.answer.ensures
