-- What `select` answers, from the whole list of a file's bytes. What private clauses need of it.
use Rattle.std.specs.Prelude.{ℕ, List}
use Rattle.fish_command.specs.declared.command.Select.{Select}
use Rattle.fish_lang.specs.Definition.{definition_of}
use Rattle.fish_program.specs.Answer.{Answers}
use Rattle.fish_report.specs.declared.item.Item.{Item}

-- it answers a command that was read
abbrev pub AnswersTo : Select → List ℕ → Item → Type 0
AnswersTo s = Answers (definition_of s.def) s.value s.form s.header s.file
