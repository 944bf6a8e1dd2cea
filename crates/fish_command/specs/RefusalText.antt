-- The words of a refusal.
use Rattle.std.specs.Prelude.{ℕ, List, ◌++◌, codes}
use Rattle.fish_command.specs.declared.refusal.UsageCause.{UsageCause}
use Rattle.fish_command.specs.declared.refusal.UsageCause.TheVariants as cause
use Rattle.fish_lang.specs.RefusalText.{lang_refusal_text}

-- why words are no command
abbrev pub usage_text : UsageCause → List ℕ
usage_text cause.Words = codes "words"
usage_text (cause.Definition refusal) = codes "definition " ++ lang_refusal_text refusal
usage_text cause.Value = codes "value"
