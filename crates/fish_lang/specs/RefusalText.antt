-- The words of a refusal.
use Rattle.std.specs.Prelude.{ℕ, List, ◌++◌, codes, decimal}
use Rattle.fish_lang.specs.declared.parse.LangRefusal.{LangRefusal}
use Rattle.fish_lang.specs.declared.parse.LangRefusal.TheVariants as refusal

-- why a text is no definition, and where
abbrev pub lang_refusal_text : LangRefusal → List ℕ
lang_refusal_text (refusal.Unexpected at) = codes "unexpected at " ++ decimal at
lang_refusal_text (refusal.TooDeep at) = codes "too deep at " ++ decimal at
lang_refusal_text (refusal.TooLong n) = codes "too long " ++ decimal n
lang_refusal_text (refusal.NumberTooLarge at) = codes "number too large at " ++ decimal at
lang_refusal_text (refusal.ZeroWidth at) = codes "zero width at " ++ decimal at
lang_refusal_text refusal.OutOfMemory = codes "out of memory"
