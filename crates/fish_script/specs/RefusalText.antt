-- The words of a refusal.
use Rattle.std.specs.Prelude.{ℕ, List, ◌++◌, codes, decimal}
use Rattle.fish_lang.specs.RefusalText.{lang_refusal_text}
use Rattle.fish_script.specs.declared.refusal.ScriptRefusal.{ScriptRefusal}
use Rattle.fish_script.specs.declared.refusal.ScriptRefusal.TheVariants as refusal

-- why a text is no script, and on which line
abbrev pub script_refusal_text : ScriptRefusal → List ℕ
script_refusal_text (refusal.TooLong n) = codes "too long " ++ decimal n
script_refusal_text (refusal.NotText line) = codes "not text line " ++ decimal line
script_refusal_text (refusal.Unexpected line) = codes "unexpected line " ++ decimal line
script_refusal_text (refusal.Definition line why) =
    codes "definition line " ++ (decimal line ++ (codes " " ++ lang_refusal_text why))
script_refusal_text (refusal.ControlInLane line) = codes "control in lane line " ++ decimal line
script_refusal_text (refusal.TooManyLanes line) = codes "too many lanes line " ++ decimal line
script_refusal_text (refusal.TooManyFeeds line) = codes "too many feeds line " ++ decimal line
script_refusal_text refusal.OutOfMemory = codes "out of memory"
