-- What one line says, as far as it needs no other line: one equation a rule.
use Rattle.std.specs.Prelude.{ℕ, ℤ, pos, negsuc, ◌&&◌, ◌||◌, ◌==◌, List, Bool, true, false, not, nat_le, nat_lt, Option}
use Rattle.std.specs.Prelude.{Some, None, option_map, option_and_then, length, slice_index, codes, if◌then◌else◌}
use Rattle.std.specs.Char.{is_ascii_alphanumeric, is_ascii_digit}
use Rattle.std.specs.List.{list_all}
use Rattle.std.specs.Str.{bytes_eq}
use Rattle.serde_json.specs.Find.{as_str}
use Rattle.fish_lang.specs.Token.{is_blank}
use Rattle.fish_value.specs.BareWord.{is_bare_word}
use Rattle.fish_value.specs.Json.{reading}
use Rattle.fish_value.specs.Number.{int_of}
use Rattle.fish_value.specs.ValueText.{is_quoted, value_text}
use Rattle.fish_value.specs.declared.field.Form.TheVariants as form
use Rattle.fish_value.specs.declared.value.Value.{Value}
use Rattle.fish_value.specs.Limits.{longest_name}
use Rattle.fish_script.specs.Limits.{numbers_below}
use Rattle.fish_script.specs.Words.{unblank, word_of, words_behind}
use Rattle.fish_script.specs.declared.script.By.{By}
use Rattle.fish_script.specs.declared.script.By.TheVariants as by
use Rattle.fish_script.specs.declared.script_line.Look.{Look}
use Rattle.fish_script.specs.declared.script_line.Range.{Range}
use Rattle.fish_script.specs.declared.script_line.StatementLine.{StatementLine}
use Rattle.fish_script.specs.declared.script_line.StatementLine.TheVariants as does
use Rattle.fish_script.specs.declared.script_line.ScriptLine.{ScriptLine}
use Rattle.fish_script.specs.declared.script_line.ScriptLine.TheVariants as said

-- ---- names, files and numbers

-- the bytes of names: `A-Z a-z 0-9 _`
abbrev pub is_name_byte : ℕ → Bool
is_name_byte c = is_ascii_alphanumeric c || (c == 95)

-- a word can be a name: 1 to 32 such bytes, the first of them no digit
unfoldable pub is_name : List ℕ → Bool
is_name w =
    nat_lt 0 (length w) && nat_le (length w) longest_name && list_all is_name_byte w
    && not (is_ascii_digit (slice_index w 0))

-- a text that isn't empty
abbrev pub filled : List ℕ → Option (List ℕ)
filled s = if nat_lt 0 (length s) then Some s else None

-- the file that a word names: a bare word, or a JSON string that isn't empty
unfoldable pub file_word : List ℕ → Option (List ℕ)
file_word w =
    if is_bare_word w then Some w else (
    if is_quoted w then option_and_then filled (option_and_then as_str (reading w)) else None)

-- a whole number that can be a record's
abbrev pub in_range : ℤ → Option ℕ
in_range (pos n) = if nat_lt n numbers_below then Some n else None
in_range (negsuc n) = None

-- the number that a word is: `0` or `[1-9][0-9]*`, below 268435456
unfoldable pub number_of : List ℕ → Option ℕ
number_of w = option_and_then in_range (int_of w)

-- ---- the rest of a line that asks for records

-- `index`, `full` or `auto`
unfoldable pub way_of : List ℕ → Option By
way_of w =
    if bytes_eq w (codes "index") then Some by.Index else (
    if bytes_eq w (codes "full") then Some by.Full else (
    if bytes_eq w (codes "auto") then Some by.Auto else None))

-- `[by index | by full | by auto]`, and then nothing more
unfoldable pub by_of : List ℕ → Option By
by_of b =
    if list_all is_blank b then Some by.Auto else (
    if bytes_eq (word_of b) (codes "by") && list_all is_blank (words_behind (words_behind b))
    then way_of (word_of (words_behind b)) else None)

-- `[KEY N]`: the number, if it is there, and what follows
unfoldable pub limit_of : List ℕ → List ℕ → Option (Option ℕ × List ℕ)
limit_of key b =
    if bytes_eq (word_of b) key
    then option_map (λ (n : ℕ). (Some n, words_behind (words_behind b))) (number_of (word_of (words_behind b)))
    else Some (None, b)

-- `[from N] [to N] [by HOW]`
unfoldable pub range_of : List ℕ → Option Range
range_of b =
    option_and_then (λ (f : Option ℕ × List ℕ).
    option_and_then (λ (t : Option ℕ × List ℕ).
    option_map (λ (h : By). record { from = f.0; to = t.0; by = h }) (by_of t.1)) (limit_of (codes "to") f.1))
    (limit_of (codes "from") b)

-- `NAME = VALUE`, and the rest
unfoldable pub look_of : List ℕ → Option Look
look_of b =
    if is_name (word_of b) && bytes_eq (word_of (words_behind b)) (codes "=")
    then option_and_then (λ (r : Range).
    option_map (λ (v : Value). record { name = word_of b; value = v; range = r })
    (value_text (word_of (words_behind (words_behind b))))) (range_of (words_behind (words_behind (words_behind b))))
    else None

-- ---- statements, by what follows the first word

-- `NAME as DEF`, where DEF is all that comes after the blanks, perhaps nothing
unfoldable pub register_of : List ℕ → Option StatementLine
register_of b =
    if is_name (word_of b) && bytes_eq (word_of (words_behind b)) (codes "as")
    then Some (does.Register (word_of b) (unblank (words_behind (words_behind b)))) else None

-- `NAME`
unfoldable pub deregister_of : List ℕ → Option StatementLine
deregister_of b =
    if is_name (word_of b) && list_all is_blank (words_behind b) then Some (does.Deregister (word_of b)) else None

-- `FILE`
unfoldable pub json_of : List ℕ → Option StatementLine
json_of b =
    if list_all is_blank (words_behind b)
    then option_map (λ (f : List ℕ). does.Ingest form.Json false f) (file_word (word_of b)) else None

-- `FILE [header]`
unfoldable pub csv_of : List ℕ → Option StatementLine
csv_of b =
    if list_all is_blank (words_behind b)
    then option_map (λ (f : List ℕ). does.Ingest form.Csv false f) (file_word (word_of b)) else (
    if bytes_eq (word_of (words_behind b)) (codes "header") && list_all is_blank (words_behind (words_behind b))
    then option_map (λ (f : List ℕ). does.Ingest form.Csv true f) (file_word (word_of b)) else None)

-- `json FILE` or `csv FILE [header]`
unfoldable pub ingest_of : List ℕ → Option StatementLine
ingest_of b =
    if bytes_eq (word_of b) (codes "json") then json_of (words_behind b) else (
    if bytes_eq (word_of b) (codes "csv") then csv_of (words_behind b) else None)

-- `checkpoint`, or what asks for records
unfoldable pub question_of : List ℕ → List ℕ → Option StatementLine
question_of w behind =
    if bytes_eq w (codes "checkpoint") && list_all is_blank behind then Some does.Checkpoint else (
    if bytes_eq w (codes "scan") then option_map (λ (l : Look). does.Scan l) (look_of behind) else (
    if bytes_eq w (codes "explain") then option_map (λ (l : Look). does.Explain l) (look_of behind) else None))

-- the statement of a line, by its first word and what follows it, or none where it is none
unfoldable pub statement_line_of : List ℕ → List ℕ → Option StatementLine
statement_line_of w behind =
    if bytes_eq w (codes "register") then register_of behind else (
    if bytes_eq w (codes "deregister") then deregister_of behind else (
    if bytes_eq w (codes "ingest") then ingest_of behind else question_of w behind))

-- `lanes`, `lane` or `end`
unfoldable pub mark : List ℕ → Option ScriptLine
mark w =
    if bytes_eq w (codes "lanes") then Some said.Lanes else (
    if bytes_eq w (codes "lane") then Some said.Lane else (
    if bytes_eq w (codes "end") then Some said.End else None))

-- the mark, where there is one, and else the statement
abbrev pub mark_or_statement : Option ScriptLine → Option StatementLine → Option ScriptLine
mark_or_statement (Some m) w = Some m
mark_or_statement None w = option_map (λ (u : StatementLine). said.Statement u) w

-- what a line says, or none where it is no statement and none of `lanes`, `lane` and `end`
unfoldable pub script_line_of : List ℕ → Option ScriptLine
script_line_of b =
    mark_or_statement (if list_all is_blank (words_behind b) then mark (word_of b) else None)
    (statement_line_of (word_of b) (words_behind b))
