-- The statements of a script can be run.
use Rattle.std.proofs.Common.{◌≡◌, ℕ, zero, suc, ◌<◌, ◌≤◌, List, [], ◌∷◌, ◌++◌, inl, inr, refl, sym, ap, subst, ◌∙◌, arith}
use Rattle.std.proofs.Common.{length}
use Rattle.std.specs.Prelude.{Bool, true, false, not, ◌&&◌, nat_le, nat_lt, Option, Some, None, codes, slice_get, slice_index}
use Rattle.std.specs.Char.{is_ascii_digit}
use Rattle.std.specs.List.{list_all}
use Rattle.std.specs.Option.{option_map}
use Rattle.std.specs.Str.{bytes_eq}
use Rattle.std.proofs.lemmas.Bool.{cond_both}
use Rattle.std.proofs.lemmas.Bool.Decides.{nat_tests}
use Rattle.std.proofs.lemmas.Option.{same_Some}
use Rattle.fish_lang.specs.Token.{is_blank}
use Rattle.fish_lang.proofs.TokenLemmas.{both}
use Rattle.fish_value.specs.declared.field.Form.TheVariants as form
use Rattle.fish_value.specs.Limits.{longest_name}
use Rattle.fish_script.specs.Lines.{script_lines}
use Rattle.fish_script.specs.Refusals.{AllSay, IsScript, Says}
use Rattle.fish_script.specs.Runnable.{AreRunnable, CanRun, IsRunnable, IsRunnableBlock}
use Rattle.fish_script.specs.Script.{AllFree, AreBlocks, AreFree, AreLaneLines, AreStatementsRead, IsBlock, IsLineRead, OthersFree}
use Rattle.fish_script.specs.Script.{ReadsStatement}
use Rattle.fish_script.specs.ScriptLine.{csv_of, deregister_of, file_word, ingest_of, is_name, is_name_byte, json_of, look_of, mark}
use Rattle.fish_script.specs.ScriptLine.{mark_or_statement, question_of, register_of, script_line_of, statement_line_of}
use Rattle.fish_script.specs.Words.{unblank, word_of, words_behind}
use Rattle.fish_script.specs.declared.script.Block.{Block}
use Rattle.fish_script.specs.declared.script.Statement.{Statement}
use Rattle.fish_script.specs.declared.script_line.Look.{Look}
use Rattle.fish_script.specs.declared.script_line.StatementLine.{StatementLine}
use Rattle.fish_script.specs.declared.script_line.StatementLine.TheVariants as word
use Rattle.fish_script.specs.declared.script_line.ScriptLine.{ScriptLine}
use Rattle.fish_script.specs.declared.script_line.ScriptLine.TheVariants as said

-- ---- names

-- a definition has a name
abbrev IsNamed : StatementLine → Type 0
IsNamed (word.Register name source) = is_name name ≡ true
IsNamed w = Unit {0}

-- that holds of the statement_line, if there is one
abbrev MayBeNamed : Option StatementLine → Type 0
MayBeNamed None = Unit {0}
MayBeNamed (Some w) = IsNamed w

-- and of what a line says
abbrev SaysNamed : ScriptLine → Type 0
SaysNamed (said.Statement w) = IsNamed w
SaysNamed l = Unit {0}

-- of a line, if it says something
abbrev MaySayNamed : Option ScriptLine → Type 0
MaySayNamed None = Unit {0}
MaySayNamed (Some l) = SaysNamed l

-- a mark is no statement
abbrev IsMark : Option ScriptLine → Type 0
IsMark None = Unit {0}
IsMark (Some (said.Statement w)) = ⊥
IsMark (Some l) = Unit {0}

-- a name has 1 to 32 bytes
name_size : (w : List ℕ) → is_name w ≡ true → (1 ≤ length w) × (length w ≤ 32)
unfolding is_name
name_size w h =
    let most = both (nat_lt 0 (length w) && nat_le (length w) longest_name && list_all is_name_byte w)
    (not (is_ascii_digit (slice_index w 0))) h in
    let sizes = both (nat_lt 0 (length w) && nat_le (length w) longest_name) (list_all is_name_byte w) most.0 in
    let each = both (nat_lt 0 (length w)) (nat_le (length w) longest_name) sizes.0 in
    let some : nat_lt 0 (length w) ≡ true = each.0 in
    let few : nat_le (length w) 32 ≡ true = each.1 in
    (grind (arith, nat_tests), grind (arith, nat_tests))

-- what is made of a value is named where each is
made_named : {A : Type 0} (f : A → StatementLine) → ((x : A) → IsNamed (f x)) → (o : Option A) → MayBeNamed (option_map f o)
made_named f h None = tt
made_named f h (Some x) = h x

-- a definition has a name that is one
register_named : (b : List ℕ) → MayBeNamed (register_of b)
unfolding register_of
register_named b =
    cond_both (is_name (word_of b) && bytes_eq (word_of (words_behind b)) (codes "as"))
    (Some (word.Register (word_of b) (unblank (words_behind (words_behind b))))) None MayBeNamed
    (λ h. (both (is_name (word_of b)) (bytes_eq (word_of (words_behind b)) (codes "as")) h).0) (λ h. tt)

-- no other statement defines anything
deregister_named : (b : List ℕ) → MayBeNamed (deregister_of b)
unfolding deregister_of
deregister_named b =
    cond_both (is_name (word_of b) && list_all is_blank (words_behind b)) (Some (word.Deregister (word_of b))) None MayBeNamed
    (λ h. tt) (λ h. tt)

json_named : (b : List ℕ) → MayBeNamed (json_of b)
unfolding json_of
json_named b =
    cond_both (list_all is_blank (words_behind b))
    (option_map (λ (f : List ℕ). word.Ingest form.Json false f) (file_word (word_of b))) None MayBeNamed
    (λ h. made_named (λ (f : List ℕ). word.Ingest form.Json false f) (λ x. tt) (file_word (word_of b))) (λ h. tt)

csv_named : (b : List ℕ) → MayBeNamed (csv_of b)
unfolding csv_of
csv_named b =
    cond_both (list_all is_blank (words_behind b))
    (option_map (λ (f : List ℕ). word.Ingest form.Csv false f) (file_word (word_of b))) _ MayBeNamed
    (λ h. made_named (λ (f : List ℕ). word.Ingest form.Csv false f) (λ x. tt) (file_word (word_of b)))
    (λ h. cond_both (bytes_eq (word_of (words_behind b)) (codes "header") && list_all is_blank (words_behind (words_behind b)))
    (option_map (λ (f : List ℕ). word.Ingest form.Csv true f) (file_word (word_of b))) None MayBeNamed
    (λ h. made_named (λ (f : List ℕ). word.Ingest form.Csv true f) (λ x. tt) (file_word (word_of b))) (λ h. tt))

ingest_named : (b : List ℕ) → MayBeNamed (ingest_of b)
unfolding ingest_of
ingest_named b =
    cond_both (bytes_eq (word_of b) (codes "json")) (json_of (words_behind b)) _ MayBeNamed
    (λ h. json_named (words_behind b))
    (λ h. cond_both (bytes_eq (word_of b) (codes "csv")) (csv_of (words_behind b)) None MayBeNamed
    (λ h. csv_named (words_behind b)) (λ h. tt))

question_named : (w behind : List ℕ) → MayBeNamed (question_of w behind)
unfolding question_of
question_named w behind =
    cond_both (bytes_eq w (codes "checkpoint") && list_all is_blank behind) (Some word.Checkpoint) _ MayBeNamed (λ h. tt)
    (λ h. cond_both (bytes_eq w (codes "scan")) (option_map (λ (l : Look). word.Scan l) (look_of behind)) _ MayBeNamed
    (λ h. made_named (λ (l : Look). word.Scan l) (λ x. tt) (look_of behind))
    (λ h. cond_both (bytes_eq w (codes "explain")) (option_map (λ (l : Look). word.Explain l) (look_of behind)) None MayBeNamed
    (λ h. made_named (λ (l : Look). word.Explain l) (λ x. tt) (look_of behind)) (λ h. tt)))

-- a statement names what it defines
statement_line_named : (w behind : List ℕ) → MayBeNamed (statement_line_of w behind)
unfolding statement_line_of
statement_line_named w behind =
    cond_both (bytes_eq w (codes "register")) (register_of behind) _ MayBeNamed (λ h. register_named behind)
    (λ h. cond_both (bytes_eq w (codes "deregister")) (deregister_of behind) _ MayBeNamed (λ h. deregister_named behind)
    (λ h. cond_both (bytes_eq w (codes "ingest")) (ingest_of behind) (question_of w behind) MayBeNamed
    (λ h. ingest_named behind) (λ h. question_named w behind)))

-- `lanes`, `lane` and `end` are marks
mark_is : (w : List ℕ) → IsMark (mark w)
unfolding mark
mark_is w =
    cond_both (bytes_eq w (codes "lanes")) (Some said.Lanes) _ IsMark (λ h. tt)
    (λ h. cond_both (bytes_eq w (codes "lane")) (Some said.Lane) _ IsMark (λ h. tt)
    (λ h. cond_both (bytes_eq w (codes "end")) (Some said.End) None IsMark (λ h. tt) (λ h. tt)))

-- what is a mark, or else a statement, names what it defines
either_named : (m : Option ScriptLine) (o : Option StatementLine) → IsMark m → MayBeNamed o → MaySayNamed (mark_or_statement m o)
either_named (Some said.Lanes) o h k = tt
either_named (Some said.Lane) o h k = tt
either_named (Some said.End) o h k = tt
either_named (Some (said.Statement w)) o h k = absurd h
either_named None None h k = tt
either_named None (Some w) h k = k

-- a line names what it defines
script_line_named : (b : List ℕ) → MaySayNamed (script_line_of b)
unfolding script_line_of
script_line_named b =
    either_named _ (statement_line_of (word_of b) (words_behind b))
    (cond_both (list_all is_blank (words_behind b)) (mark (word_of b)) None IsMark (λ h. mark_is (word_of b)) (λ h. tt))
    (statement_line_named (word_of b) (words_behind b))

-- ---- lines

-- each of the lines does
abbrev AllNamed : List ScriptLine → Type 0
AllNamed [] = Unit {0}
AllNamed (l ∷ ws) = SaysNamed l × AllNamed ws

-- of lines one after the other
named_append : (xs ys : List ScriptLine) → AllNamed xs → AllNamed ys → AllNamed (xs ++ ys)
named_append [] ys x y = y
named_append (l ∷ xs) ys x y = (x.0, named_append xs ys x.1 y)

-- of those in front
named_front : (xs ys : List ScriptLine) → AllNamed (xs ++ ys) → AllNamed xs
named_front [] ys h = tt
named_front (l ∷ xs) ys h = (h.0, named_front xs ys h.1)

-- and of those after
named_behind : (xs ys : List ScriptLine) → AllNamed (xs ++ ys) → AllNamed ys
named_behind [] ys h = h
named_behind (l ∷ xs) ys h = named_behind xs ys h.1

-- what one line says
line_named : (b : List ℕ) (ws : List ScriptLine) → Says b ws → AllNamed ws
line_named b ws (inl h) = subst AllNamed (sym h.1) tt
line_named b ws (inr h) = subst AllNamed (sym h.4) (subst MaySayNamed h.3 (script_line_named b), tt)

-- what all lines say
lines_named : (bs : List (List ℕ)) (ws : List ScriptLine) → AllSay bs ws → AllNamed ws
lines_named [] ws h = subst AllNamed (sym h) tt
lines_named (b ∷ bs) ws h =
    subst AllNamed (sym h.4) (named_append h.0 h.1 (line_named b h.0 h.2) (lines_named bs h.1 h.3))

-- ---- statements

-- what is worded with a name can be run
reads_run : (w : StatementLine) (s : Statement) → IsNamed w → ReadsStatement w s → IsRunnable s
reads_run (word.Register name source) s named h =
    let size = name_size name named in subst IsRunnable (sym h.1) (size.0, size.1, (source, h.2))
reads_run (word.Deregister name) s named h = subst IsRunnable (sym h) tt
reads_run (word.Ingest form header file) s named h = subst IsRunnable (sym h) tt
reads_run (word.Scan look) s named h = subst IsRunnable (sym h) tt
reads_run (word.Explain look) s named h = subst IsRunnable (sym h) tt
reads_run word.Checkpoint s named h = subst IsRunnable (sym h) tt

-- and so a line
line_runs : (l : ScriptLine) (s : Statement) → SaysNamed l → IsLineRead l s → IsRunnable s
line_runs said.Lanes s named h = absurd h
line_runs said.Lane s named h = absurd h
line_runs said.End s named h = absurd h
line_runs (said.Statement w) s named h = reads_run w s named h

-- and those of a lane
lane_runs : (ws : List ScriptLine) (ss : List Statement) → AllNamed ws → AreStatementsRead ws ss → AreRunnable ss
lane_runs ws [] named h i s there = absurd cc
lane_runs [] (t ∷ ss) named h i s there = absurd h
lane_runs (l ∷ ws) (t ∷ ss) named h zero s there = subst IsRunnable (same_Some t s there) (line_runs l t named.0 h.0)
lane_runs (l ∷ ws) (t ∷ ss) named h (suc i) s there = lane_runs ws ss named.1 h.1 i s there

-- ---- lanes

-- those of each lane
lanes_run : (ws : List ScriptLine) (lanes : List (List Statement)) → AllNamed ws → AreLaneLines ws lanes
    → (i : ℕ) (ss : List Statement) → slice_get lanes i ≡ Some ss → AreRunnable ss
lanes_run ws [] named h i ss there = absurd cc
lanes_run ws (ts ∷ lanes) named h zero ss there =
    let own : AllNamed (h.0 ++ h.1) = (subst AllNamed h.2 named).1 in
    subst AreRunnable (same_Some ts ss there) (lane_runs h.0 ts (named_front h.0 h.1 own) h.3)
lanes_run ws (ts ∷ lanes) named h (suc i) ss there =
    let own : AllNamed (h.0 ++ h.1) = (subst AllNamed h.2 named).1 in
    lanes_run h.1 lanes (named_behind h.0 h.1 own) h.4 i ss there

-- where all lanes are free, each is
all_free : (lanes : List (List Statement)) → AllFree lanes → (i : ℕ) (ss : List Statement) → slice_get lanes i ≡ Some ss → AreFree ss
all_free [] h i ss there = absurd cc
all_free (ts ∷ lanes) h zero ss there = subst AreFree (same_Some ts ss there) h.0
all_free (ts ∷ lanes) h (suc i) ss there = all_free lanes h.1 i ss there

-- where all but the first are, each after the first is
others_free : (lanes : List (List Statement)) → OthersFree lanes → (i : ℕ) (ss : List Statement) → 0 < i
    → slice_get lanes i ≡ Some ss → AreFree ss
others_free [] h i ss behind there = absurd cc
others_free (ts ∷ lanes) h zero ss behind there = absurd (omega arith)
others_free (ts ∷ lanes) h (suc i) ss behind there = all_free lanes h i ss there

-- a statement by itself
alone_runs : (t : Statement) → IsRunnable t → (i : ℕ) (ss : List Statement) → slice_get ((t ∷ []) ∷ []) i ≡ Some ss → AreRunnable ss
alone_runs t run zero ss there = subst AreRunnable (same_Some (t ∷ []) ss there) one
  where
    one : AreRunnable (t ∷ [])
    one zero s is = subst IsRunnable (same_Some t s is) run
    one (suc i) s is = absurd cc
alone_runs t run (suc i) ss there = absurd cc

-- ---- blocks

-- one block
block_runs : (own : List ScriptLine) (b : Block) (several : Bool) → b.several ≡ several → AllNamed own → IsBlock own several b.lanes
    → IsRunnableBlock b
block_runs own b true is named h =
    let inside : AllNamed (h.inside ++ said.End ∷ []) = (subst AllNamed h.lines named).1 in
    record {
      some = h.some;
      few = h.few;
      one = λ no. absurd cc;
      statements = lanes_run h.inside b.lanes (named_front h.inside (said.End ∷ []) inside) h.are;
      free = others_free b.lanes h.free;
    }
block_runs own b false is named h =
    let run : IsRunnable h.statement = line_runs h.line h.statement (subst AllNamed h.lines named).0 h.read in
    let count : length b.lanes ≡ 1 = ap length h.one in
    record {
      some = omega arith;
      few = omega arith;
      one = λ no. count;
      statements = λ i ss there.
          alone_runs h.statement run i ss (ap (λ (z : List (List Statement)). slice_get z i) (sym h.one) ∙ there);
      free = λ i ss behind there.
          others_free ((h.statement ∷ []) ∷ []) tt i ss behind
          (ap (λ (z : List (List Statement)). slice_get z i) (sym h.one) ∙ there);
    }

-- each block
blocks_run : (ws : List ScriptLine) (bs : List Block) → AllNamed ws → AreBlocks ws bs → CanRun bs
blocks_run ws [] named h i b there = absurd cc
blocks_run ws (c ∷ bs) named h zero b there =
    let both_named : AllNamed (h.0 ++ h.1) = subst AllNamed h.2 named in
    subst IsRunnableBlock (same_Some c b there)
    (block_runs h.0 c c.several refl (named_front h.0 h.1 both_named) h.3)
blocks_run ws (c ∷ bs) named h (suc i) b there =
    let both_named : AllNamed (h.0 ++ h.1) = subst AllNamed h.2 named in
    blocks_run h.1 bs (named_behind h.0 h.1 both_named) h.4 i b there

-- what a script is made of can be run
pub script_can_run : (text : List ℕ) (script : List Block) → IsScript text script → CanRun script
script_can_run text script h = blocks_run h.ws script (lines_named (script_lines text) h.ws h.say) h.blocks
