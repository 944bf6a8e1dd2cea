-- A line that is in order is no fault, so no script is refused, and a text is refused for one cause.
use Rattle.std.proofs.Common.{◌≡◌, ◌≢◌, ℕ, suc, List, [], ◌∷◌, ◌++◌, ◌⊎◌, inl, inr, refl, sym, ap, subst, ◌∙◌, arith}
use Rattle.std.proofs.Common.{length, append_assoc}
use Rattle.std.specs.Prelude.{false, Some, None, Ok, Err, Result, IsUtf8}
use Rattle.std.proofs.lemmas.Option.{same_Some}
use Rattle.fish_lang.proofs.Outcomes.{outcome-only}
use Rattle.fish_lang.specs.Definition.{Definition, definition_of}
use Rattle.fish_lang.specs.Language.{IsOutcome}
use Rattle.fish_lang.specs.declared.parse.LangRefusal.{LangRefusal}
use Rattle.fish_script.proofs.Standing.{stand_blocks}
use Rattle.fish_script.specs.Lines.{script_lines}
use Rattle.fish_script.specs.Positions.{AllStand, Fits, FitsLane, IsPlaced, position_after, position_from, position_of}
use Rattle.fish_script.specs.Refusals.{AllSay, HasFault, IsFault, IsFeedTooMany, IsLaneTooMany, IsLate, IsLineFault}
use Rattle.fish_script.specs.Refusals.{IsRefusal, IsScript, Says, StopsAtLine, StopsPastLines}
use Rattle.fish_script.specs.Script.{ReadsStatement, is_control, is_feed}
use Rattle.fish_script.specs.ScriptLine.{script_line_of}
use Rattle.fish_script.specs.Words.{is_skipped}
use Rattle.fish_script.specs.declared.builder.Position.{Position}
use Rattle.fish_script.specs.declared.builder.Position.TheVariants.{Outside, Inside}
use Rattle.fish_script.specs.declared.refusal.ScriptRefusal.{ScriptRefusal}
use Rattle.fish_script.specs.declared.refusal.ScriptRefusal.TheVariants as refusal
use Rattle.fish_script.specs.declared.script.Block.{Block}
use Rattle.fish_script.specs.declared.script.Statement.{Statement}
use Rattle.fish_script.specs.declared.script_line.StatementLine.{StatementLine}
use Rattle.fish_script.specs.declared.script_line.StatementLine.TheVariants as word
use Rattle.fish_script.specs.declared.script_line.ScriptLine.{ScriptLine}
use Rattle.fish_script.specs.declared.script_line.ScriptLine.TheVariants as said

-- ---- what lines say is one thing

-- of one line
says_once : (b : List ℕ) (ws us : List ScriptLine) → Says b ws → Says b us → ws ≡ us
says_once b ws us (inl h) (inl k) = h.1 ∙ sym k.1
says_once b ws us (inl h) (inr k) = absurd (let a = h.0 in let c = k.1 in cc)
says_once b ws us (inr h) (inl k) = absurd (let a = h.1 in let c = k.0 in cc)
says_once b ws us (inr h) (inr k) =
    h.4 ∙ ap (λ (l : ScriptLine). l ∷ []) (same_Some h.0 k.0 (sym h.3 ∙ k.3)) ∙ sym k.4

-- of many
pub all_say_once : (bs : List (List ℕ)) (ws us : List ScriptLine) → AllSay bs ws → AllSay bs us → ws ≡ us
all_say_once [] ws us h k = h ∙ sym k
all_say_once (b ∷ bs) ws us h k =
    let own = says_once b h.0 k.0 h.2 k.2 in
    let others = all_say_once bs h.1 k.1 h.3 k.3 in
    h.4 ∙ (λ i. own i ++ others i) ∙ sym k.4

-- what is said by the lines before one, by it and by those after it
record IsSplit (before : List (List ℕ)) (line : List ℕ) (behind : List (List ℕ)) (ws : List ScriptLine) : Type 0 where
  ahead : List ScriptLine
  own : List ScriptLine
  rest : List ScriptLine
  say : AllSay before ahead
  here : Says line own
  then : AllSay behind rest
  whole : ws ≡ ahead ++ (own ++ rest)

say_split : (before : List (List ℕ)) (line : List ℕ) (behind : List (List ℕ)) (ws : List ScriptLine)
    → AllSay (before ++ line ∷ behind) ws → IsSplit before line behind ws
say_split [] line behind ws h =
    record { ahead = []; own = h.0; rest = h.1; say = refl; here = h.2; then = h.3; whole = h.4 }
say_split (b ∷ before) line behind ws h =
    let s = say_split before line behind h.1 h.3 in
    record {
      ahead = h.0 ++ s.ahead;
      own = s.own;
      rest = s.rest;
      say = (h.0, s.ahead, h.2, s.say, refl);
      here = s.here;
      then = s.then;
      whole = h.4 ∙ ap (λ (z : List ScriptLine). h.0 ++ z) s.whole ∙ sym (append_assoc h.0 s.ahead (s.own ++ s.rest));
    }

-- of lines that are in order those after others are too
stand_behind : (p : Position) (xs ys : List ScriptLine) → AllStand p (xs ++ ys) → AllStand (position_from p xs) ys
stand_behind p [] ys h = h
stand_behind p (x ∷ xs) ys h = stand_behind (position_after p x) xs ys h.1

-- and those before others
stand_ahead : (p : Position) (xs ys : List ScriptLine) → AllStand p (xs ++ ys) → AllStand p xs
stand_ahead p [] ys h = tt
stand_ahead p (x ∷ xs) ys h = (h.0, stand_ahead (position_after p x) xs ys h.1)

-- ---- a line in order is no fault

-- a text is one definition, or refused for one cause
pub one_outcome : (b : List ℕ) (r s : Result Definition LangRefusal) → IsOutcome b r → IsOutcome b s → r ≡ s
one_outcome b r s x y = sym (outcome-only b r x) ∙ outcome-only b s y

-- a definition that is read isn't refused
pub no_fault : (w : StatementLine) (s : Statement) (why : LangRefusal) → ReadsStatement w s → HasFault w why → ⊥
no_fault (word.Register name source) s why reads fault =
    (let e = one_outcome source (Ok (definition_of reads.0)) (Err why) reads.2 fault in cc)
no_fault (word.Deregister name) s why reads fault = fault
no_fault (word.Ingest form header file) s why reads fault = fault
no_fault (word.Scan look) s why reads fault = fault
no_fault (word.Explain look) s why reads fault = fault
no_fault word.Checkpoint s why reads fault = fault

-- two statements of one statement_line are of one kind
pub same_kind : (w : StatementLine) (s t : Statement) → ReadsStatement w s → ReadsStatement w t → (is_control s ≡ is_control t)
    × (is_feed s ≡ is_feed t)
same_kind (word.Register name source) s t x y = (ap is_control x.1 ∙ sym (ap is_control y.1), ap is_feed x.1 ∙ sym (ap is_feed y.1))
same_kind (word.Deregister name) s t x y = (ap is_control (x ∙ sym y), ap is_feed (x ∙ sym y))
same_kind (word.Ingest form header file) s t x y = (ap is_control (x ∙ sym y), ap is_feed (x ∙ sym y))
same_kind (word.Scan look) s t x y = (ap is_control (x ∙ sym y), ap is_feed (x ∙ sym y))
same_kind (word.Explain look) s t x y = (ap is_control (x ∙ sym y), ap is_feed (x ∙ sym y))
same_kind word.Checkpoint s t x y = (ap is_control (x ∙ sym y), ap is_feed (x ∙ sym y))

-- a statement that keeps the limits isn't late
not_late : (p : Position) (s t : Statement) → is_control t ≡ is_control s → Fits p s → IsLate p t → ⊥
not_late Outside s t e fits late = late
not_late (Inside lanes feeds) s t e fits late = omega (arith, late.0, fits.0 (sym e ∙ late.1))

-- nor one file too many
not_past : (p : Position) (s t : Statement) → is_feed t ≡ is_feed s → Fits p s → IsFeedTooMany p t → ⊥
not_past Outside s t e fits past = past
not_past (Inside lanes feeds) s t e fits past = omega (arith, past.0, fits.1 (sym e ∙ past.1))

-- a `lane` that keeps the limits isn't one too many
no_lane_past : (p : Position) → FitsLane p → IsLaneTooMany p said.Lane → ⊥
no_lane_past Outside fits past = past
no_lane_past (Inside lanes feeds) fits past = omega (arith, fits, past)

-- no other line is one
lane_alone : (p : Position) (l : ScriptLine) → l ≢ said.Lane → IsLaneTooMany p l → ⊥
lane_alone Outside l other past = past
lane_alone (Inside lanes feeds) said.Lanes other past = past
lane_alone (Inside lanes feeds) said.Lane other past = other refl
lane_alone (Inside lanes feeds) said.End other past = past
lane_alone (Inside lanes feeds) (said.Statement w) other past = past

-- a line in order isn't refused
mark_unrefused : (p : Position) (l : ScriptLine) (n : ℕ) (e : ScriptRefusal) → l ≢ said.Lane → ((w : StatementLine) → l ≢ said.Statement w)
    → IsPlaced p l → IsFault p l n e → ⊥
mark_unrefused p (said.Statement w) n e other none h f = none w refl
mark_unrefused p said.Lane n e other none h f = other refl
mark_unrefused p said.Lanes n (refusal.Unexpected line) other none h f = h.0 f.1
mark_unrefused p said.Lanes n (refusal.TooManyLanes line) other none h f = lane_alone p said.Lanes other f.1
mark_unrefused p said.Lanes n (refusal.Definition line why) other none h f = f
mark_unrefused p said.Lanes n (refusal.ControlInLane line) other none h f = f
mark_unrefused p said.Lanes n (refusal.TooManyFeeds line) other none h f = f
mark_unrefused p said.Lanes n (refusal.NotText line) other none h f = f
mark_unrefused p said.Lanes n (refusal.TooLong line) other none h f = f
mark_unrefused p said.Lanes n refusal.OutOfMemory other none h f = f
mark_unrefused p said.End n (refusal.Unexpected line) other none h f = h.0 f.1
mark_unrefused p said.End n (refusal.TooManyLanes line) other none h f = lane_alone p said.End other f.1
mark_unrefused p said.End n (refusal.Definition line why) other none h f = f
mark_unrefused p said.End n (refusal.ControlInLane line) other none h f = f
mark_unrefused p said.End n (refusal.TooManyFeeds line) other none h f = f
mark_unrefused p said.End n (refusal.NotText line) other none h f = f
mark_unrefused p said.End n (refusal.TooLong line) other none h f = f
mark_unrefused p said.End n refusal.OutOfMemory other none h f = f

-- nor is a `lane`
lane_unrefused : (p : Position) (n : ℕ) (e : ScriptRefusal) → IsPlaced p said.Lane → IsFault p said.Lane n e → ⊥
lane_unrefused p n (refusal.Unexpected line) h f = h.0 f.1
lane_unrefused p n (refusal.TooManyLanes line) h f = no_lane_past p h.1 f.1
lane_unrefused p n (refusal.Definition line why) h f = f
lane_unrefused p n (refusal.ControlInLane line) h f = f
lane_unrefused p n (refusal.TooManyFeeds line) h f = f
lane_unrefused p n (refusal.NotText line) h f = f
lane_unrefused p n (refusal.TooLong line) h f = f
lane_unrefused p n refusal.OutOfMemory h f = f

-- nor a statement
statement_unrefused : (p : Position) (w : StatementLine) (n : ℕ) (e : ScriptRefusal) → IsPlaced p (said.Statement w)
    → IsFault p (said.Statement w) n e
    → ⊥
statement_unrefused p w n (refusal.Unexpected line) h f = h.0 f.1
statement_unrefused p w n (refusal.TooManyLanes line) h f = lane_alone p (said.Statement w) (λ e. cc) f.1
statement_unrefused p w n (refusal.Definition line why) h f = no_fault w h.1.0 why h.1.1 f.2
statement_unrefused p w n (refusal.ControlInLane line) h f =
    not_late p h.1.0 f.2 (same_kind w f.2 h.1.0 f.3 h.1.1).0 h.1.2 f.4
statement_unrefused p w n (refusal.TooManyFeeds line) h f =
    not_past p h.1.0 f.2 (same_kind w f.2 h.1.0 f.3 h.1.1).1 h.1.2 f.5
statement_unrefused p w n (refusal.NotText line) h f = f
statement_unrefused p w n (refusal.TooLong line) h f = f
statement_unrefused p w n refusal.OutOfMemory h f = f

-- no line in order is refused
stands_unrefused : (p : Position) (l : ScriptLine) (n : ℕ) (e : ScriptRefusal) → IsPlaced p l → IsFault p l n e → ⊥
stands_unrefused p said.Lanes n e h f = mark_unrefused p said.Lanes n e (λ x. cc) (λ w x. cc) h f
stands_unrefused p said.Lane n e h f = lane_unrefused p n e h f
stands_unrefused p said.End n e h f = mark_unrefused p said.End n e (λ x. cc) (λ w x. cc) h f
stands_unrefused p (said.Statement w) n e h f = statement_unrefused p w n e h f

-- what is known of a refused line whose bytes are a text
statement_line_fault : (p : Position) (b : List ℕ) (n : ℕ) (e : ScriptRefusal) (l : ScriptLine) → script_line_of b ≡ Some l → IsPlaced p l
    → ((script_line_of b ≡ None) × (e ≡ refusal.Unexpected n)) ⊎ ((m : ScriptLine) × (script_line_of b ≡ Some m) × IsFault p m n e) → ⊥
statement_line_fault p b n e l is h (inl f) = (let a = f.0 in cc)
statement_line_fault p b n e l is h (inr f) =
    stands_unrefused p l n e h (subst (λ (m : ScriptLine). IsFault p m n e) (same_Some f.0 l (sym f.1 ∙ is)) f.2)

-- a line that is skipped or in order isn't refused, where its bytes are a text
at_text : (p : Position) (b : List ℕ) (n : ℕ) (e : ScriptRefusal) (own : List ScriptLine) → Says b own → AllStand p own
    → (is_skipped b ≡ false) × IsUtf8 b
    × (((script_line_of b ≡ None) × (e ≡ refusal.Unexpected n)) ⊎ ((m : ScriptLine) × (script_line_of b ≡ Some m) × IsFault p m n e)) → ⊥
at_text p b n e own (inl s) h f = (let a = f.0 in let c = s.0 in cc)
at_text p b n e own (inr s) h f =
    statement_line_fault p b n e s.0 s.3 (subst (λ (z : List ScriptLine). AllStand p z) s.4 h).0 f.2

-- a line that is skipped or in order isn't refused
line_unrefused : (p : Position) (b : List ℕ) (n : ℕ) (e : ScriptRefusal) (own : List ScriptLine) → Says b own → AllStand p own
    → IsLineFault p b n e → ⊥
line_unrefused p b n (refusal.NotText line) own (inl s) h f = (let a = f.1 in let c = s.0 in cc)
line_unrefused p b n (refusal.NotText line) own (inr s) h f = f.2 s.2
line_unrefused p b n (refusal.TooLong line) own s h f = at_text p b n (refusal.TooLong line) own s h f
line_unrefused p b n (refusal.Unexpected line) own s h f = at_text p b n (refusal.Unexpected line) own s h f
line_unrefused p b n (refusal.Definition line why) own s h f = at_text p b n (refusal.Definition line why) own s h f
line_unrefused p b n (refusal.ControlInLane line) own s h f = at_text p b n (refusal.ControlInLane line) own s h f
line_unrefused p b n (refusal.TooManyLanes line) own s h f = at_text p b n (refusal.TooManyLanes line) own s h f
line_unrefused p b n (refusal.TooManyFeeds line) own s h f = at_text p b n (refusal.TooManyFeeds line) own s h f
line_unrefused p b n refusal.OutOfMemory own s h f = at_text p b n refusal.OutOfMemory own s h f

-- ---- the whole text

-- of lines that are all in order none is refused
pub no_stop_within : (before behind : List (List ℕ)) (line : List ℕ) (ws ahead : List ScriptLine) (n : ℕ) (e : ScriptRefusal)
    → AllSay (before ++ line ∷ behind) ws → AllStand Outside ws → AllSay before ahead → IsLineFault (position_of ahead) line n e → ⊥
no_stop_within before behind line ws ahead n e say stand front fault =
    let s : IsSplit before line behind ws = say_split before line behind ws say in
    let same : s.ahead ≡ ahead = all_say_once before s.ahead ahead s.say front in
    let rest : AllStand (position_of s.ahead) (s.own ++ s.rest) =
    stand_behind Outside s.ahead (s.own ++ s.rest) (subst (λ (z : List ScriptLine). AllStand Outside z) s.whole stand) in
    line_unrefused (position_of ahead) line n e s.own s.here
    (stand_ahead (position_of ahead) s.own s.rest
    (subst (λ (z : List ScriptLine). AllStand (position_of z) (s.own ++ s.rest)) same rest)) fault

-- a text whose lines are all in order stops at none
pub no_stop : (text : List ℕ) (e : ScriptRefusal) (ws : List ScriptLine) → AllSay (script_lines text) ws → AllStand Outside ws
    → StopsAtLine text e → ⊥
no_stop text e ws say stand stop =
    no_stop_within stop.before stop.behind stop.line ws stop.ahead (suc (length stop.before)) e
    (subst (λ (z : List (List ℕ)). AllSay z ws) stop.splits say) stand stop.say stop.fault

-- no script is refused for a line or its end
no_script_stops : (text : List ℕ) (script : List Block) (e : ScriptRefusal) → IsScript text script
    → StopsAtLine text e ⊎ StopsPastLines text e → ⊥
no_script_stops text script e h (inl stop) = no_stop text e h.ws h.say (stand_blocks h.ws script h.blocks).stand stop
no_script_stops text script e h (inr end) =
    let same : h.ws ≡ end.ws = all_say_once (script_lines text) h.ws end.ws h.say end.say in
    let out : position_of end.ws ≡ Outside =
    subst (λ (z : List ScriptLine). position_of z ≡ Outside) same (stand_blocks h.ws script h.blocks).position in
    let no : Outside ≡ Inside end.lanes end.feeds = sym out ∙ end.within in absurd cc

-- no script is refused
pub no_script_is_refused : (text : List ℕ) (script : List Block) (e : ScriptRefusal) → IsScript text script → IsRefusal text e
    → e ≡ refusal.OutOfMemory
no_script_is_refused text script refusal.OutOfMemory h r = refl
no_script_is_refused text script (refusal.TooLong n) h r = absurd (omega (arith, r.0, h.size))
no_script_is_refused text script (refusal.NotText n) h r = absurd (no_script_stops text script (refusal.NotText n) h r.1)
no_script_is_refused text script (refusal.Unexpected n) h r = absurd (no_script_stops text script (refusal.Unexpected n) h r.1)
no_script_is_refused text script (refusal.Definition n why) h r = absurd (no_script_stops text script (refusal.Definition n why) h r.1)
no_script_is_refused text script (refusal.ControlInLane n) h r = absurd (no_script_stops text script (refusal.ControlInLane n) h r.1)
no_script_is_refused text script (refusal.TooManyLanes n) h r = absurd (no_script_stops text script (refusal.TooManyLanes n) h r.1)
no_script_is_refused text script (refusal.TooManyFeeds n) h r = absurd (no_script_stops text script (refusal.TooManyFeeds n) h r.1)
