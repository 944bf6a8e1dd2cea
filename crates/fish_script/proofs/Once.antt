-- A text is refused for one cause.
use Rattle.std.proofs.Common.{◌≡◌, ◌≢◌, ℕ, suc, ◌<◌, ◌≤◌, List, [], ◌∷◌, ◌++◌, ◌⊎◌, inl, inr, refl, sym, ap, subst, ◌∙◌}
use Rattle.std.proofs.Common.{arith, length}
use Rattle.std.specs.Prelude.{Some, None, Err, IsUtf8}
use Rattle.std.proofs.Math.Decide.{dec_lt}
use Rattle.std.proofs.lemmas.Option.{same_Some}
use Rattle.fish_lang.specs.declared.parse.LangRefusal.{LangRefusal}
use Rattle.fish_script.proofs.Apart.{all_say_once, no_fault, no_stop, no_stop_within, one_outcome, same_kind}
use Rattle.fish_script.specs.Limits.{longest_script}
use Rattle.fish_script.specs.Positions.{IsMisplaced, position_of}
use Rattle.fish_script.specs.Refusals.{AllSay, HasFault, IsFault, IsLaneTooMany, IsLate, IsLineFault, IsRefusal}
use Rattle.fish_script.specs.Refusals.{StopsAtLine, StopsPastLines}
use Rattle.fish_script.specs.Script.{ReadsStatement}
use Rattle.fish_script.specs.ScriptLine.{script_line_of}
use Rattle.fish_script.specs.declared.builder.Position.{Position}
use Rattle.fish_script.specs.declared.builder.Position.TheVariants.{Outside, Inside}
use Rattle.fish_script.specs.declared.refusal.ScriptRefusal.{ScriptRefusal}
use Rattle.fish_script.specs.declared.refusal.ScriptRefusal.TheVariants as refusal
use Rattle.fish_script.specs.declared.script.Statement.{Statement}
use Rattle.fish_script.specs.declared.script_line.StatementLine.{StatementLine}
use Rattle.fish_script.specs.declared.script_line.StatementLine.TheVariants as word
use Rattle.fish_script.specs.declared.script_line.ScriptLine.{ScriptLine}
use Rattle.fish_script.specs.declared.script_line.ScriptLine.TheVariants as said

-- ---- one line

-- what a line that says something is refused for
data Cause (p : Position) (l : ScriptLine) (n : ℕ) (e : ScriptRefusal) : Type 0 where
  misplaced : e ≡ refusal.Unexpected n → IsMisplaced p l → Cause p l n e
  no_definition : (w : StatementLine) (why : LangRefusal) → l ≡ said.Statement w → e ≡ refusal.Definition n why → ¬ IsMisplaced p l
      → HasFault w why → Cause p l n e
  too_late : (w : StatementLine) (s : Statement) → l ≡ said.Statement w → e ≡ refusal.ControlInLane n → ¬ IsMisplaced p l
      → ReadsStatement w s
      → IsLate p s → Cause p l n e
  feed_past : (w : StatementLine) (s : Statement) → l ≡ said.Statement w → e ≡ refusal.TooManyFeeds n → ¬ IsMisplaced p l
      → ReadsStatement w s
      → ¬ IsLate p s → Cause p l n e
  lane_past : e ≡ refusal.TooManyLanes n → l ≡ said.Lane → ¬ IsMisplaced p l → Cause p l n e

-- a `lane` too many stands in a block
past_within : (p : Position) (l : ScriptLine) → IsLaneTooMany p l → (l ≡ said.Lane) × ¬ IsMisplaced p l
past_within Outside l past = absurd past
past_within (Inside lanes feeds) said.Lane past = (refl, λ no. no)
past_within (Inside lanes feeds) said.Lanes past = absurd past
past_within (Inside lanes feeds) said.End past = absurd past
past_within (Inside lanes feeds) (said.Statement w) past = absurd past

-- each fault has its cause
cause_of : (p : Position) (l : ScriptLine) (n : ℕ) (e : ScriptRefusal) → IsFault p l n e → Cause p l n e
cause_of p l n (refusal.Unexpected line) f = misplaced (ap (λ (m : ℕ). refusal.Unexpected m) f.0) f.1
cause_of p l n (refusal.TooManyLanes line) f =
    let w = past_within p l f.1 in lane_past (ap (λ (m : ℕ). refusal.TooManyLanes m) f.0) w.0 w.1
cause_of p (said.Statement w) n (refusal.Definition line why) f =
    no_definition w why refl (ap (λ (m : ℕ). refusal.Definition m why) f.0) f.1 f.2
cause_of p (said.Statement w) n (refusal.ControlInLane line) f =
    too_late w f.2 refl (ap (λ (m : ℕ). refusal.ControlInLane m) f.0) f.1 f.3 f.4
cause_of p (said.Statement w) n (refusal.TooManyFeeds line) f =
    feed_past w f.2 refl (ap (λ (m : ℕ). refusal.TooManyFeeds m) f.0) f.1 f.3 f.4
cause_of p l n e f = absurd f

-- a text is refused as a definition for one cause
fault_once : (w : StatementLine) (why how : LangRefusal) → HasFault w why → HasFault w how → why ≡ how
fault_once (word.Register name source) why how x y = (let e = one_outcome source (Err why) (Err how) x y in cc)
fault_once (word.Deregister name) why how x y = absurd x
fault_once (word.Ingest form header file) why how x y = absurd x
fault_once (word.Scan look) why how x y = absurd x
fault_once (word.Explain look) why how x y = absurd x
fault_once word.Checkpoint why how x y = absurd x

-- what lines of statements say is one thing
same_statement_line : (l : ScriptLine) (w u : StatementLine) → l ≡ said.Statement w → l ≡ said.Statement u → w ≡ u
same_statement_line l w u a b = let e : said.Statement w ≡ said.Statement u = sym a ∙ b in cc

-- it is late for any statement that reads the same
late_too : (p : Position) (w : StatementLine) (s t : Statement) → ReadsStatement w s → ReadsStatement w t → IsLate p s → IsLate p t
late_too Outside w s t x y late = late
late_too (Inside lanes feeds) w s t x y late = (late.0, sym (same_kind w s t x y).0 ∙ late.1)

-- the same statement_line, in other words
reads_by : (l : ScriptLine) (w u : StatementLine) (s : Statement) → l ≡ said.Statement w → l ≡ said.Statement u → ReadsStatement u s
    → ReadsStatement w s
reads_by l w u s a b h = subst (λ (x : StatementLine). ReadsStatement x s) (sym (same_statement_line l w u a b)) h

-- one line is refused for one cause
cause_once : (p : Position) (l : ScriptLine) (n : ℕ) (d e : ScriptRefusal) → Cause p l n d → Cause p l n e → d ≡ e
cause_once p l n d e (misplaced a mis) (misplaced b too) = a ∙ sym b
cause_once p l n d e (misplaced a mis) (no_definition w why is b placed fault) = absurd (placed mis)
cause_once p l n d e (misplaced a mis) (too_late w s is b placed reads late) = absurd (placed mis)
cause_once p l n d e (misplaced a mis) (feed_past w s is b placed reads in_time) = absurd (placed mis)
cause_once p l n d e (misplaced a mis) (lane_past b is placed) = absurd (placed mis)
cause_once p l n d e (no_definition w why is a placed fault) (misplaced b mis) = absurd (placed mis)
cause_once p l n d e (no_definition w why is a placed fault) (no_definition u how is_too b placed_too fault_too) =
    a ∙ ap (λ (x : LangRefusal). refusal.Definition n x) (fault_once w why how fault
    (subst (λ (x : StatementLine). HasFault x how) (sym (same_statement_line l w u is is_too)) fault_too)) ∙ sym b
cause_once p l n d e (no_definition w why is a placed fault) (too_late u s is_too b placed_too reads late) =
    absurd (no_fault w s why (reads_by l w u s is is_too reads) fault)
cause_once p l n d e (no_definition w why is a placed fault) (feed_past u s is_too b placed_too reads in_time) =
    absurd (no_fault w s why (reads_by l w u s is is_too reads) fault)
cause_once p l n d e (no_definition w why is a placed fault) (lane_past b is_too placed_too) = absurd cc
cause_once p l n d e (too_late w s is a placed reads late) (misplaced b mis) = absurd (placed mis)
cause_once p l n d e (too_late w s is a placed reads late) (no_definition u how is_too b placed_too fault) =
    absurd (no_fault u s how (reads_by l u w s is_too is reads) fault)
cause_once p l n d e (too_late w s is a placed reads late) (too_late u t is_too b placed_too reads_too late_also) = a ∙ sym b
cause_once p l n d e (too_late w s is a placed reads late) (feed_past u t is_too b placed_too reads_too in_time) =
    absurd (in_time (late_too p w s t reads (reads_by l w u t is is_too reads_too) late))
cause_once p l n d e (too_late w s is a placed reads late) (lane_past b is_too placed_too) = absurd cc
cause_once p l n d e (feed_past w s is a placed reads in_time) (misplaced b mis) = absurd (placed mis)
cause_once p l n d e (feed_past w s is a placed reads in_time) (no_definition u how is_too b placed_too fault) =
    absurd (no_fault u s how (reads_by l u w s is_too is reads) fault)
cause_once p l n d e (feed_past w s is a placed reads in_time) (too_late u t is_too b placed_too reads_too late) =
    absurd (in_time (late_too p w t s (reads_by l w u t is is_too reads_too) reads late))
cause_once p l n d e (feed_past w s is a placed reads in_time) (feed_past u t is_too b placed_too reads_too in_time_too) = a ∙ sym b
cause_once p l n d e (feed_past w s is a placed reads in_time) (lane_past b is_too placed_too) = absurd cc
cause_once p l n d e (lane_past a is placed) (misplaced b mis) = absurd (placed mis)
cause_once p l n d e (lane_past a is placed) (no_definition u how is_too b placed_too fault) = absurd cc
cause_once p l n d e (lane_past a is placed) (too_late u t is_too b placed_too reads_too late) = absurd cc
cause_once p l n d e (lane_past a is placed) (feed_past u t is_too b placed_too reads_too in_time) = absurd cc
cause_once p l n d e (lane_past a is placed) (lane_past b is_too placed_too) = a ∙ sym b

-- the same of a line by its bytes, which are a text
bytes_once : (p : Position) (b : List ℕ) (n : ℕ) (d e : ScriptRefusal)
    → ((script_line_of b ≡ None) × (d ≡ refusal.Unexpected n)) ⊎ ((l : ScriptLine) × (script_line_of b ≡ Some l) × IsFault p l n d)
    → ((script_line_of b ≡ None) × (e ≡ refusal.Unexpected n)) ⊎ ((l : ScriptLine) × (script_line_of b ≡ Some l) × IsFault p l n e) → d ≡ e
bytes_once p b n d e (inl f) (inl g) = f.1 ∙ sym g.1
bytes_once p b n d e (inl f) (inr g) = absurd (let x = f.0 in let y = g.1 in cc)
bytes_once p b n d e (inr f) (inl g) = absurd (let x = g.0 in let y = f.1 in cc)
bytes_once p b n d e (inr f) (inr g) =
    cause_once p f.0 n d e (cause_of p f.0 n d f.2)
    (cause_of p f.0 n e (subst (λ (l : ScriptLine). IsFault p l n e) (same_Some g.0 f.0 (sym g.1 ∙ f.1)) g.2))

-- what is known of a line that is refused
abbrev IsKnown : Position → List ℕ → ℕ → ScriptRefusal → Type 0
IsKnown p b n e = (IsUtf8 b × (((script_line_of b ≡ None) × (e ≡ refusal.Unexpected n))
    ⊎ ((l : ScriptLine) × (script_line_of b ≡ Some l) × IsFault p l n e))) ⊎ ((e ≡ refusal.NotText n) × ¬ IsUtf8 b)

known : (p : Position) (b : List ℕ) (n : ℕ) (e : ScriptRefusal) → IsLineFault p b n e → IsKnown p b n e
known p b n (refusal.NotText line) f = inr (ap (λ (m : ℕ). refusal.NotText m) f.0, f.2)
known p b n (refusal.TooLong line) f = inl (f.1, f.2)
known p b n (refusal.Unexpected line) f = inl (f.1, f.2)
known p b n (refusal.Definition line why) f = inl (f.1, f.2)
known p b n (refusal.ControlInLane line) f = inl (f.1, f.2)
known p b n (refusal.TooManyLanes line) f = inl (f.1, f.2)
known p b n (refusal.TooManyFeeds line) f = inl (f.1, f.2)
known p b n refusal.OutOfMemory f = inl (f.1, f.2)

known_once : (p : Position) (b : List ℕ) (n : ℕ) (d e : ScriptRefusal) → IsKnown p b n d → IsKnown p b n e → d ≡ e
known_once p b n d e (inl f) (inl g) = bytes_once p b n d e f.1 g.1
known_once p b n d e (inl f) (inr g) = absurd (g.1 f.0)
known_once p b n d e (inr f) (inl g) = absurd (f.1 g.0)
known_once p b n d e (inr f) (inr g) = f.0 ∙ sym g.0

-- ---- the whole text

-- of two ways to point into a list the one that points further has the other's element in front
further : (xs ys us vs : List (List ℕ)) (a b : List ℕ) → xs ++ a ∷ us ≡ ys ++ b ∷ vs → length xs < length ys
    → (mid : List (List ℕ)) × (ys ≡ xs ++ a ∷ mid)
further [] [] us vs a b e less = absurd (omega arith)
further [] (y ∷ ys) us vs a b e less = (ys, let h : a ≡ y = cc in ap (λ (z : List ℕ). z ∷ ys) (sym h))
further (x ∷ xs) [] us vs a b e less = absurd (omega arith)
further (x ∷ xs) (y ∷ ys) us vs a b e less =
    let h : x ≡ y = cc in
    let t : xs ++ a ∷ us ≡ ys ++ b ∷ vs = cc in
    let r = further xs ys us vs a b t (omega arith) in
    (r.0, λ i. sym h i ∷ r.1 i)

-- and two that point as far point to one
as_far : (xs ys us vs : List (List ℕ)) (a b : List ℕ) → xs ++ a ∷ us ≡ ys ++ b ∷ vs → length xs ≡ length ys
    → (xs ≡ ys) × (a ≡ b)
as_far [] [] us vs a b e same = (refl, let h : a ≡ b = cc in h)
as_far [] (y ∷ ys) us vs a b e same = absurd (omega arith)
as_far (x ∷ xs) [] us vs a b e same = absurd (omega arith)
as_far (x ∷ xs) (y ∷ ys) us vs a b e same =
    let h : x ≡ y = cc in
    let t : xs ++ a ∷ us ≡ ys ++ b ∷ vs = cc in
    let r = as_far xs ys us vs a b t (omega arith) in
    (λ i. h i ∷ r.0 i, r.1)

-- no line before the first fault is refused
not_before : (text : List ℕ) (d e : ScriptRefusal) (f : StopsAtLine text d) (g : StopsAtLine text e) → length f.before < length g.before → ⊥
not_before text d e f g less =
    let m = further f.before g.before f.behind g.behind f.line g.line (sym f.splits ∙ g.splits) less in
    no_stop_within f.before m.0 f.line g.ahead f.ahead (suc (length f.before)) d
    (subst (λ (z : List (List ℕ)). AllSay z g.ahead) m.1 g.say) g.stand f.say f.fault

-- the first fault is one
stop_once : (text : List ℕ) (d e : ScriptRefusal) → StopsAtLine text d → StopsAtLine text e → d ≡ e
stop_once text d e f g = elim (dec_lt (length f.before) (length g.before)) [
  | yes less ↦ absurd (not_before text d e f g less)
  | no upto ↦ elim (dec_lt (length g.before) (length f.before)) [
    | yes more ↦ absurd (not_before text e d g f more)
    | no not_more ↦ at_once (omega arith)
  ]
]
  where
    at_once : length f.before ≡ length g.before → d ≡ e
    at_once same =
        let s = as_far f.before g.before f.behind g.behind f.line g.line (sym f.splits ∙ g.splits) same in
        let ahead : f.ahead ≡ g.ahead = all_say_once g.before f.ahead g.ahead
        (subst (λ (z : List (List ℕ)). AllSay z f.ahead) s.0 f.say) g.say in
        let fault : IsLineFault (position_of g.ahead) g.line (suc (length g.before)) d =
        subst (λ (z : List ScriptLine). IsLineFault (position_of z) g.line (suc (length g.before)) d) ahead
        (subst (λ (z : List ℕ). IsLineFault (position_of f.ahead) z (suc (length g.before)) d) s.1
        (subst (λ (k : ℕ). IsLineFault (position_of f.ahead) f.line (suc k) d) same f.fault)) in
        known_once (position_of g.ahead) g.line (suc (length g.before)) d e
        (known (position_of g.ahead) g.line (suc (length g.before)) d fault)
        (known (position_of g.ahead) g.line (suc (length g.before)) e g.fault)

-- so is the stop of a text
stops_once : (text : List ℕ) (d e : ScriptRefusal) → StopsAtLine text d ⊎ StopsPastLines text d
    → StopsAtLine text e ⊎ StopsPastLines text e → d ≡ e
stops_once text d e (inl f) (inl g) = stop_once text d e f g
stops_once text d e (inl f) (inr g) = absurd (no_stop text d g.ws g.say g.stand f)
stops_once text d e (inr f) (inl g) = absurd (no_stop text e f.ws f.say f.stand g)
stops_once text d e (inr f) (inr g) = f.fault ∙ sym g.fault

-- what a refusal is, but that memory ran out
due : (text : List ℕ) (e : ScriptRefusal) → IsRefusal text e → e ≢ refusal.OutOfMemory
    → ((longest_script < length text) × (e ≡ refusal.TooLong (length text)))
    ⊎ ((length text ≤ longest_script) × (StopsAtLine text e ⊎ StopsPastLines text e))
due text (refusal.TooLong n) r memory = inl (r.0, ap (λ (m : ℕ). refusal.TooLong m) r.1)
due text (refusal.NotText n) r memory = inr (r.0, r.1)
due text (refusal.Unexpected n) r memory = inr (r.0, r.1)
due text (refusal.Definition n why) r memory = inr (r.0, r.1)
due text (refusal.ControlInLane n) r memory = inr (r.0, r.1)
due text (refusal.TooManyLanes n) r memory = inr (r.0, r.1)
due text (refusal.TooManyFeeds n) r memory = inr (r.0, r.1)
due text refusal.OutOfMemory r memory = absurd (memory refl)

-- a text is refused for one cause
pub one_refusal : (text : List ℕ) (one other : ScriptRefusal) → IsRefusal text one → IsRefusal text other
    → one ≢ refusal.OutOfMemory → other ≢ refusal.OutOfMemory → one ≡ other
one_refusal text one other x y no_want no_want_too = elim (due text one x no_want) [
  | inl long ↦ elim (due text other y no_want_too) [
    | inl too ↦ long.1 ∙ sym too.1
    | inr short ↦ (let l = long.0 in let s = short.0 in absurd (omega arith))
  ]
  | inr short ↦ elim (due text other y no_want_too) [
    | inl long ↦ (let l = long.0 in let s = short.0 in absurd (omega arith))
    | inr too ↦ stops_once text one other short.1 too.1
  ]
]
