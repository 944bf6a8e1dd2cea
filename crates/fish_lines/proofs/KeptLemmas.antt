-- What is kept of a line that grows, and the line that it is.
use Rattle.std.proofs.Common.{◌≡◌, ℕ, ◌+◌, ◌-◌, ◌≤◌, zero, suc, List, [], ◌∷◌, ◌++◌, length, take, Bool, true, false}
use Rattle.std.proofs.Common.{refl, sym, ap, ◌∙◌, arith, append_assoc, append-nil, length-append, length-take}
use Rattle.std.specs.Prelude.{◌==◌, slice_index, map, nat_le, if◌then◌else◌}
use Rattle.std.specs.List.{slice_split}
use Rattle.std.specs.Str.Lines.{strip_carriage_return}
use Rattle.std.proofs.lemmas.Bool.{eqb-true}
use Rattle.std.proofs.lemmas.Bool.Decides.{nat_tests}
use Rattle.std.proofs.lemmas.List.{take-take, take_all, take_at, take-append-le, length-take-le, get_or_push}
use Rattle.std.proofs.Math.Seq.{take-append-add}
use Rattle.fish_json.specs.Lines.{is_blank_line, is_line_end}
use Rattle.fish_value.specs.Limits.{longest_payload}
use Rattle.fish_lines.specs.Lines.{given, given_of}
use Rattle.fish_lines.specs.Open.{IsLineOpen, ends_in_cr, line_in}
use Rattle.fish_lines.specs.within.Open.{cr_if}
use Rattle.fish_lines.specs.declared.open_line.OpenLine.{OpenLine}
use Rattle.fish_lines.specs.Open.{longest_kept}
use Rattle.fish_lines.specs.declared.splitter.Line.TheVariants.{TooLong}
use Rattle.fish_lines.proofs.LineLemmas.{lines_of_parts-cons}
use Rattle.fish_lines.proofs.PartLemmas.{no_end-append}

-- as much of a text as there is room for after a front
pub take_room : (k : ℕ) (s x : List ℕ) → length s ≤ k → s ++ take (k - length s) x ≡ take k (s ++ x)
take_room k s x h =
    let split : length s + (k - length s) ≡ k = omega arith in
    sym (take-append-add s x (k - length s)) ∙ ap (λ n. take n (s ++ x)) split

-- of what follows a front, no more than the whole counts
pub take_behind : (j k : ℕ) (x y : List ℕ) → j ≤ k → take j (x ++ take k y) ≡ take j (x ++ y)
take_behind j k [] y h = take-take j k y h
take_behind zero k (c ∷ x) y h = refl
take_behind (suc j) k (c ∷ x) y h = ap (λ l. c ∷ l) (take_behind j k x y (omega arith))

-- of a front, no more than the whole counts
front-cases : (k : ℕ) (s x : List ℕ) (fits : Bool) → nat_le (length s) k ≡ fits
    → take k (take k s ++ x) ≡ take k (s ++ x)
front-cases k s x true h =
    (let fits : length s ≤ k = grind (arith, nat_tests) in ap (λ l. take k (l ++ x)) (take_all k s fits))
front-cases k s x false h =
    let over : k ≤ length s = grind (arith, nat_tests) in
    let kept : k ≤ length (take k s) = omega (arith, length-take-le k s over) in
    take-append-le k (take k s) x kept ∙ take-take k k s (omega arith) ∙ sym (take-append-le k s x over)

pub take_front : (k : ℕ) (s x : List ℕ) → take k (take k s ++ x) ≡ take k (s ++ x)
take_front k s x = front-cases k s x (nat_le (length s) k) refl

-- ---- the CR at the end

-- bytes that end in c
pub record EndsIn (b : List ℕ) : Type 0 where
  pub front : List ℕ
  pub last : ℕ
  pub are : b ≡ front ++ last ∷ []

ends_in : (c : ℕ) (b : List ℕ) → EndsIn (c ∷ b)
ends_in c [] = record { front = []; last = c; are = refl }
ends_in c (d ∷ b) = (let e = ends_in d b in record { front = c ∷ e.front; last = e.last; are = ap (λ l. c ∷ l) e.are })

-- the last byte of a text
last-is : (x : List ℕ) (c : ℕ) → slice_index (x ++ c ∷ []) (length (x ++ c ∷ []) - 1) ≡ c
last-is x c = get_or_push x c 0 (length (x ++ c ∷ []) - 1) (omega (arith, length-append x (c ∷ [])))

pub ends_in_cr-push : (x : List ℕ) (c : ℕ) → ends_in_cr (x ++ c ∷ []) ≡ (c == 13)
ends_in_cr-push x c = ap (λ d. d == 13) (last-is x c)

pub strip-push : (x : List ℕ) (c : ℕ) → strip_carriage_return (x ++ c ∷ []) ≡ (if c == 13 then x else x ++ c ∷ [])
strip-push x c =
    let front : take (length (x ++ c ∷ []) - 1) (x ++ c ∷ []) ≡ x =
    take_at x (c ∷ []) _ (omega (arith, length-append x (c ∷ []))) in
    rw (last-is x c, front) refl

-- a text without the CR at its end, and then that CR
with_cr : (x : List ℕ) (c : ℕ) (cr : Bool) → (c == 13) ≡ cr → (if cr then x else x ++ c ∷ []) ++ cr_if cr ≡ x ++ c ∷ []
with_cr x c true h = ap (λ d. x ++ d ∷ []) (sym (eqb-true c 13 h))
with_cr x c false h = append-nil (x ++ c ∷ [])

pub strip-whole : (t : List ℕ) → strip_carriage_return t ++ cr_if (ends_in_cr t) ≡ t
strip-whole [] = refl
strip-whole (d ∷ t) =
    let e = ends_in d t in
    let x : List ℕ = e.front ++ e.last ∷ [] in
    ap (λ l. strip_carriage_return l ++ cr_if (ends_in_cr l)) e.are
    ∙ ap (λ l. l ++ cr_if (ends_in_cr x)) (strip-push e.front e.last)
    ∙ ap (λ cr. (if e.last == 13 then e.front else x) ++ cr_if cr) (ends_in_cr-push e.front e.last)
    ∙ with_cr e.front e.last (e.last == 13) refl ∙ sym e.are

-- the CR at the end of what follows is that of the whole
behind-cases : (t x : List ℕ) (c : ℕ) (cr : Bool)
    → (if cr then t ++ x else (t ++ x) ++ c ∷ []) ≡ t ++ (if cr then x else x ++ c ∷ [])
behind-cases t x c true = refl
behind-cases t x c false = append_assoc t x (c ∷ [])

pub strip-append : (t : List ℕ) (d : ℕ) (p : List ℕ)
    → strip_carriage_return (t ++ d ∷ p) ≡ t ++ strip_carriage_return (d ∷ p)
strip-append t d p =
    let e = ends_in d p in
    ap (λ l. strip_carriage_return (t ++ l)) e.are
    ∙ ap strip_carriage_return (sym (append_assoc t e.front (e.last ∷ [])))
    ∙ strip-push (t ++ e.front) e.last ∙ behind-cases t e.front e.last (e.last == 13)
    ∙ sym (ap (λ l. t ++ l) (ap strip_carriage_return e.are ∙ strip-push e.front e.last))

pub ends_in_cr-append : (t : List ℕ) (d : ℕ) (p : List ℕ) → ends_in_cr (t ++ d ∷ p) ≡ ends_in_cr (d ∷ p)
ends_in_cr-append t d p =
    let e = ends_in d p in
    ap (λ l. ends_in_cr (t ++ l)) e.are ∙ ap ends_in_cr (sym (append_assoc t e.front (e.last ∷ [])))
    ∙ ends_in_cr-push (t ++ e.front) e.last ∙ sym (ap ends_in_cr e.are ∙ ends_in_cr-push e.front e.last)

-- ---- an open line

-- what is kept of a longer line comes from what was kept of the shorter
kept-grown : (k : ℕ) (t : List ℕ) (d : ℕ) (p : List ℕ)
    → take k (take k (strip_carriage_return t) ++ cr_if (ends_in_cr t) ++ strip_carriage_return (d ∷ p))
    ≡ take k (strip_carriage_return (t ++ d ∷ p))
kept-grown k t d p =
    let s = strip_carriage_return t in
    let cr = cr_if (ends_in_cr t) in
    let more = strip_carriage_return (d ∷ p) in
    ap (take k) (append_assoc (take k s) cr more) ∙ take_front k s (cr ++ more)
    ∙ ap (take k) (sym (append_assoc s cr more))
    ∙ ap (λ l. take k (l ++ more)) (strip-whole t) ∙ ap (take k) (sym (strip-append t d p))

-- an open line that grew
pub IsLineOpen-grown : (o : OpenLine) (bytes : List ℕ) (t : List ℕ) (d : ℕ) (p : List ℕ)
    → slice_split is_line_end (d ∷ p) ≡ (d ∷ p) ∷ [] → IsLineOpen o t
    → bytes ≡ take longest_kept (o.bytes ++ cr_if o.ends_in_cr ++ strip_carriage_return (d ∷ p))
    → IsLineOpen (record { bytes = bytes; ends_in_cr = ends_in_cr (d ∷ p) }) (t ++ d ∷ p)
IsLineOpen-grown o bytes t d p one was is = record {
  no_end = no_end-append t (d ∷ p) was.no_end one;
  kept = is ∙ ap (λ l. take longest_kept (l ++ cr_if o.ends_in_cr ++ strip_carriage_return (d ∷ p))) was.kept
      ∙ ap (λ cr. take longest_kept (take longest_kept (strip_carriage_return t) ++ cr_if cr ++ strip_carriage_return (d ∷ p)))
      was.cr
      ∙ kept-grown longest_kept t d p;
  cr = sym (ends_in_cr-append t d p);
}

pub IsLineOpen-grow : (o : OpenLine) (bytes : List ℕ) (t p : List ℕ) → (length p == 0) ≡ false
    → slice_split is_line_end p ≡ p ∷ [] → IsLineOpen o t
    → bytes ≡ take longest_kept (o.bytes ++ cr_if o.ends_in_cr ++ strip_carriage_return p)
    → IsLineOpen (record { bytes = bytes; ends_in_cr = ends_in_cr p }) (t ++ p)
IsLineOpen-grow o bytes t [] some one was is = cc
IsLineOpen-grow o bytes t (d ∷ p) some one was is = IsLineOpen-grown o bytes t d p one was is

-- no more is kept than is kept
take-within : (k : ℕ) (b s : List ℕ) → b ≡ take k s → length b ≤ k
take-within k b s h = omega (arith, ap length h, length-take k s)

pub IsLineOpen-within : (o : OpenLine) (t : List ℕ) → IsLineOpen o t → length o.bytes ≤ longest_kept
IsLineOpen-within o t h = take-within longest_kept o.bytes (strip_carriage_return t) h.kept

-- a CR and no more of a text than counts, after bytes
pub append_cr : (k : ℕ) (cr : Bool) (bytes text more : List ℕ) → cr ≡ true → more ≡ (13 ∷ []) ++ take k text
    → take k (bytes ++ more) ≡ take k (bytes ++ cr_if cr ++ text)
append_cr k true bytes text more h is =
    ap (λ l. take k (bytes ++ l)) is ∙ ap (take k) (sym (append_assoc bytes (13 ∷ []) (take k text)))
    ∙ take_behind k k (bytes ++ 13 ∷ []) text (omega arith)
append_cr k false bytes text more h is = cc

-- ---- the line that is kept

-- the line among no more than one
map-with_line : (s : List ℕ) (blank : Bool)
    → map given (if blank then [] else s ∷ []) ≡ (if blank then [] else given s ∷ [])
map-with_line s true = refl
map-with_line s false = refl

-- a line over the limit is given as too long, and so is what is kept of it
long-given : (s : List ℕ) → nat_le (length s) longest_payload ≡ false
    → (if is_blank_line s then [] else given s ∷ []) ≡ TooLong ∷ []
long-given s h = rw h refl

kept-cases : (s : List ℕ) (short : Bool) → nat_le (length s) longest_payload ≡ short
    → (if is_blank_line (take longest_kept s) then [] else given (take longest_kept s) ∷ [])
    ≡ (if is_blank_line s then [] else given s ∷ [])
kept-cases s true h =
    let fits : length s ≤ longest_kept = grind (arith, nat_tests) in
    ap (λ l. if is_blank_line l then [] else given l ∷ []) (take_all longest_kept s fits)
kept-cases s false h =
    let over : longest_kept ≤ length s = grind (arith, nat_tests) in
    let kept : nat_le (length (take longest_kept s)) longest_payload ≡ false = rw (length-take-le longest_kept s over) refl in
    long-given (take longest_kept s) kept ∙ sym (long-given s h)

-- an open line is given as the line of its bytes
pub line_in_open : (o : OpenLine) (t : List ℕ) → IsLineOpen o t → line_in o ≡ given_of (t ∷ [])
line_in_open o t h =
    let s = strip_carriage_return t in
    ap (λ b. if is_blank_line b then [] else given b ∷ []) h.kept ∙ kept-cases s (nat_le (length s) longest_payload) refl
    ∙ sym (map-with_line s (is_blank_line s)) ∙ sym (ap (map given) (lines_of_parts-cons t []))
