-- Packed words, kinds of regions, and the bodies of regions that are stored word by word.
use Rattle.std.proofs.Common.{◌≡◌, ◌≢◌, ℕ, ◌+◌, ◌-◌, ◌*◌, ◌/◌, ◌%◌, ◌<◌, ◌≤◌, List, length, get_or, sym, refl, ap, ◌∙◌}
use Rattle.std.proofs.Common.{subst, arith}
use Rattle.std.proofs.Math.Decide.{ℕ_discrete, dec_lt, dec_le}
use Rattle.std.proofs.lemmas.Nat.{div-add-mod', div-mul-add, mod-mul-add}
use Rattle.fish_layout.proofs.Clearing.{choose_first, choose_second, cleared_at, cleared_behind, cleared_head}
use Rattle.fish_layout.proofs.Clearing.{cleared_same}
use Rattle.fish_layout.proofs.Headers.{keys_of-void, lines_of-void}
use Rattle.fish_layout.proofs.Spelled.{spelled_lines}
use Rattle.fish_layout.specs.Cleared.{IsKeyWord, body_of, cleared}
use Rattle.fish_layout.specs.Header.{keys_of, lines_of, void_word}
use Rattle.fish_rule.specs.Parts.{IsLinkedWord}
use Rattle.fish_rule.specs.Regions.{IsRecord, code, kind_of, kind_within, void_body}
use Rattle.fish_rule.specs.World.{body, high, low}
use Rattle.fish_rule.specs.declared.view.Kind.{Kind}
use Rattle.fish_rule.specs.declared.view.Kind.TheVariants.{Mark, Stored, Void}

-- ---- packed words

-- the high bits of a packed word
pub high-pack : (a b : ℕ) → b < 68719476736 → high (b + a * 68719476736) ≡ a
unfolding high
high-pack a b h = (let e : b + a * 68719476736 ≡ a * 68719476736 + b = omega arith in
    ap (λ (z : ℕ). z / 68719476736) e ∙ div-mul-add a 68719476736 b h)

-- its low bits
pub low-pack : (a b : ℕ) → b < 68719476736 → low (b + a * 68719476736) ≡ b
unfolding low
low-pack a b h = (let e : b + a * 68719476736 ≡ a * 68719476736 + b = omega arith in
    ap (λ (z : ℕ). z % 68719476736) e ∙ mod-mul-add a 68719476736 b h)

-- a packed word is its two parts
pub tail_is : (x : ℕ) → low x + high x * 68719476736 ≡ x
unfolding low high
tail_is x = (let e = div-add-mod' x 68719476736 in omega arith)

-- ---- kinds

-- two kinds with one code are one
pub code_once : (a b : Kind) → code a ≡ code b → a ≡ b
code_once Stored Stored e = refl
code_once Void Void e = refl
code_once Mark Mark e = refl
code_once Stored Void e = absurd (omega arith)
code_once Stored Mark e = absurd (omega arith)
code_once Void Stored e = absurd (omega arith)
code_once Void Mark e = absurd (omega arith)
code_once Mark Stored e = absurd (omega arith)
code_once Mark Void e = absurd (omega arith)

-- a region that ends past the log's end is a mark
pub kind-mark : (end a b : ℕ) → end < b → kind_of end a b ≡ Mark
unfolding kind_of
kind-mark end a b h = choose_first (dec_lt end b) Mark (kind_within a b) h

-- a region that doesn't is none
pub kind-within : (end a b : ℕ) → b ≤ end → kind_of end a b ≡ kind_within a b
unfolding kind_of
kind-within end a b h = choose_second (dec_lt end b) Mark (kind_within a b) (λ l. omega arith)

-- within the log a region is a record or a void
within_no_mark : (a b : ℕ) → Dec (a / 32768 < (b - 1) / 32768) → kind_within a b ≢ Mark
within_no_mark a b (yes h) e = (let f : Void ≡ Mark = sym (choose_first _ Void Stored h) ∙ e in cc)
within_no_mark a b (no h) e = (let f : Stored ≡ Mark = sym (choose_second _ Void Stored h) ∙ e in cc)

-- a mark ends past the log's end
pub mark-past : (end a b : ℕ) → kind_of end a b ≡ Mark → end < b
mark-past end a b is = pick (dec_lt end b)
  where
    pick : Dec (end < b) → end < b
    pick (yes h) = h
    pick (no h) = absurd (within_no_mark a b (dec_lt _ _) (sym (kind-within end a b (omega arith)) ∙ is))

-- and any other region within it
pub kind-inside : (end a b : ℕ) → kind_of end a b ≢ Mark → b ≤ end
kind-inside end a b ne = pick (dec_lt end b)
  where
    pick : Dec (end < b) → b ≤ end
    pick (yes h) = absurd (ne (kind-mark end a b h))
    pick (no h) = omega arith

-- the word 0 has no kind
high-zero : high 0 ≡ 0
unfolding high
high-zero = refl

-- every kind has a code above 0
pub code_some : (kind : Kind) → 1 ≤ code kind
code_some Stored = omega arith
code_some Void = omega arith
code_some Mark = omega arith

-- a word that tells a kind isn't 0
pub published : (d : ℕ) (kind : Kind) → high d ≡ code kind → d ≢ 0
published d kind is e = (let h : high 0 ≡ code kind = subst (λ (z : ℕ). high z ≡ code kind) e is in
    let c = code_some kind in let z = high-zero in absurd (omega arith))

-- the first word of an entry leaves 1 by 3
entry-mod : (c : ℕ) → (1 + 3 * c) % 3 ≡ 1
entry-mod c = (let e : 1 + 3 * c ≡ c * 3 + 1 = omega arith in ap (λ (z : ℕ). z % 3) e ∙ mod-mul-add c 3 1 (omega arith))

-- a linked word is the first of a key entry, where no more entries are linked than there are
pub linked-key : (n linked i : ℕ) → linked ≤ n → IsLinkedWord linked i → IsKeyWord n i
linked-key n linked i few h =
    let c : ℕ = h.0 in
    let less : c < linked = h.1 in
    let e : i ≡ 1 + 3 * c = h.2 in
    (omega arith, ap (λ (z : ℕ). z % 3) e ∙ entry-mod c)

-- ---- bodies

-- regions whose words agree have one body
pub body_same : (log log' : ℕ → ℕ) (a lines : ℕ) → 1 ≤ lines → lines_of (body log a 0) ≤ lines
    → ((i : ℕ) → i < lines * 4 → log' (a * 4 + i) ≡ log (a * 4 + i)) → body log' a ≡ body log a
body_same log log' a lines some lined same =
    let head : body log a 0 ≡ log (a * 4 + 0) = cleared_head (λ i. log (a * 4 + i)) in
    let lined' : lines_of (log (a * 4 + 0)) ≤ lines = subst (λ (z : ℕ). lines_of z ≤ lines) head lined in
    cleared_same (λ i. log (a * 4 + i)) (λ i. log' (a * 4 + i)) (λ i within plain. same i (omega arith))

-- a region whose words were all stored has the body of these words, however many of its entries are linked
pub body_stored : (log : ℕ → ℕ) (words : List ℕ) (lane number lines line linked : ℕ)
    → IsRecord lane number lines (body_of words) → length words ≡ lines * 4 → 1 ≤ lines
    → linked ≤ keys_of (body_of words 0)
    → ((i : ℕ) → i < length words → ¬ IsLinkedWord linked i → log (line * 4 + i) ≡ get_or words i 0)
    → body log line ≡ body_of words
body_stored log words lane number lines line linked is full some few written =
    let f : ℕ → ℕ = λ i. get_or words i 0 in
    let head : body_of words 0 ≡ f 0 = cleared_head f in
    let lined : lines_of (f 0) ≡ lines = ap lines_of (sym head) ∙ spelled_lines is.1.spells ∙ is.1.lines_is in
    let keys : keys_of (body_of words 0) ≡ keys_of (f 0) = ap keys_of head in
    cleared_same f (λ i. log (line * 4 + i))
    (λ i within plain. written i (omega arith) (λ h. plain (linked-key (keys_of (f 0)) linked i (omega arith) h)))

-- a region whose header is a void's and whose other words are 0 has the body of a void
pub body_void : (log : ℕ → ℕ) (lines line : ℕ) → 1 ≤ lines → lines < 65536
    → log (line * 4 + 0) ≡ void_word lines → ((i : ℕ) → 1 ≤ i → i < lines * 4 → log (line * 4 + i) ≡ 0)
    → body log line ≡ void_body lines
unfolding void_body
body_void log lines line some few header zeros = λ j i. each i (ℕ_discrete i 0) (dec_le i (lines_of (f 0) * 4 - 1)) j
  where
    f : ℕ → ℕ
    f i = log (line * 4 + i)

    lined : lines_of (f 0) ≡ lines
    lined = ap lines_of header ∙ lines_of-void lines few

    keys : keys_of (f 0) ≡ 0
    keys = ap keys_of header ∙ keys_of-void lines few

    each : (i : ℕ) → Dec (i ≡ 0) → Dec (i ≤ lines_of (f 0) * 4 - 1) → cleared f i ≡ void_body lines i
    each i (yes e) d = ap (cleared f) e ∙ cleared_head f ∙ header
        ∙ sym (choose_first (ℕ_discrete i 0) (void_word lines) 0 e)
    each i (no ne) (yes within) =
        let q = keys in
        let l = lined in
        cleared_at f i within (λ h. let b : i ≤ 3 * keys_of (f 0) = h.0 in ne (omega arith))
        ∙ zeros i (omega arith) (omega arith) ∙ sym (choose_second (ℕ_discrete i 0) (void_word lines) 0 ne)
    each i (no ne) (no past) = cleared_behind f i (omega arith)
        ∙ sym (choose_second (ℕ_discrete i 0) (void_word lines) 0 ne)

-- the header of a void's body
pub void-head : (lines : ℕ) → void_body lines 0 ≡ void_word lines
unfolding void_body
void-head lines = choose_first (ℕ_discrete 0 0) (void_word lines) 0 refl
