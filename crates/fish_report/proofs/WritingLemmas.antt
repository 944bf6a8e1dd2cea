-- Text that waits and is written by pieces, through several steps.
use Rattle.std.proofs.Common.{◌≡◌, ℕ, ◌<◌, ◌≤◌, ◌+◌, List, [], ◌++◌, length, take, drop, get_or}
use Rattle.std.proofs.Common.{refl, sym, ap, ◌∙◌, subst}
use Rattle.std.proofs.Common.{append_assoc, append-nil, arith}
use Rattle.std.specs.Prelude.{Option, Result, Ok, Err, OnErr}
use Rattle.std.specs.List.{flat_map}
use Rattle.std.proofs.lemmas.Grind.{common_steps, flat_map-append}
use Rattle.std.proofs.lemmas.List.{take-append-drop, take_all}
use Rattle.fish_outside.specs.Content.{Gained, GainedPart}
use Rattle.fish_outside.proofs.ContentLemmas.{Gained_refl, Gained_trans}
use Rattle.fish_report.specs.within.Writing.{PassesOn, PassesPart}

-- a text that only waits
pub Passes_wait : (content : Option (List ℕ)) (waiting left text : List ℕ) → left ≡ waiting ++ text
    → PassesOn content content waiting left text
Passes_wait content waiting left text h = record { sent = []; gained = Gained_refl content; all = h }

-- a first part of what waited was written
pub PassesPart_sent : (old new : Option (List ℕ)) (waiting : List ℕ) → GainedPart old new waiting
    → PassesPart old new waiting []
PassesPart_sent old new waiting part = (
  drop part.0 waiting,
  record {
    sent = take part.0 waiting;
    gained = part.1;
    all = take-append-drop part.0 waiting ∙ sym (append-nil waiting);
  },
)

-- one text after the other, in two steps
pub Passes_trans : (old mid new : Option (List ℕ)) (waiting between left first second : List ℕ)
    → PassesOn old mid waiting between first → PassesOn mid new between left second
    → PassesOn old new waiting left (first ++ second)
Passes_trans old mid new waiting between left first second a b = record {
  sent = a.sent ++ b.sent;
  gained = Gained_trans old mid new a.sent b.sent a.gained b.gained;
  all =
      append_assoc a.sent b.sent left ∙ ap (λ t. a.sent ++ t) b.all ∙ sym (append_assoc a.sent between second)
      ∙ ap (λ t. t ++ second) a.all ∙ append_assoc waiting first second;
}

-- what follows a text doesn't count
pub PassesPart_front : (old new : Option (List ℕ)) (waiting text behind : List ℕ) → PassesPart old new waiting text
    → PassesPart old new waiting (text ++ behind)
PassesPart_front old new waiting text behind part = (
  part.0 ++ behind,
  record {
    sent = part.1.sent;
    gained = part.1.gained;
    all =
        sym (append_assoc part.1.sent part.0 behind) ∙ ap (λ t. t ++ behind) part.1.all
        ∙ append_assoc waiting text behind;
  },
)

-- a text of which the second step wrote a part
pub PassesPart_trans : (old mid new : Option (List ℕ)) (waiting between first second : List ℕ)
    → PassesOn old mid waiting between first → PassesPart mid new between second
    → PassesPart old new waiting (first ++ second)
PassesPart_trans old mid new waiting between first second a part =
    (part.0, Passes_trans old mid new waiting between part.0 first second a part.1)

-- a part of nothing but what waited is a first part of it
front-of : (sent left text : List ℕ) → sent ++ left ≡ text → take (length sent) text ≡ sent
front-of sent left text h = grind (arith, common_steps)

pub GainedPart_all : (old new : Option (List ℕ)) (text : List ℕ) → PassesPart old new [] text → GainedPart old new text
GainedPart_all old new text part =
    (length part.1.sent, subst (Gained old new) (sym (front-of part.1.sent part.0 text part.1.all)) part.1.gained)

-- nothing was sent yet
pub PassesPart_none : (content : Option (List ℕ)) (waiting text : List ℕ) → PassesPart content content waiting text
PassesPart_none content waiting text = (waiting ++ text, Passes_wait content waiting (waiting ++ text) text refl)

-- a step that only writes
pub Passes_on : (old mid new : Option (List ℕ)) (waiting between left text : List ℕ)
    → PassesOn old mid waiting between text → PassesOn mid new between left [] → PassesOn old new waiting left text
Passes_on old mid new waiting between left text a b =
    subst (PassesOn old new waiting left) (append-nil text) (Passes_trans old mid new waiting between left text [] a b)

pub PassesPart_on : (old mid new : Option (List ℕ)) (waiting between text : List ℕ)
    → PassesOn old mid waiting between text → PassesPart mid new between [] → PassesPart old new waiting text
PassesPart_on old mid new waiting between text a part =
    (part.0, Passes_on old mid new waiting between part.0 text a part.1)

-- ---- lists, element by element

-- the texts of the elements up to one of them, and then of those after it
take_more : {X : Type 0} (f : X → List ℕ) (xs : List X) (i : ℕ) (x : X) → i < length xs → x ≡ get_or xs i x
    → flat_map f (take i xs) ++ f x ≡ flat_map f (take (i + 1) xs)
take_more f xs i x h e = grind (arith, common_steps)

take_front : {X : Type 0} (f : X → List ℕ) (xs : List X) (i : ℕ)
    → flat_map f (take i xs) ++ flat_map f (drop i xs) ≡ flat_map f xs
take_front f xs i = sym (flat_map-append f (take i xs) (drop i xs)) ∙ ap (flat_map f) (take-append-drop i xs)

-- one more element
pub Passes_more : {X : Type 0} (f : X → List ℕ) (xs : List X) (i : ℕ) (x : X) (old mid new : Option (List ℕ))
    (waiting between left : List ℕ) → i < length xs → x ≡ get_or xs i x
    → PassesOn old mid waiting between (flat_map f (take i xs)) → PassesOn mid new between left (f x)
    → PassesOn old new waiting left (flat_map f (take (i + 1) xs))
Passes_more f xs i x old mid new waiting between left h e a b =
    subst (PassesOn old new waiting left) (take_more f xs i x h e)
    (Passes_trans old mid new waiting between left (flat_map f (take i xs)) (f x) a b)

-- an element of which a part was written
pub PassesPart_more : {X : Type 0} (f : X → List ℕ) (xs : List X) (i : ℕ) (x : X) (old mid new : Option (List ℕ))
    (waiting between : List ℕ) → i < length xs → x ≡ get_or xs i x
    → PassesOn old mid waiting between (flat_map f (take i xs)) → PassesPart mid new between (f x)
    → PassesPart old new waiting (flat_map f xs)
PassesPart_more f xs i x old mid new waiting between h e a part =
    let more = Passes_more f xs i x old mid new waiting between part.0 h e a part.1 in
    subst (PassesPart old new waiting) (take_front f xs (i + 1))
    (PassesPart_front old new waiting (flat_map f (take (i + 1) xs)) (flat_map f (drop (i + 1) xs)) (part.0, more))

-- after the last element
pub PassesPart_end : {X : Type 0} (f : X → List ℕ) (xs : List X) (i : ℕ) (old mid new : Option (List ℕ))
    (waiting between : List ℕ) → length xs ≤ i → PassesOn old mid waiting between (flat_map f (take i xs))
    → GainedPart mid new between → PassesPart old new waiting (flat_map f xs)
PassesPart_end f xs i old mid new waiting between h a part =
    subst (PassesPart old new waiting) (ap (flat_map f) (take_all i xs h))
    (PassesPart_on old mid new waiting between (flat_map f (take i xs)) a (PassesPart_sent mid new between part))

-- ---- results

-- what holds anyway holds of a refusal
pub on_err_any : {T E Q : Type 0} (r : Result T E) → Q → OnErr r Q
on_err_any (Ok x) q = tt
on_err_any (Err e) q = q
