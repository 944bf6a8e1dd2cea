-- The parts round the LFs of bytes, when more bytes come.
use Rattle.std.proofs.Common.{◌≡◌, ℕ, List, [], ◌∷◌, ◌++◌, Bool, true, false, cond, refl, sym, ap, ◌∙◌}
use Rattle.std.specs.Prelude.{map, filter, not, if◌then◌else◌}
use Rattle.std.specs.List.{slice_split, onto_first}
use Rattle.std.specs.Str.Lines.{strip_carriage_return}
use Rattle.std.proofs.lemmas.List.{map-append}
use Rattle.std.proofs.lemmas.List.Elements.{filter-append}
use Rattle.fish_json.specs.Lines.{is_blank_line, is_line_end}
use Rattle.fish_lines.specs.Lines.{ended_parts, given, given_of, last_part}

-- parts with at least one among them
pub record Parts (parts : List (List ℕ)) : Type 0 where
  pub first : List ℕ
  pub more : List (List ℕ)
  pub are : parts ≡ first ∷ more

-- a part, put before the first
onto_first-parts : (c : ℕ) (parts : List (List ℕ)) → Parts parts → Parts (onto_first c parts)
onto_first-parts c parts p = record { first = c ∷ p.first; more = p.more; are = ap (onto_first c) p.are }

-- the parts at a byte whose test is known
pub parts_at : (c : ℕ) (x : List ℕ) (end : Bool) → is_line_end c ≡ end
    → slice_split is_line_end (c ∷ x)
    ≡ (if end then [] ∷ slice_split is_line_end x else onto_first c (slice_split is_line_end x))
parts_at c x end h = ap (λ b. cond b ([] ∷ slice_split is_line_end x) (onto_first c (slice_split is_line_end x))) h

parts-cons : (c : ℕ) (x : List ℕ) (end : Bool) → is_line_end c ≡ end → Parts (slice_split is_line_end x)
    → Parts (slice_split is_line_end (c ∷ x))
parts-cons c x true h p = record { first = []; more = slice_split is_line_end x; are = parts_at c x true h }
parts-cons c x false h p =
    let q = onto_first-parts c (slice_split is_line_end x) p in
    record { first = q.first; more = q.more; are = parts_at c x false h ∙ q.are }

-- bytes have a first part
pub parts_of_bytes : (x : List ℕ) → Parts (slice_split is_line_end x)
parts_of_bytes [] = record { first = []; more = []; are = refl }
parts_of_bytes (c ∷ x) = parts-cons c x (is_line_end c) refl (parts_of_bytes x)

-- all but the last, and the last, are all
pub ended_parts-last : (first : List ℕ) (more : List (List ℕ))
    → ended_parts (first ∷ more) ++ last_part (first ∷ more) ∷ [] ≡ first ∷ more
ended_parts-last first [] = refl
ended_parts-last first (next ∷ more) = ap (λ parts. first ∷ parts) (ended_parts-last next more)

-- the last of two lists of parts is that of the second
pub ended_parts-append : (front : List (List ℕ)) (first : List ℕ) (more : List (List ℕ))
    → ended_parts (front ++ first ∷ more) ≡ front ++ ended_parts (first ∷ more)
ended_parts-append [] first more = refl
ended_parts-append (part ∷ []) first more = refl
ended_parts-append (part ∷ next ∷ front) first more = ap (λ parts. part ∷ parts) (ended_parts-append (next ∷ front) first more)

pub last-append : (front : List (List ℕ)) (first : List ℕ) (more : List (List ℕ))
    → last_part (front ++ first ∷ more) ≡ last_part (first ∷ more)
last-append [] first more = refl
last-append (part ∷ []) first more = refl
last-append (part ∷ next ∷ front) first more = last-append (next ∷ front) first more

-- a byte that ends no line goes before the first part, be it the last or not
onto_first-append : (c : ℕ) (p : List ℕ) (first : List ℕ) (more : List (List ℕ)) → is_line_end c ≡ false
    → onto_first c (ended_parts (first ∷ more) ++ slice_split is_line_end (last_part (first ∷ more) ++ p))
    ≡ ended_parts (onto_first c (first ∷ more)) ++ slice_split is_line_end (last_part (onto_first c (first ∷ more)) ++ p)
onto_first-append c p first [] h = sym (parts_at c (first ++ p) false h)
onto_first-append c p first (next ∷ more) h = refl

-- more bytes go on with the last part
append-parts : (c : ℕ) (x p : List ℕ) (end : Bool) → is_line_end c ≡ end → (q : Parts (slice_split is_line_end x))
    → slice_split is_line_end (x ++ p)
    ≡ ended_parts (slice_split is_line_end x) ++ slice_split is_line_end (last_part (slice_split is_line_end x) ++ p)
    → slice_split is_line_end (c ∷ (x ++ p))
    ≡ ended_parts (slice_split is_line_end (c ∷ x))
    ++ slice_split is_line_end (last_part (slice_split is_line_end (c ∷ x)) ++ p)
append-parts c x p true h q same =
    rw (parts_at c (x ++ p) true h, parts_at c x true h, same, q.are) refl
append-parts c x p false h q same =
    rw (parts_at c (x ++ p) false h, parts_at c x false h, same, q.are) (onto_first-append c p q.first q.more h)

pub slice_split-append : (x p : List ℕ)
    → slice_split is_line_end (x ++ p)
    ≡ ended_parts (slice_split is_line_end x) ++ slice_split is_line_end (last_part (slice_split is_line_end x) ++ p)
slice_split-append [] p = refl
slice_split-append (c ∷ x) p = append-parts c x p (is_line_end c) refl (parts_of_bytes x) (slice_split-append x p)

-- where an LF was cut off, those that an LF ends begin with the part before it
pub ended_parts-cut : (part rest : List ℕ)
    → ended_parts (part ∷ slice_split is_line_end rest) ≡ part ∷ ended_parts (slice_split is_line_end rest)
ended_parts-cut part rest = let q = parts_of_bytes rest in rw q.are refl

pub last-cut : (part rest : List ℕ)
    → last_part (part ∷ slice_split is_line_end rest) ≡ last_part (slice_split is_line_end rest)
last-cut part rest = let q = parts_of_bytes rest in rw q.are refl

-- bytes after which an LF comes no more are the front of one part
no_end-cons : (c : ℕ) (x : List ℕ) (end : Bool) → is_line_end c ≡ end → slice_split is_line_end (c ∷ x) ≡ (c ∷ x) ∷ []
    → Parts (slice_split is_line_end x) → (end ≡ false) × (slice_split is_line_end x ≡ x ∷ [])
no_end-cons c x true h one q = let wrong = sym (parts_at c x true h) ∙ one in cc
no_end-cons c x false h one q =
    let same : onto_first c (q.first ∷ q.more) ≡ (c ∷ x) ∷ [] = ap (onto_first c) (sym q.are)
    ∙ sym (parts_at c x false h) ∙ one in
    (refl, q.are ∙ cc)

-- the first part of a text goes on with bytes in front that have no LF
pub no_end-front : (t p first : List ℕ) (more : List (List ℕ)) → slice_split is_line_end t ≡ t ∷ []
    → slice_split is_line_end p ≡ first ∷ more
    → slice_split is_line_end (t ++ p) ≡ (t ++ first) ∷ more
no_end-front [] p first more one two = two
no_end-front (c ∷ t) p first more one two =
    let here = no_end-cons c t (is_line_end c) refl one (parts_of_bytes t) in
    parts_at c (t ++ p) false here.0 ∙ ap (onto_first c) (no_end-front t p first more here.1 two)

-- two texts without an LF have none together
pub no_end-append : (t p : List ℕ) → slice_split is_line_end t ≡ t ∷ [] → slice_split is_line_end p ≡ p ∷ []
    → slice_split is_line_end (t ++ p) ≡ (t ++ p) ∷ []
no_end-append t p one two = no_end-front t p p [] one two

-- the lines of some parts and of others are those of all
pub given_of-append : (xs ys : List (List ℕ)) → given_of (xs ++ ys) ≡ given_of xs ++ given_of ys
given_of-append xs ys =
    ap (λ l. map given (filter (λ line. not (is_blank_line line)) l)) (map-append strip_carriage_return xs ys)
    ∙ ap (map given) (filter-append (λ line. not (is_blank_line line)) (map strip_carriage_return xs)
    (map strip_carriage_return ys))
    ∙ map-append given _ _
