-- The lines of a share's file are its records.
use Rattle.std.proofs.Common.{◌≡◌, ℕ, ◌+◌, ◌-◌, ◌%◌, ◌^◌, ◌<◌, suc, List, [], ◌∷◌, ◌++◌, length, map, refl, sym, ap}
use Rattle.std.proofs.Common.{◌∙◌, subst, arith}
use Rattle.std.proofs.Common.{Bool, true, false, Option, Some, None, append_assoc, length-append, All}
use Rattle.std.specs.Prelude.{codes, decimal, is_none, ◌&&◌, slice_index}
use Rattle.std.specs.List.{slice_split}
use Rattle.std.specs.Str.Lines.{strip_carriage_return}
use Rattle.std.proofs.lemmas.Fmt.{decimal_by_steps_wide}
use Rattle.std.proofs.Common.{cond}
use Rattle.std.proofs.lemmas.List.Sums.{sum_by-cons}
use Rattle.std.proofs.lemmas.List.Splits.{slice_split-cons_no, slice_split-cons_yes}
use Rattle.fish_gen.specs.Sample.{sample_key, sample_text}
use Rattle.fish_json.specs.Lines.{is_blank_line, is_line_end, lines_of_parts as json_lines_of, line_outcomes as json_outcomes}
use Rattle.fish_json.specs.Lines.{line_outcomes_of}
use Rattle.fish_json.specs.Lines.{payload_of_line, without_mark}
use Rattle.fish_json.specs.Reading.{record_of}
use Rattle.serde_json.specs.Data.{Data}
use Rattle.fish_lines.specs.File.{outcomes}
use Rattle.fish_value.specs.Outcomes.{accepted, refused}
use Rattle.fish_lines.specs.Resuming.{outcomes_from}
use Rattle.fish_lines.specs.declared.resuming.Begin.TheVariants.{Start}
use Rattle.fish_value.specs.declared.field.Form.TheVariants.{Json}
use Rattle.fish_sample.specs.within.Files.{sample_lines}

-- ---- no byte of a record ends a line

abbrev NoEnd : List ℕ → Type 0
NoEnd [] = Unit {0}
NoEnd (x ∷ xs) = (is_line_end x ≡ false) × NoEnd xs

none_both : (xs ys : List ℕ) → NoEnd xs → NoEnd ys → NoEnd (xs ++ ys)
none_both [] ys h k = k
none_both (x ∷ xs) ys h k = (h.0, none_both xs ys h.1 k)

no_digit : (n : ℕ) → is_line_end (48 + n) ≡ false
no_digit n = grind arith

none_decimal : (n : ℕ) → n < 10 ^ 64 → NoEnd (decimal n)
none_decimal n few = decimal_by_steps_wide (λ n ds. NoEnd ds) (λ n less. (no_digit n, tt))
    (λ n ds more h. none_both ds ((48 + n % 10) ∷ []) h (no_digit (n % 10), tt)) n few

-- all of a record but its last brace
front_of : ℕ → List ℕ
front_of n = codes "{\"type\":\"T" ++ (decimal (n % 7) ++ (codes "\",\"n\":" ++ (decimal n ++ (codes ",\"k\":" ++ decimal (sample_key n)))))

none_front : (n : ℕ) → n < 2 ^ 32 → NoEnd (front_of n)
unfolding front_of
none_front n few =
    none_both (codes "{\"type\":\"T") _ (refl, (refl, (refl, (refl, (refl, (refl, (refl, (refl, (refl, (refl, tt))))))))))
    (none_both (decimal (n % 7)) _ (none_decimal (n % 7) (omega arith))
    (none_both (codes "\",\"n\":") _ (refl, (refl, (refl, (refl, (refl, (refl, tt))))))
    (none_both (decimal n) _ (none_decimal n (omega arith))
    (none_both (codes ",\"k\":") _ (refl, (refl, (refl, (refl, (refl, tt)))))
    (none_decimal (sample_key n) (omega arith))))))

text_front : (n : ℕ) → sample_text n ≡ front_of n ++ codes "}"
unfolding front_of sample_text
text_front n = simp append_assoc refl

none_text : (n : ℕ) → n < 2 ^ 32 → NoEnd (sample_text n)
none_text n few = subst NoEnd (sym (text_front n)) (none_both (front_of n) (codes "}") (none_front n few) (refl, tt))

-- ---- lines

-- what comes before an LF is a part
part_first : (xs rest : List ℕ) → NoEnd xs → slice_split is_line_end (xs ++ 10 ∷ rest) ≡ xs ∷ slice_split is_line_end rest
part_first [] rest h = slice_split-cons_yes is_line_end 10 rest refl
part_first (x ∷ xs) rest h = slice_split-cons_no is_line_end x (xs ++ 10 ∷ rest) h.0 ∙ rw (part_first xs rest h.1) refl

-- the parts of a file are its lines' records, and nothing after the last LF
parts_are : (xs : List ℕ) → All (λ i. i < 2 ^ 32) xs → slice_split is_line_end (sample_lines xs) ≡ map sample_text xs ++ [] ∷ []
parts_are [] h = refl
parts_are (x ∷ xs) h =
    ap (slice_split is_line_end) (append_assoc (sample_text x) (10 ∷ []) (sample_lines xs))
    ∙ part_first (sample_text x) (sample_lines xs) (none_text x (h 0 x (omega arith)))
    ∙ ap (λ (z : List (List ℕ)). sample_text x ∷ z) (parts_are xs (λ i d less. h (suc i) d (omega arith)))

last_at : (xs : List ℕ) (y : ℕ) → slice_index (xs ++ y ∷ []) (length xs) ≡ y
last_at [] y = refl
last_at (x ∷ xs) y = last_at xs y

-- no CR is at its end
none_stripped : (n : ℕ) → strip_carriage_return (sample_text n) ≡ sample_text n
none_stripped n =
    let long = length-append (front_of n) (codes "}") in
    let at : length (front_of n ++ codes "}") - 1 ≡ length (front_of n) = omega arith in
    let last : slice_index (front_of n ++ codes "}") (length (front_of n ++ codes "}") - 1) ≡ 125
    = ap (slice_index (front_of n ++ codes "}")) at ∙ last_at (front_of n) 125 in
    subst (λ (z : List ℕ). strip_carriage_return z ≡ z) (sym (text_front n)) (rw last refl)

and_false : (b : Bool) → (b && false) ≡ false
and_false true = refl
and_false false = refl

-- and it isn't blank
none_blank : (n : ℕ) → is_blank_line (sample_text n) ≡ false
unfolding sample_text
none_blank n = and_false _

without_none : (xs : List ℕ) → without_mark (sample_lines xs) ≡ sample_lines xs
unfolding sample_text
without_none [] = refl
without_none (x ∷ xs) = refl

lines_are : (xs : List ℕ) → json_lines_of (map sample_text xs ++ [] ∷ []) ≡ map sample_text xs
lines_are [] = refl
lines_are (x ∷ xs) = rw (none_stripped x) (rw (none_blank x) (ap (λ (z : List (List ℕ)). sample_text x ∷ z) (lines_are xs)))

-- what is read of the file: each record, or that it is none
pub outcomes_are : (xs : List ℕ) → All (λ i. i < 2 ^ 32) xs
    → outcomes_from Json (Start false) (sample_lines xs) ≡ map payload_of_line (map sample_text xs)
unfolding outcomes_from outcomes json_outcomes line_outcomes_of
outcomes_are xs h =
    ap (λ (z : List ℕ). map payload_of_line (json_lines_of (slice_split is_line_end z))) (without_none xs)
    ∙ ap (λ (z : List (List ℕ)). map payload_of_line (json_lines_of z)) (parts_are xs h) ∙ ap (map payload_of_line) (lines_are xs)

-- of one line more, one more is refused where it is no record
refused_more : (o : Option (List ℕ)) (os : List (Option (List ℕ))) → refused (o ∷ os) ≡ cond {A = ℕ} (is_none o) 1 0 + refused os
refused_more o os = sum_by-cons (λ x. cond (is_none x) 1 0) o os

-- where none is refused, the payloads are the lines
pub accepted_all : (lines : List (List ℕ)) → refused (map payload_of_line lines) ≡ 0 → accepted (map payload_of_line lines) ≡ lines
accepted_all [] none = refl
accepted_all (line ∷ lines) none = by (record_of line) refl (accepted_all lines)
  where
    by : (r : Option Data) → record_of line ≡ r → (refused (map payload_of_line lines) ≡ 0 → accepted (map payload_of_line lines) ≡ lines)
        → accepted (map payload_of_line (line ∷ lines)) ≡ line ∷ lines
    by None is rest = absurd
        (let more = refused_more (payload_of_line line) (map payload_of_line lines) in
        let one : cond {A = ℕ} (is_none (payload_of_line line)) 1 0 ≡ 1 = rw is refl in omega arith)
    by (Some d) is rest =
        let more = refused_more (payload_of_line line) (map payload_of_line lines) in
        rw is (ap (λ (z : List (List ℕ)). line ∷ z) (rest (omega arith)))
