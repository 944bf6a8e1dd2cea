-- What is left of a file after its first lines or rows.
use Rattle.std.proofs.Common.{◌≡◌, ◌≤◌, ℕ, zero, suc, List, [], ◌∷◌, Bool, length, drop, map, refl, sym, ap, ◌∙◌, subst, arith}
use Rattle.std.proofs.lemmas.List.{drop-map}
use Rattle.std.specs.List.{slice_split}
use Rattle.std.specs.Prelude.{IfOk, IfSome, MatchOption, None, Ok, Err, Option, Result, Some}
use Rattle.fish_csv.specs.Reading.{rows_in}
use Rattle.fish_csv.specs.Rows as csv
use Rattle.fish_json.specs.Lines as json
use Rattle.fish_json.specs.Lines.{is_line_end, lines_of_parts}
use Rattle.fish_lines.specs.File.{outcomes}
use Rattle.fish_lines.specs.Lines.{file_lines}
use Rattle.fish_lines.specs.Resuming.{IsLeftOf, outcomes_from}
use Rattle.fish_lines.specs.declared.resuming.Begin.TheVariants.{Start, After}
use Rattle.fish_value.specs.declared.field.Form.TheVariants.{Csv, Json}

-- after one more the tail is left
pub drop_next : {A : Type 0} (n : ℕ) (xs : List A) (x : A) (ys : List A) → drop n xs ≡ x ∷ ys → drop (suc n) xs ≡ ys
drop_next zero xs x ys is = ap (drop 1) is
drop_next (suc n) [] x ys is = absurd cc
drop_next (suc n) (y ∷ xs) x ys is = drop_next n xs x ys is

-- where nothing is left, nothing is after more
pub drop_more : {A : Type 0} (n m : ℕ) (xs : List A) → n ≤ m → drop n xs ≡ [] → drop m xs ≡ []
drop_more zero zero xs less is = is
drop_more zero (suc m) xs less is = ap (drop (suc m)) is
drop_more (suc n) zero xs less is = absurd (omega arith)
drop_more (suc n) (suc m) [] less is = refl
drop_more (suc n) (suc m) (x ∷ xs) less is = drop_more n m xs (omega arith) is

-- what follows from two facts of an answer
pub if_both : {T E : Type 0} {P Q R : T → Type 0} (r : Result T E) → ((x : T) → P x → Q x → R x) → IfOk r P → IfOk r Q → IfOk r R
if_both (Ok x) f p q = f x p q
if_both (Err e) f p q = tt

-- what is said of an answer that is known
pub of_none : {A : Type 0} (P : Type 0) (Q : A → Type 0) (o : Option A) → o ≡ None → MatchOption o P Q → P
of_none P Q None is h = h
of_none P Q (Some x) is h = absurd cc

pub of_some : {A : Type 0} (P : Type 0) (Q : A → Type 0) (o : Option A) (x : A) → o ≡ Some x → MatchOption o P Q → Q x
of_some {A} P Q o x is h = subst (λ (z : Option A). MatchOption z P Q) is h

pub if_some : {A : Type 0} (Q : A → Type 0) (o : Option A) (x : A) → o ≡ Some x → IfSome o Q → Q x
if_some {A} Q o x is h = subst (λ (z : Option A). IfSome z Q) is h

-- the lines that are left give what the others of the file give
pub left_lines : (header : Bool) (b rest : List ℕ) (many : ℕ) → length rest ≤ length b
    → lines_of_parts (slice_split is_line_end rest) ≡ drop many (file_lines b) → IsLeftOf Json (Start header) b many rest
unfolding outcomes_from outcomes json.line_outcomes json.line_outcomes_of
left_lines header b rest many less is = record {
  within = less;
  others = ap (map json.payload_of_line) is ∙ sym (drop-map json.payload_of_line many (file_lines b));
}

pub lines_left_after : (b rest : List ℕ) (many : ℕ) → length rest ≤ length b
    → lines_of_parts (slice_split is_line_end rest) ≡ drop many (lines_of_parts (slice_split is_line_end b))
    → IsLeftOf Json After b many rest
unfolding outcomes_from json.line_outcomes_of
lines_left_after b rest many less is = record {
  within = less;
  others = ap (map json.payload_of_line) is ∙ sym (drop-map json.payload_of_line many (lines_of_parts (slice_split is_line_end b)));
}

-- the same of rows
pub left_rows : (header : Bool) (b rest : List ℕ) (many : ℕ) → length rest ≤ length b
    → map csv.payload_of_row (rows_in rest) ≡ drop many (csv.row_outcomes header b) → IsLeftOf Csv (Start header) b many rest
unfolding outcomes_from outcomes
left_rows header b rest many less is = record { within = less; others = is }

pub rows_left_after : (b rest : List ℕ) (many : ℕ) → length rest ≤ length b
    → map csv.payload_of_row (rows_in rest) ≡ drop many (map csv.payload_of_row (rows_in b)) → IsLeftOf Csv After b many rest
unfolding outcomes_from
rows_left_after b rest many less is = record { within = less; others = is }
