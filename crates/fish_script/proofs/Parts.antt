-- The lines of a text that is cut at its first LF.
use Rattle.std.proofs.Common.{◌≡◌, ℕ, ◌<◌, List, [], ◌∷◌, Bool, true, false, cond, length}
use Rattle.std.proofs.Common.{refl, ap, ◌∙◌, arith}
use Rattle.std.specs.Prelude.{if◌then◌else◌}
use Rattle.std.specs.List.{slice_split, onto_first}
use Rattle.std.specs.Str.Lines.{strip_carriage_return}
use Rattle.fish_json.specs.Lines.{is_line_end}
use Rattle.fish_script.specs.Lines.{script_lines, script_lines_of}

-- parts with at least one among them
record Some_parts (parts : List (List ℕ)) : Type 0 where
  first : List ℕ
  more : List (List ℕ)
  are : parts ≡ first ∷ more

onto : (c : ℕ) (parts : List (List ℕ)) → Some_parts parts → Some_parts (onto_first c parts)
onto c parts p = record { first = c ∷ p.first; more = p.more; are = ap (onto_first c) p.are }

-- the parts at a byte whose test is known
at : (c : ℕ) (x : List ℕ) (end : Bool) → is_line_end c ≡ end
    → slice_split is_line_end (c ∷ x)
    ≡ (if end then [] ∷ slice_split is_line_end x else onto_first c (slice_split is_line_end x))
at c x end h = ap (λ b. cond b ([] ∷ slice_split is_line_end x) (onto_first c (slice_split is_line_end x))) h

step : (c : ℕ) (x : List ℕ) (end : Bool) → is_line_end c ≡ end → Some_parts (slice_split is_line_end x)
    → Some_parts (slice_split is_line_end (c ∷ x))
step c x true h p = record { first = []; more = slice_split is_line_end x; are = at c x true h }
step c x false h p =
    let q = onto c (slice_split is_line_end x) p in
    record { first = q.first; more = q.more; are = at c x false h ∙ q.are }

-- bytes have a first part
some_parts : (x : List ℕ) → Some_parts (slice_split is_line_end x)
some_parts [] = record { first = []; more = []; are = refl }
some_parts (c ∷ x) = step c x (is_line_end c) refl (some_parts x)

cut_lines : (part : List ℕ) (parts : List (List ℕ)) → Some_parts parts
    → script_lines_of (part ∷ parts) ≡ strip_carriage_return part ∷ script_lines_of parts
cut_lines [] parts p = rw p.are
cut_lines (c ∷ part) parts p = rw p.are

-- the lines of a text that is cut at its first LF
pub lines_cut : (b part behind : List ℕ) → slice_split is_line_end b ≡ part ∷ slice_split is_line_end behind
    → script_lines b ≡ strip_carriage_return part ∷ script_lines behind
unfolding script_lines
lines_cut b part behind h = ap script_lines_of h ∙ cut_lines part (slice_split is_line_end behind) (some_parts behind)

-- no bytes have no line
pub lines_none : script_lines [] ≡ []
unfolding script_lines
lines_none = refl

-- a text without an LF is one line, unless it is empty
pub lines_last : (b : List ℕ) → 0 < length b → slice_split is_line_end b ≡ b ∷ [] → script_lines b ≡ b ∷ []
unfolding script_lines
lines_last [] some h = absurd (omega arith)
lines_last (c ∷ b) some h = ap script_lines_of h
