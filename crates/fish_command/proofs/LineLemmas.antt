-- Lists of words by their lengths.
use Rattle.std.proofs.Common.{◌≡◌, ◌≤◌, ◌<◌, List, [], ◌∷◌, refl, sym, arith, length, map}
use Rattle.std.specs.Prelude.{not, Some, None}
use Rattle.std.specs.Borrow.{Bor}
use Rattle.std.specs.List.{list_all, slice_index_or}
use Rattle.clap.specs.Words.{Row, all_of}
use Rattle.fish_command.specs.Line.{is_options_end}
use Rattle.fish_command.specs.within.Matched.{at_most_one, values_for_id}
use Rattle.fish_command.specs.Options.{Word}
use Rattle.fish_command.specs.within.Reading.{are_placed_after}

-- some words may be after `--` where none of them is one
pub are_placed_after_some : (words : List Word) → 0 < length words
    → list_all (λ w. not (is_options_end w)) words ≡ are_placed_after words
are_placed_after_some [] some = absurd (omega arith)
are_placed_after_some (w ∷ words) some = refl

-- what borrowed words are
abbrev nows : List (Bor Word) → List Word
nows = map (λ v. v.now)

-- one word is the only one
one_now : (xs : List (Bor Word)) (d : Bor Word) → length xs ≡ 1 → at_most_one (nows xs) ≡ Some (Some (slice_index_or xs 0 d).now)
one_now [] d n = absurd (omega arith)
one_now (x ∷ []) d n = refl
one_now (x ∷ y ∷ more) d n = absurd (omega arith)

-- of two and more none is
many_now : (xs : List (Bor Word)) → 2 ≤ length xs → at_most_one (nows xs) ≡ None
many_now [] n = absurd (omega arith)
many_now (x ∷ []) n = absurd (omega arith)
many_now (x ∷ y ∷ more) n = refl

-- of none there is none
none_now : (xs : List (Bor Word)) → length xs ≡ 0 → at_most_one (nows xs) ≡ Some None
none_now [] n = refl
none_now (x ∷ more) n = absurd (omega arith)

-- so of the values of an argument, where there is one
pub only_one : (id : Word) (rows : List Row) (xs : List (Bor Word)) (d : Bor Word) → Some (nows xs) ≡ all_of id rows
    → length xs ≡ 1 → Some (Some (slice_index_or xs 0 d).now) ≡ at_most_one (values_for_id id rows)
only_one id rows xs d is n = rw (← is) (sym (one_now xs d n))

-- where there are more
pub only_many : (id : Word) (rows : List Row) (xs : List (Bor Word)) → Some (nows xs) ≡ all_of id rows → 2 ≤ length xs
    → None ≡ at_most_one (values_for_id id rows)
only_many id rows xs is n = rw (← is) (sym (many_now xs n))

-- where there is none
pub only_none : (id : Word) (rows : List Row) (xs : List (Bor Word)) → Some (nows xs) ≡ all_of id rows → length xs ≡ 0
    → Some None ≡ at_most_one (values_for_id id rows)
only_none id rows xs is n = rw (← is) (sym (none_now xs n))
