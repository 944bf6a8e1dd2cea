-- The names of options, and the words that begin with one.
use Rattle.std.proofs.Common.{◌≡◌, ℕ, [], ◌∷◌, ◌++◌, Bool, true, false, refl, subst, sym, inl, inr}
use Rattle.std.specs.Prelude.{◌==◌, ◌⊎◌, Option, Some, None, codes, is_some, if◌then◌else◌}
use Rattle.std.specs.Str.{bytes_eq}
use Rattle.std.specs.Str.Parse.{starts_with_minus}
use Rattle.std.proofs.lemmas.Bool.{eqb-true}
use Rattle.std.proofs.lemmas.Slice.Eq.{bytes_eq-Decides}
use Rattle.clap.specs.Lexer.{long_of, long_of_rest}
use Rattle.fish_command.specs.Line.{is_options_end}
use Rattle.fish_command.specs.Options.{Choice, Word, choice_of}
use Rattle.fish_command.specs.within.Reading.{has_one_minus}

-- what a test of a word says
pub same_word : (a b : Word) → bytes_eq a b ≡ true → a ≡ b
same_word a b h = (bytes_eq-Decides a b).0 h

-- a name that an option has is one of three
named_by : (n : Word) (a b c : Bool) (x y z : Option Choice)
    → bytes_eq n (codes "form") ≡ a → bytes_eq n (codes "pages") ≡ b → bytes_eq n (codes "bits") ≡ c
    → is_some (if a then x else (if b then y else (if c then z else None))) ≡ true
    → (n ≡ codes "form") ⊎ ((n ≡ codes "pages") ⊎ (n ≡ codes "bits"))
named_by n true b c x y z is_form is_pages is_bits h = inl (same_word _ _ is_form)
named_by n false true c x y z is_form is_pages is_bits h = inr (inl (same_word _ _ is_pages))
named_by n false false true x y z is_form is_pages is_bits h = inr (inr (same_word _ _ is_bits))
named_by n false false false x y z is_form is_pages is_bits h = cc

-- a word that begins with `--` and this name is read as this option
pub record BeginsOption (n : Word) : Type 0 where
  pub apart : long_of_rest n ≡ Some (n, None)
  pub apart_unmarked : is_options_end (codes "--" ++ n) ≡ false
  pub joined : (v : Word) → long_of_rest (n ++ codes "=" ++ v) ≡ Some (n, Some v)
  pub joined_unmarked : (v : Word) → is_options_end (codes "--" ++ n ++ codes "=" ++ v) ≡ false

-- so for `form`
form_begins : BeginsOption (codes "form")
form_begins = record {
  apart = refl;
  apart_unmarked = refl;
  joined = λ v. refl;
  joined_unmarked = λ v. refl;
}

-- so for `pages`
pages_begins : BeginsOption (codes "pages")
pages_begins = record {
  apart = refl;
  apart_unmarked = refl;
  joined = λ v. refl;
  joined_unmarked = λ v. refl;
}

-- so for `bits`
bits_begins : BeginsOption (codes "bits")
bits_begins = record {
  apart = refl;
  apart_unmarked = refl;
  joined = λ v. refl;
  joined_unmarked = λ v. refl;
}

-- so for each name that an option has
begins_by : (n : Word) → (n ≡ codes "form") ⊎ ((n ≡ codes "pages") ⊎ (n ≡ codes "bits")) → BeginsOption n
begins_by n (inl is) = subst BeginsOption (sym is) form_begins
begins_by n (inr (inl is)) = subst BeginsOption (sym is) pages_begins
begins_by n (inr (inr is)) = subst BeginsOption (sym is) bits_begins

-- so are the words of each option
pub option_begins : (n v : Word) → is_some (choice_of n v) ≡ true → BeginsOption n
option_begins n v h = begins_by n (named_by n _ _ _ _ _ _ refl refl refl h)

-- a word that begins with no minus is no mark
pub plain_unmarked : (w : Word) (mark : Bool) → is_options_end w ≡ mark → starts_with_minus w ≡ false → mark ≡ false
plain_unmarked w false is plain = refl
plain_unmarked w true is plain =
    let bad : starts_with_minus (codes "--") ≡ false = subst (λ (x : Word). starts_with_minus x ≡ false)
    (same_word w (codes "--") is) plain in cc

-- ---- words by their first bytes

-- a word is plain, has one minus, is `--`, or is an option
module _ (P : Word → Type 0) (plain : (y : Word) → starts_with_minus y ≡ false → P y)
    (single : (y : Word) → starts_with_minus y ≡ true → has_one_minus y ≡ true → is_options_end y ≡ false
    → long_of y ≡ None → P y)
    (mark : P (codes "--")) (long : (c : ℕ) (rest : Word) → P (45 ∷ 45 ∷ c ∷ rest)) where
  -- after two minuses
  third : (more : Word) → P (45 ∷ 45 ∷ more)
  third [] = mark
  third (c ∷ rest) = long c rest

  -- by the second byte
  second_by : (b : ℕ) (more : Word) (t : Bool) → (b == 45) ≡ t → P (45 ∷ b ∷ more)
  second_by b more true is = subst (λ (n : ℕ). P (45 ∷ n ∷ more)) (sym (eqb-true b 45 is)) (third more)
  second_by b more false is = single (45 ∷ b ∷ more) refl (rw is refl) (rw is refl) (rw is refl)

  -- after one minus
  second : (more : Word) → P (45 ∷ more)
  second [] = single (45 ∷ []) refl refl refl refl
  second (b ∷ more) = second_by b more (b == 45) refl

  -- by the first byte
  first_by : (a : ℕ) (more : Word) (t : Bool) → (a == 45) ≡ t → P (a ∷ more)
  first_by a more true is = subst (λ (n : ℕ). P (n ∷ more)) (sym (eqb-true a 45 is)) (second more)
  first_by a more false is = plain (a ∷ more) is

  -- so of each word
  pub kinds : (x : Word) → P x
  kinds [] = plain [] refl
  kinds (a ∷ more) = first_by a more (a == 45) refl

-- a plain word is no option
pub long_plain : (x : Word) → starts_with_minus x ≡ false → long_of x ≡ None
long_plain [] plain = refl
long_plain (a ∷ more) plain = rw plain refl
