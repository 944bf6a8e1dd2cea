-- What a derivation spells: its tokens in their positions, and which of them are refused there.
use Rattle.std.specs.Prelude.{ℕ, zero, suc, ℤ, pos, nat_lt, List, [], ◌∷◌, ◌++◌, true, false, Option, Some, None, map, if◌then◌else◌}
use Rattle.fish_lang.specs.Derivation.{Step, ident, string, Path, one_step, more_steps, Literal, truth, number, text}
use Rattle.fish_lang.specs.Derivation.{Test, compare, exist, start, Cond, one_conj, more_conjs, Conj, one_neg}
use Rattle.fish_lang.specs.Derivation.{more_negs, Neg, not_neg, group, test, Derivation, take_def, each_def, bucket_def, flag_def}
use Rattle.fish_lang.specs.declared.fault.Fault.{Fault}
use Rattle.fish_lang.specs.declared.fault.Fault.TheVariants.{TooDeep, NumberTooLarge, ZeroWidth}
use Rattle.fish_lang.specs.declared.token.Keyword.{Keyword}
use Rattle.fish_lang.specs.declared.token.Keyword.TheVariants as word
use Rattle.fish_lang.specs.declared.token.Token.{Token}
use Rattle.fish_lang.specs.declared.token.Token.TheVariants as kind

-- a token in its position, and why it is refused there, if it is
pub record Terminal : Type 0 where
  pub token : Token
  pub fault : Option Fault

abbrev pub terminal : Token → Terminal
terminal t = record { token = t; fault = None }

abbrev pub keyword : Keyword → Terminal
keyword k = terminal (kind.Keyword k)

-- a number outside an i64 is too large; no number stands for it
abbrev pub number_fault : Option ℤ → Option Fault
number_fault (Some n) = None
number_fault None = Some NumberTooLarge

-- and a width of 0 is refused
abbrev pub width_fault : Option ℤ → Option Fault
width_fault (Some (pos zero)) = Some ZeroWidth
width_fault (Some n) = None
width_fault None = Some NumberTooLarge

-- a `(` or a `not` that makes the nesting 17 is too deep
abbrev pub nesting_fault : ℕ → Option Fault
nesting_fault around = if nat_lt around 16 then None else Some TooDeep

abbrev pub step_token : Step → Token
step_token (ident s) = kind.Ident s
step_token (string s) = kind.Str s

abbrev pub path_terminals : Path → List Terminal
path_terminals (one_step s) = terminal (step_token s) ∷ []
path_terminals (more_steps p s) = path_terminals p ++ terminal kind.Dot ∷ terminal (step_token s) ∷ []

abbrev pub literal_terminal : Literal → Terminal
literal_terminal (truth true) = keyword word.True
literal_terminal (truth false) = keyword word.False
literal_terminal (number negative n) = record { token = kind.Number negative n; fault = number_fault n }
literal_terminal (text s) = terminal (kind.Str s)

abbrev pub test_terminals : Test → List Terminal
test_terminals (compare p op l) = path_terminals p ++ terminal (kind.Compare op) ∷ literal_terminal l ∷ []
test_terminals (exist p) = path_terminals p ++ keyword word.Exists ∷ []
test_terminals (start p s) = path_terminals p ++ keyword word.Starts ∷ terminal (kind.Str s) ∷ []

-- the number is the nesting around
abbrev mutual
  pub cond_terminals : ℕ → Cond → List Terminal
  cond_terminals n (one_conj c) = conj_terminals n c
  cond_terminals n (more_conjs a c) = cond_terminals n a ++ keyword word.Or ∷ conj_terminals n c

  pub conj_terminals : ℕ → Conj → List Terminal
  conj_terminals n (one_neg a) = neg_terminals n a
  conj_terminals n (more_negs c a) = conj_terminals n c ++ keyword word.And ∷ neg_terminals n a

  pub neg_terminals : ℕ → Neg → List Terminal
  neg_terminals n (not_neg a) = record { token = kind.Keyword word.Not; fault = nesting_fault n } ∷
      neg_terminals (suc n) a
  neg_terminals n (group c) = record { token = kind.Open; fault = nesting_fault n } ∷
      (cond_terminals (suc n) c ++ terminal kind.Close ∷ [])
  neg_terminals n (test t) = test_terminals t

abbrev pub when_terminals : Option Cond → List Terminal
when_terminals None = []
when_terminals (Some c) = keyword word.When ∷ cond_terminals 0 c

abbrev pub terminals : Derivation → List Terminal
terminals (take_def p w) = keyword word.Take ∷ (path_terminals p ++ when_terminals w)
terminals (each_def p w) = keyword word.Each ∷ (path_terminals p ++ when_terminals w)
terminals (bucket_def p n w) = keyword word.Bucket ∷ (path_terminals p
    ++ keyword word.By ∷ record { token = kind.Number false n; fault = width_fault n } ∷ when_terminals w)
terminals (flag_def c) = keyword word.Flag ∷ keyword word.When ∷ cond_terminals 0 c

-- the tokens alone
abbrev pub spelled : List Terminal → List Token
spelled = map (λ s. s.token)
