-- Each unfinished derivation can be finished, and where a source may end it is a whole one.
use Rattle.std.proofs.Common.{◌≡◌, ℕ, arith, List, [], ◌∷◌, ◌++◌, refl, ◌∙◌, append_assoc, append-nil}
use Rattle.std.specs.Prelude.{pos, true, false, Some, None, codes}
use Rattle.std.proofs.lemmas.Str.{IsUtf8-from_ascii}
use Rattle.fish_value.specs.Number.{int_of}
use Rattle.fish_lang.specs.Definition.{Definition}
use Rattle.fish_lang.specs.Grammar.{Terminal, terminal, keyword, terminals, path_terminals}
use Rattle.fish_lang.specs.Derivation.{Step, ident, Path, one_step, more_steps, truth, Cond, one_conj, more_conjs}
use Rattle.fish_lang.specs.Derivation.{one_neg, Neg, compare, exist, start, test, Derivation, take_def, each_def, bucket_def}
use Rattle.fish_lang.specs.Derivation.{flag_def, meaning, cond_formula}
use Rattle.fish_lang.specs.within.Moves.{finish, definition_with}
use Rattle.fish_lang.specs.declared.token.Keyword.TheVariants as word
use Rattle.fish_lang.specs.declared.token.Token.TheVariants as kind
use Rattle.fish_lang.specs.Language.{AreTokens}
use Rattle.fish_lang.specs.Token.{token_of, keyword_of, condition_word, literal_word, plain_word, is_ident, sign_token}
use Rattle.fish_lang.specs.declared.token.Token.{Token}
use Rattle.fish_lang.proofs.Lexed.{string-token}
use Rattle.fish_lang.proofs.Trees.{Whole, Joint, Operand, in_joint, behind_and, under_not, whole_behind, top, in_group}
use Rattle.fish_lang.proofs.Trees.{in_whole, behind_or, Head, take_when, each_when, bucket_when, flag_when, Owner, of_take, of_each}
use Rattle.fish_lang.proofs.Trees.{of_bucket, of_test, Tree, start_tree, flag_tree, first_of_take, first_of_each, first_of_bucket}
use Rattle.fish_lang.proofs.Trees.{behind_dot, behind_step, width, behind_width, operand, literal, prefix}
use Rattle.fish_lang.proofs.Trees.{behind_operand, head_state, state_of, before, owner_before, with_cond}
use Rattle.fish_lang.proofs.Trees.{with_cond-terminals, round, round_joint, behind, joint_behind, round-terminals}
use Rattle.fish_lang.proofs.Trees.{round_joint-terminals}

-- the tokens with which the derivations below go on
abbrev IsToken : Token → Type 0
IsToken t = (bytes : List ℕ) × (token_of bytes ≡ Some t)

take-token : IsToken (kind.Keyword word.Take)
unfolding token_of keyword_of condition_word literal_word
take-token = (codes "take", refl)

by-token : IsToken (kind.Keyword word.By)
unfolding token_of keyword_of condition_word literal_word
by-token = (codes "by", refl)

when-token : IsToken (kind.Keyword word.When)
unfolding token_of keyword_of condition_word literal_word
when-token = (codes "when", refl)

exists-token : IsToken (kind.Keyword word.Exists)
unfolding token_of keyword_of condition_word literal_word
exists-token = (codes "exists", refl)

true-token : IsToken (kind.Keyword word.True)
unfolding token_of keyword_of condition_word literal_word
true-token = (codes "true", refl)

ident-token : IsToken (kind.Ident (codes "a"))
unfolding token_of keyword_of condition_word literal_word plain_word is_ident
ident-token = (codes "a", refl)

number-token : IsToken (kind.Number false (Some (pos 1)))
unfolding token_of keyword_of condition_word literal_word plain_word int_of
number-token = (codes "1", refl)

close-token : IsToken kind.Close
unfolding token_of sign_token
close-token = (codes ")", refl)

empty-token : IsToken (kind.Str [])
empty-token = (_, string-token [] (IsUtf8-from_ascii [] (λ i. omega arith)))

mutual
  whole-real : (w : Whole) → AreTokens (whole_behind w)
  whole-real top = tt
  whole-real (in_group k) = (close-token, behind-real k)

  joint-real : (j : Joint) → AreTokens (joint_behind j)
  joint-real (in_whole w) = whole-real w
  joint-real (behind_or a w) = whole-real w

  behind-real : (k : Operand) → AreTokens (behind k)
  behind-real (in_joint j) = joint-real j
  behind-real (behind_and c j) = joint-real j
  behind-real (under_not k) = behind-real k

-- a derivation that begins with positions, and goes on with tokens
pub record Finishes (front : List Terminal) : Type 0 where
  pub tree : Derivation
  pub more : List Terminal
  pub real : AreTokens more
  pub spells : terminals tree ≡ front ++ more

abbrev some_step : Step
some_step = ident (codes "a")

abbrev some_test : Neg
some_test = test (exist (one_step some_step))

abbrev some_width : Terminal
some_width = record { token = kind.Number false (Some (pos 1)); fault = None }

-- after a step any part can end
path_finishes : (o : Owner) (p : Path) → Finishes (owner_before o ++ path_terminals p)
path_finishes of_take p = record { tree = take_def p None; more = []; real = tt; spells = refl }
path_finishes of_each p = record { tree = each_def p None; more = []; real = tt; spells = refl }
path_finishes of_bucket p = record {
  tree = bucket_def p (Some (pos 1)) None;
  more = keyword word.By ∷ some_width ∷ [];
  real = (by-token, (number-token, tt));
  spells = refl;
}
path_finishes (of_test k j) p = record {
  tree = round k j (test (exist p));
  more = keyword word.Exists ∷ behind j;
  real = (exists-token, behind-real j);
  spells = round-terminals k j (test (exist p)) ∙ simp append_assoc;
}

pub finishes : (tree : Tree) → Finishes (before tree)
finishes start_tree = record {
  tree = take_def (one_step some_step) None;
  more = keyword word.Take ∷ terminal (kind.Ident (codes "a")) ∷ [];
  real = (take-token, (ident-token, tt));
  spells = refl;
}
finishes flag_tree = record {
  tree = flag_def (one_conj (one_neg some_test));
  more = keyword word.When ∷ terminal (kind.Ident (codes "a")) ∷ keyword word.Exists ∷ [];
  real = (when-token, (ident-token, (exists-token, tt)));
  spells = refl;
}
finishes first_of_take = record {
  tree = take_def (one_step some_step) None;
  more = terminal (kind.Ident (codes "a")) ∷ [];
  real = (ident-token, tt);
  spells = refl;
}
finishes first_of_each = record {
  tree = each_def (one_step some_step) None;
  more = terminal (kind.Ident (codes "a")) ∷ [];
  real = (ident-token, tt);
  spells = refl;
}
finishes first_of_bucket = record {
  tree = bucket_def (one_step some_step) (Some (pos 1)) None;
  more = terminal (kind.Ident (codes "a")) ∷ keyword word.By ∷ some_width ∷ [];
  real = (ident-token, (by-token, (number-token, tt)));
  spells = refl;
}
finishes (behind_dot o p) =
    let f = path_finishes o (more_steps p some_step) in
    record {
      tree = f.tree;
      more = terminal (kind.Ident (codes "a")) ∷ f.more;
      real = (ident-token, f.real);
      spells = f.spells ∙ simp append_assoc;
    }
finishes (behind_step o p) = path_finishes o p
finishes (width p) = record {
  tree = bucket_def p (Some (pos 1)) None;
  more = some_width ∷ [];
  real = (number-token, tt);
  spells = simp append_assoc;
}
finishes (behind_width p n) =
    record { tree = bucket_def p n None; more = []; real = tt; spells = simp append-nil }
finishes (operand k j) = record {
  tree = round k j some_test;
  more = terminal (kind.Ident (codes "a")) ∷ keyword word.Exists ∷ behind j;
  real = (ident-token, (exists-token, behind-real j));
  spells = round-terminals k j some_test;
}
finishes (literal k j p op) = record {
  tree = round k j (test (compare p op (truth true)));
  more = keyword word.True ∷ behind j;
  real = (true-token, behind-real j);
  spells = round-terminals k j (test (compare p op (truth true))) ∙ simp append_assoc;
}
finishes (prefix k j p) = record {
  tree = round k j (test (start p []));
  more = terminal (kind.Str []) ∷ behind j;
  real = (empty-token, behind-real j);
  spells = round-terminals k j (test (start p [])) ∙ simp append_assoc;
}
finishes (behind_operand k j c) = record {
  tree = round_joint k j c;
  more = joint_behind j;
  real = joint-real j;
  spells = round_joint-terminals k j c ∙ simp append_assoc;
}

-- a whole derivation with what it spells and means
pub record Ends (tree : Tree) (d : Definition) : Type 0 where
  pub whole : Derivation
  pub spells : terminals whole ≡ before tree
  pub means : meaning whole ≡ d

-- what is known after a condition is what it means
with_cond-means : (k : Head) (c : Cond) → definition_with (head_state k) (cond_formula c)
    ≡ meaning (with_cond k c)
with_cond-means (take_when p) c = refl
with_cond-means (each_when p) c = refl
with_cond-means (bucket_when p n) c = refl
with_cond-means flag_when c = refl

-- where a source may end
pub ends : (tree : Tree) (d : Definition) → finish (state_of tree) ≡ Some d → Ends tree d
ends (behind_step of_take p) d h = record { whole = take_def p None; spells = simp append-nil; means = cc }
ends (behind_step of_each p) d h = record { whole = each_def p None; spells = simp append-nil; means = cc }
ends (behind_width p n) d h = record { whole = bucket_def p n None; spells = refl; means = cc }
ends (behind_operand k (in_whole top) c) d h = record {
  whole = with_cond k (one_conj c);
  spells =
      with_cond-terminals k (one_conj c);
  means = cc (with_cond-means k (one_conj c));
}
ends (behind_operand k (behind_or a top) c) d h =
    record {
      whole = with_cond k (more_conjs a c);
      spells = with_cond-terminals k (more_conjs a c)
          ∙ simp append_assoc;
      means = cc (with_cond-means k (more_conjs a c));
    }
ends (behind_operand k (in_whole (in_group j)) c) d h = cc
ends (behind_operand k (behind_or a (in_group j)) c) d h = cc
ends (behind_step of_bucket p) d h = cc
ends (behind_step (of_test k j) p) d h = cc
ends _ d h = cc
