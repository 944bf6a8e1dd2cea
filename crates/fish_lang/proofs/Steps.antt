-- A token that fits makes an unfinished derivation longer by its position, and each can be finished.
use Rattle.std.proofs.Common.{◌≡◌, ℕ, List, [], ◌∷◌, ◌++◌, refl, ◌∙◌, append_assoc}
use Rattle.std.specs.Prelude.{ℤ, true, false, Option, Some, None, option_map}
use Rattle.fish_value.specs.declared.value.Value.{Value}
use Rattle.fish_lang.specs.Definition.{compares, begins}
use Rattle.fish_lang.specs.Grammar.{Terminal, step_token, literal_terminal}
use Rattle.fish_lang.specs.Derivation.{Step, ident, string, Path, one_step, more_steps, Literal, truth, number, text}
use Rattle.fish_lang.specs.Derivation.{compare, exist, start, Conj, group, test, path_steps, step_name, literal_value}
use Rattle.fish_lang.specs.Derivation.{conj_formula, one_conj, more_conjs}
use Rattle.fish_lang.specs.within.Machine as machine
use Rattle.fish_lang.specs.within.Moves as moves
use Rattle.fish_lang.specs.within.Machine.{State, complete, nesting}
use Rattle.fish_lang.specs.within.Moves.{advance, fault_at, finish, name_of, text_of_token, value_of_token, number_of_token}
use Rattle.fish_lang.specs.declared.definition.Op.{Op}
use Rattle.fish_lang.specs.declared.token.Token.{Token}
use Rattle.fish_lang.specs.declared.token.Token.TheVariants.{Keyword, Ident, Str, Number, Compare, Open, Close, Dot}
use Rattle.fish_lang.specs.declared.token.Keyword.TheVariants.{Take, Each, Bucket, Flag, By, When}
use Rattle.fish_lang.specs.declared.token.Keyword.TheVariants.{Not, And, Or, Exists, Starts, True, False}
use Rattle.fish_lang.proofs.Trees.{top, in_group, Joint, in_whole, behind_or, Operand, in_joint, behind_and, under_not}
use Rattle.fish_lang.proofs.Trees.{Head, take_when, each_when, bucket_when, flag_when, Owner, of_take, of_each, of_bucket, of_test, Tree}
use Rattle.fish_lang.proofs.Trees.{start_tree, flag_tree, first_of_take, first_of_each, first_of_bucket, behind_dot, behind_step}
use Rattle.fish_lang.proofs.Trees.{width, behind_width, operand, literal, prefix, behind_operand, joint_state}
use Rattle.fish_lang.proofs.Trees.{operand_state, head_state, owner_state, state_of, before, completed, completed-state}
use Rattle.fish_lang.proofs.Trees.{completed-before}

-- a token in its position
abbrev pub placed_at : State → Token → Terminal
placed_at s t = record { token = t; fault = fault_at s t }

-- a tree that is one position longer than another, and stands for a state
pub record Longer (tree : Tree) (t : Token) (s : State) : Type 0 where
  pub next : Tree
  pub stands : state_of next ≡ s
  pub spells : before next ≡ before tree ++ placed_at (state_of tree) t ∷ []

-- a step by its token
record Names (t : Token) (s : List ℕ) : Type 0 where
  step : Step
  token : step_token step ≡ t
  name : step_name step ≡ s

names : (t : Token) (s : List ℕ) → name_of t ≡ Some s → Names t s
names (Ident x) s h = record { step = ident x; token = refl; name = cc }
names (Str x) s h = record { step = string x; token = refl; name = cc }
names _ s h = cc

-- a literal by its token
record Stands (t : Token) (v : Value) : Type 0 where
  lit : Literal
  terminal : literal_terminal lit ≡ record { token = t; fault = number_of_token t }
  value : literal_value lit ≡ v

stands : (t : Token) (v : Value) → value_of_token t ≡ Some v → Stands t v
stands (Keyword True) v h = record { lit = truth true; terminal = refl; value = cc }
stands (Keyword False) v h = record { lit = truth false; terminal = refl; value = cc }
stands (Number negative n) v h = record { lit = number negative n; terminal = refl; value = cc }
stands (Str s) v h = record { lit = text s; terminal = refl; value = cc }
stands _ v h = cc

-- one step more of a path that has begun
from_dot : (o : Owner) (p : Path) (t : Token) (s : State) (n : Option (List ℕ)) → name_of t ≡ n
    → option_map (λ x. machine.behind_step (owner_state o) (path_steps p ++ x ∷ [])) n ≡ Some s
    → Longer (behind_dot o p) t s
from_dot o p t s None e h = cc
from_dot o p t s (Some x) e h =
    let named = names t x e in
    record {
      next = behind_step o (more_steps p named.step);
      stands = rw named.name cc;
      spells = rw (named.token) (simp append_assoc);
    }

-- the first step of a path
from_take : (t : Token) (s : State) (n : Option (List ℕ)) → name_of t ≡ n
    → option_map (λ x. machine.behind_step machine.of_take (x ∷ [])) n ≡ Some s → Longer first_of_take t s
from_take t s None e h = cc
from_take t s (Some x) e h =
    let named = names t x e in
    record {
      next = behind_step of_take (one_step named.step);
      stands = rw named.name cc;
      spells =
          rw named.token;
    }

-- the first step of the path after `each`
from_each : (t : Token) (s : State) (n : Option (List ℕ)) → name_of t ≡ n
    → option_map (λ x. machine.behind_step machine.of_each (x ∷ [])) n ≡ Some s → Longer first_of_each t s
from_each t s None e h = cc
from_each t s (Some x) e h =
    let named = names t x e in
    record {
      next = behind_step of_each (one_step named.step);
      stands = rw named.name cc;
      spells =
          rw named.token;
    }

from_bucket : (t : Token) (s : State) (n : Option (List ℕ)) → name_of t ≡ n
    → option_map (λ x. machine.behind_step machine.of_bucket (x ∷ [])) n ≡ Some s → Longer first_of_bucket t s
from_bucket t s None e h = cc
from_bucket t s (Some x) e h =
    let named = names t x e in
    record {
      next = behind_step of_bucket (one_step named.step);
      stands = rw named.name cc;
      spells =
          rw named.token;
    }

-- after a step
from_path : (o : Owner) (p : Path) (t : Token) (s : State)
    → moves.from_path (owner_state o) (path_steps p) t ≡ Some s → Longer (behind_step o p) t s
from_path o p Dot s h = record { next = behind_dot o p; stands = cc; spells = simp append_assoc }
from_path of_take p (Keyword When) s h =
    record { next = operand (take_when p) (in_joint (in_whole top)); stands = cc; spells = refl }
from_path of_each p (Keyword When) s h =
    record { next = operand (each_when p) (in_joint (in_whole top)); stands = cc; spells = refl }
from_path of_take p _ s h = cc
from_path of_each p _ s h = cc
from_path of_bucket p (Keyword By) s h = record { next = width p; stands = cc; spells = refl }
from_path of_bucket p _ s h = cc
from_path (of_test k j) p (Compare op) s h = record {
  next = literal k j p op;
  stands = cc;
  spells =
      simp append_assoc;
}
from_path (of_test k j) p (Keyword Exists) s h = record {
  next = completed k j (test (exist p));
  stands = cc (completed-state k j (test (exist p)));
  spells = completed-before k j (test (exist p)) ∙ simp append_assoc;
}
from_path (of_test k j) p (Keyword Starts) s h = record {
  next = prefix k j p;
  stands = cc;
  spells =
      simp append_assoc;
}
from_path (of_test k j) p _ s h = cc

from_width : (p : Path) (t : Token) (s : State) → moves.from_width (path_steps p) t ≡ Some s
    → Longer (width p) t s
from_width p (Number false n) s h = record {
  next = behind_width p n;
  stands = cc;
  spells =
      simp append_assoc;
}
from_width p _ s h = cc

behind_number : (p : Path) (n : Option ℤ) (t : Token) (s : State)
    → moves.from_head (head_state (bucket_when p n)) t ≡ Some s → Longer (behind_width p n) t s
behind_number p n (Keyword When) s h =
    record {
      next = operand (bucket_when p n) (in_joint (in_whole top));
      stands = cc;
      spells =
          simp append_assoc;
    }
behind_number p n _ s h = cc

-- an operand
from_operand : (k : Head) (j : Operand) (t : Token) (s : State)
    → moves.from_operand (head_state k) (operand_state j) t ≡ Some s → Longer (operand k j) t s
from_operand k j (Keyword Not) s h = record { next = operand k (under_not j); stands = cc; spells = refl }
from_operand k j Open s h = record {
  next = operand k (in_joint (in_whole (in_group j)));
  stands =
      cc;
  spells = refl;
}
from_operand k j (Ident x) s h =
    record { next = behind_step (of_test k j) (one_step (ident x)); stands = cc; spells = refl }
from_operand k j (Str x) s h =
    record { next = behind_step (of_test k j) (one_step (string x)); stands = cc; spells = refl }
from_operand k j _ s h = cc

-- a literal
from_literal : (k : Head) (j : Operand) (p : Path) (op : Op) (t : Token) (s : State)
    (v : Option Value) → value_of_token t ≡ v
    → option_map (λ x. complete (head_state k) (operand_state j) (compares (path_steps p) op x)) v
    ≡ Some s → Longer (literal k j p op) t s
from_literal k j p op t s None e h = cc
from_literal k j p op t s (Some v) e h =
    let is = stands t v e in
    let a = test (compare p op is.lit) in
    record {
      next = completed k j a;
      stands = completed-state k j a ∙ rw is.value cc;
      spells = completed-before k j a ∙ rw is.terminal (simp append_assoc);
    }

from_prefix : (k : Head) (j : Operand) (p : Path) (t : Token) (s : State)
    → option_map (λ x. complete (head_state k) (operand_state j) (begins (path_steps p) x))
    (text_of_token t) ≡ Some s → Longer (prefix k j p) t s
from_prefix k j p (Str x) s h = record {
  next = completed k j (test (start p x));
  stands = cc (completed-state k j (test (start p x)));
  spells = completed-before k j (test (start p x)) ∙ simp append_assoc;
}
from_prefix k j p _ s h = cc

-- after an operand
from_joint : (k : Head) (j : Joint) (c : Conj) (t : Token) (s : State)
    → moves.from_joint (head_state k) (joint_state j) (conj_formula c) t ≡ Some s
    → Longer (behind_operand k j c) t s
from_joint k j c (Keyword And) s h = record {
  next = operand k (behind_and c j);
  stands =
      cc;
  spells = simp append_assoc;
}
from_joint k (in_whole w) c (Keyword Or) s h =
    record { next = operand k (in_joint (behind_or (one_conj c) w)); stands = cc; spells = simp append_assoc }
from_joint k (behind_or a w) c (Keyword Or) s h =
    record {
      next = operand k (in_joint (behind_or (more_conjs a c) w));
      stands = cc;
      spells =
          simp append_assoc;
    }
from_joint k (in_whole (in_group j)) c Close s h = record {
  next = completed k j (group (one_conj c));
  stands = cc (completed-state k j (group (one_conj c)));
  spells = completed-before k j (group (one_conj c)) ∙ simp append_assoc;
}
from_joint k (behind_or a (in_group j)) c Close s h = record {
  next = completed k j (group (more_conjs a c));
  stands = cc (completed-state k j (group (more_conjs a c)));
  spells = completed-before k j (group (more_conjs a c)) ∙ simp append_assoc;
}
from_joint k _ c _ s h = cc

-- a token that fits makes each longer
pub longer : (tree : Tree) (t : Token) (s : State) → advance (state_of tree) t ≡ Some s → Longer tree t s
longer start_tree (Keyword Take) s h = record { next = first_of_take; stands = cc; spells = refl }
longer start_tree (Keyword Each) s h = record { next = first_of_each; stands = cc; spells = refl }
longer start_tree (Keyword Bucket) s h = record { next = first_of_bucket; stands = cc; spells = refl }
longer start_tree (Keyword Flag) s h = record { next = flag_tree; stands = cc; spells = refl }
longer start_tree _ s h = cc
longer flag_tree (Keyword When) s h =
    record { next = operand flag_when (in_joint (in_whole top)); stands = cc; spells = refl }
longer flag_tree _ s h = cc
longer first_of_take t s h = from_take t s (name_of t) refl h
longer first_of_each t s h = from_each t s (name_of t) refl h
longer first_of_bucket t s h = from_bucket t s (name_of t) refl h
longer (behind_dot o p) t s h = from_dot o p t s (name_of t) refl h
longer (behind_step o p) t s h = from_path o p t s h
longer (width p) t s h = from_width p t s h
longer (behind_width p n) t s h = behind_number p n t s h
longer (operand k j) t s h = from_operand k j t s h
longer (literal k j p op) t s h = from_literal k j p op t s (value_of_token t) refl h
longer (prefix k j p) t s h = from_prefix k j p t s h
longer (behind_operand k j c) t s h = from_joint k j c t s h
