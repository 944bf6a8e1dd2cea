-- Derivations are followed: the tokens of each lead from the start to its meaning.
use Rattle.std.proofs.Common.{◌≡◌, suc, List, [], ◌∷◌, ◌++◌, refl, sym, subst}
use Rattle.std.specs.Prelude.{true, false, Some, None, unwrap_or, pos}
use Rattle.fish_lang.specs.Definition.{Steps, compares, is_there, begins, either}
use Rattle.fish_lang.specs.Grammar.{Terminal, terminal, path_terminals, step_token, literal_terminal, keyword}
use Rattle.fish_lang.specs.Grammar.{test_terminals, cond_terminals}
use Rattle.fish_lang.specs.Grammar.{conj_terminals, neg_terminals, terminals}
use Rattle.fish_lang.specs.Derivation.{Step, ident, string, Path, one_step, more_steps, Literal, truth, number, text}
use Rattle.fish_lang.specs.Derivation.{Test, compare, exist, start, Cond, one_conj, more_conjs, Conj, one_neg}
use Rattle.fish_lang.specs.Derivation.{more_negs, Neg, not_neg, group, test, Derivation, take_def, each_def, bucket_def, flag_def}
use Rattle.fish_lang.specs.Derivation.{path_steps, step_name, literal_value, test_formula, cond_formula, conj_formula}
use Rattle.fish_lang.specs.Derivation.{neg_formula, meaning}
use Rattle.fish_lang.specs.within.Machine as machine
use Rattle.fish_lang.specs.within.Machine.{State, Head, Owner, Enclosing, Joint, Operand, complete, at_front, nesting}
use Rattle.fish_lang.specs.within.Machine.{joint_nesting, whole_nesting, or_with, whole_of}
use Rattle.fish_lang.specs.within.Moves.{advance, fault_at, finish, definition_with}
use Rattle.fish_lang.specs.declared.definition.Op.{Op}
use Rattle.fish_lang.specs.declared.token.Keyword.TheVariants as word
use Rattle.fish_lang.specs.declared.token.Token.TheVariants as kind

-- tokens in their positions lead from one state to another
abbrev pub Follows : State → List Terminal → State → Type 0
Follows s [] t = s ≡ t
Follows s (x ∷ xs) t = (u : State) × (advance s x.token ≡ Some u) × (fault_at s x.token ≡ x.fault)
    × Follows u xs t

-- one way after another
pub Follows-append : (xs ys : List Terminal) (s t u : State) → Follows s xs t → Follows t ys u
    → Follows s (xs ++ ys) u
Follows-append [] ys s t u e h = let P : State → Type 0 = λ z. Follows z ys u in subst P (sym e) h
Follows-append (x ∷ xs) ys s t u f h = (f.0, f.1, f.2, Follows-append xs ys f.0 t u f.3 h)

-- a dot and a step
dot_step : (o : Owner) (p : Steps) (s : Step)
    → Follows (machine.behind_step o p) (terminal kind.Dot ∷ terminal (step_token s) ∷ [])
    (machine.behind_step o (p ++ step_name s ∷ []))
dot_step o p (ident s) =
    (machine.step o p, refl, refl, (machine.behind_step o (p ++ s ∷ []), refl, refl, refl))
dot_step o p (string s) =
    (machine.step o p, refl, refl, (machine.behind_step o (p ++ s ∷ []), refl, refl, refl))

-- a path after `take` and `bucket`
path_follows : (o : Owner) (p : Path) → Follows (machine.step o []) (path_terminals p)
    (machine.behind_step o (path_steps p))
path_follows o (one_step (ident s)) = (machine.behind_step o (s ∷ []), refl, refl, refl)
path_follows o (one_step (string s)) = (machine.behind_step o (s ∷ []), refl, refl, refl)
path_follows o (more_steps p s) = Follows-append (path_terminals p) _ _ _ _ (path_follows o p)
    (dot_step o (path_steps p) s)

-- a path in a condition
test_path_follows : (h : Head) (k : Operand) (p : Path)
    → Follows (machine.operand h k) (path_terminals p) (machine.behind_step (machine.of_test h k) (path_steps p))
test_path_follows h k (one_step (ident s)) =
    (machine.behind_step (machine.of_test h k) (s ∷ []), refl, refl, refl)
test_path_follows h k (one_step (string s)) =
    (machine.behind_step (machine.of_test h k) (s ∷ []), refl, refl, refl)
test_path_follows h k (more_steps p s) = Follows-append (path_terminals p) _ _ _ _
    (test_path_follows h k p) (dot_step (machine.of_test h k) (path_steps p) s)

literal_follows : (h : Head) (k : Operand) (p : Steps) (op : Op) (l : Literal)
    → Follows (machine.literal h k p op) (literal_terminal l ∷ [])
    (complete h k (compares p op (literal_value l)))
literal_follows h k p op (truth true) =
    (complete h k (compares p op (literal_value (truth true))), refl, refl, refl)
literal_follows h k p op (truth false) =
    (complete h k (compares p op (literal_value (truth false))), refl, refl, refl)
literal_follows h k p op (number negative n) =
    (complete h k (compares p op (literal_value (number negative n))), refl, refl, refl)
literal_follows h k p op (text s) = (complete h k (compares p op (literal_value (text s))), refl, refl, refl)

test_follows : (h : Head) (k : Operand) (t : Test) → Follows (machine.operand h k) (test_terminals t)
    (complete h k (test_formula t))
test_follows h k (compare p op l) = Follows-append (path_terminals p) _ _ _ _ (test_path_follows h k p)
    (machine.literal h k (path_steps p) op, refl, refl, literal_follows h k (path_steps p) op l)
test_follows h k (exist p) = Follows-append (path_terminals p) _ _ _ _ (test_path_follows h k p)
    (complete h k (is_there (path_steps p)), refl, refl, refl)
test_follows h k (start p s) = Follows-append (path_terminals p) _ _ _ _ (test_path_follows h k p) (
  machine.prefix h k (path_steps p),
  refl,
  refl,
  (complete h k (begins (path_steps p) s), refl, refl, refl),
)

-- what is known after a condition
abbrev behind_cond : Head → Enclosing → Cond → State
behind_cond h w (one_conj c) = machine.behind_operand h (machine.in_whole w) (conj_formula c)
behind_cond h w (more_conjs a c) = machine.behind_operand h (machine.behind_or (cond_formula a) w)
    (conj_formula c)

-- `or` goes on after it
or_follows : (h : Head) (w : Enclosing) (c : Cond) → Follows (behind_cond h w c) (keyword word.Or ∷ [])
    (machine.operand h (machine.in_joint (machine.behind_or (cond_formula c) w)))
or_follows h w (one_conj c) =
    (machine.operand h (machine.in_joint (machine.behind_or (conj_formula c) w)), refl, refl, refl)
or_follows h w (more_conjs a c) = (
  machine.operand h (machine.in_joint
      (machine.behind_or (either (cond_formula a) (conj_formula c)) w)),
  refl,
  refl,
  refl,
)

-- `)` ends it in a group
close_follows : (h : Head) (k : Operand) (c : Cond) → Follows (behind_cond h (machine.in_group k) c)
    (terminal kind.Close ∷ []) (complete h k (cond_formula c))
close_follows h k (one_conj c) = (complete h k (conj_formula c), refl, refl, refl)
close_follows h k (more_conjs a c) =
    (complete h k (either (cond_formula a) (conj_formula c)), refl, refl, refl)

-- and so may the source
finish_cond : (h : Head) (c : Cond) → finish (behind_cond h machine.top c)
    ≡ Some (definition_with h (cond_formula c))
finish_cond h (one_conj c) = refl
finish_cond h (more_conjs a c) = refl

mutual
  cond_follows : (h : Head) (w : Enclosing) (c : Cond) → Follows (machine.operand h (at_front w))
      (cond_terminals (whole_nesting w) c) (behind_cond h w c)
  cond_follows h w (one_conj c) = conj_follows h (machine.in_whole w) c
  cond_follows h w (more_conjs a c) =
      Follows-append (cond_terminals (whole_nesting w) a) _ _ _ _ (cond_follows h w a)
      (Follows-append (keyword word.Or ∷ []) _ _ _ _ (or_follows h w a)
      (conj_follows h (machine.behind_or (cond_formula a) w) c))

  conj_follows : (h : Head) (j : Joint) (c : Conj)
      → Follows (machine.operand h (machine.in_joint j)) (conj_terminals (joint_nesting j) c)
      (machine.behind_operand h j (conj_formula c))
  conj_follows h j (one_neg a) = neg_follows h (machine.in_joint j) a
  conj_follows h j (more_negs c a) =
      Follows-append (conj_terminals (joint_nesting j) c) _ _ _ _ (conj_follows h j c) (
        machine.operand h (machine.behind_and (conj_formula c) j),
        refl,
        refl,
        neg_follows h
            (machine.behind_and (conj_formula c) j) a,
      )

  neg_follows : (h : Head) (k : Operand) (a : Neg)
      → Follows (machine.operand h k) (neg_terminals (nesting k) a) (complete h k (neg_formula a))
  neg_follows h k (not_neg a) =
      (machine.operand h (machine.under_not k), refl, refl, neg_follows h (machine.under_not k) a)
  neg_follows h k (group c) = (
    machine.operand h (at_front (machine.in_group k)),
    refl,
    refl,
    Follows-append (cond_terminals (suc (nesting k)) c) _ _ _ _ (cond_follows h (machine.in_group k) c)
        (close_follows h k c),
  )
  neg_follows h k (test t) = test_follows h k t

-- each derivation leads to a state in which the source may end, with its meaning
pub record Followed (tree : Derivation) : Type 0 where
  pub state : State
  pub follows : Follows machine.start (terminals tree) state
  pub finishes : finish state ≡ Some (meaning tree)

pub followed : (tree : Derivation) → Followed tree
followed (take_def p None) = record {
  state = machine.behind_step machine.of_take (path_steps p);
  follows = (
    machine.step machine.of_take [],
    refl,
    refl,
    Follows-append (path_terminals p) [] _ _ _
        (path_follows machine.of_take p) refl,
  );
  finishes = refl;
}
followed (each_def p None) = record {
  state = machine.behind_step machine.of_each (path_steps p);
  follows = (
    machine.step machine.of_each [],
    refl,
    refl,
    Follows-append (path_terminals p) [] _ _ _
        (path_follows machine.of_each p) refl,
  );
  finishes = refl;
}
followed (take_def p (Some c)) = record {
  state = behind_cond (machine.take_when (path_steps p)) machine.top c;
  follows = (
    machine.step machine.of_take [],
    refl,
    refl,
    Follows-append (path_terminals p) _ _ _ _
        (path_follows machine.of_take p) (
          machine.operand (machine.take_when (path_steps p))
              (at_front machine.top),
          refl,
          refl,
          cond_follows (machine.take_when (path_steps p)) machine.top c,
        ),
  );
  finishes = finish_cond (machine.take_when (path_steps p)) c;
}
followed (each_def p (Some c)) = record {
  state = behind_cond (machine.each_when (path_steps p)) machine.top c;
  follows = (
    machine.step machine.of_each [],
    refl,
    refl,
    Follows-append (path_terminals p) _ _ _ _
        (path_follows machine.of_each p) (
          machine.operand (machine.each_when (path_steps p))
              (at_front machine.top),
          refl,
          refl,
          cond_follows (machine.each_when (path_steps p)) machine.top c,
        ),
  );
  finishes = finish_cond (machine.each_when (path_steps p)) c;
}
followed (bucket_def p n None) = record {
  state = machine.behind_width (path_steps p) (unwrap_or n (pos 0));
  follows = (
    machine.step machine.of_bucket [],
    refl,
    refl,
    Follows-append (path_terminals p) _ _ _ _
        (path_follows machine.of_bucket p) (
          machine.width (path_steps p),
          refl,
          refl,
          (machine.behind_width (path_steps p) (unwrap_or n (pos 0)), refl, refl, refl),
        ),
  );
  finishes = refl;
}
followed (bucket_def p n (Some c)) =
    let h = machine.bucket_when (path_steps p) (unwrap_or n (pos 0)) in
    record {
      state = behind_cond h machine.top c;
      follows = (
        machine.step machine.of_bucket [],
        refl,
        refl,
        Follows-append (path_terminals p) _ _ _
            _ (path_follows machine.of_bucket p) (
              machine.width (path_steps p),
              refl,
              refl,
              (
                machine.behind_width (path_steps p) (unwrap_or n (pos 0)),
                refl,
                refl,
                (machine.operand h (at_front machine.top), refl, refl, cond_follows h machine.top c),
              ),
            ),
      );
      finishes = finish_cond h c;
    }
followed (flag_def c) = record {
  state = behind_cond machine.flag_when machine.top c;
  follows = (
    machine.flag,
    refl,
    refl,
    (
      machine.operand machine.flag_when (at_front machine.top),
      refl,
      refl,
      cond_follows
          machine.flag_when machine.top c,
    ),
  );
  finishes = finish_cond machine.flag_when c;
}
