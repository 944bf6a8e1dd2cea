-- The canonical derivation of a meaning nests no deeper than any other.
use Rattle.std.proofs.Common.{ℕ, ◌≤◌, suc, List, [], ◌∷◌, arith}
use Rattle.std.specs.Prelude.{max, ℤ, pos, negsuc, Bool, true, false, Some}
use Rattle.fish_value.specs.declared.value.Value.{Value}
use Rattle.fish_value.specs.declared.value.Value.TheVariants as value
use Rattle.fish_lang.specs.Definition.{Steps, Formula, compares, is_there, begins, negated, both, either}
use Rattle.fish_lang.specs.Derivation.{Step, ident, string, Path, one_step, more_steps, Literal, truth, number, text}
use Rattle.fish_lang.specs.Derivation.{Test, compare, exist, start, Cond, one_conj, more_conjs, Conj, one_neg}
use Rattle.fish_lang.specs.Derivation.{more_negs, Neg, not_neg, group, test, test_formula, cond_formula, conj_formula}
use Rattle.fish_lang.specs.Derivation.{neg_formula}
use Rattle.fish_lang.specs.Token.{is_ident}

abbrev pub step_of : Bool → List ℕ → Step
step_of true s = ident s
step_of false s = string s

abbrev pub further_steps : Path → Steps → Path
further_steps p [] = p
further_steps p (s ∷ more) = further_steps (more_steps p (step_of (is_ident s) s)) more

-- a path of no step has no derivation, and doesn't come
abbrev pub path_of : Steps → Path
path_of [] = one_step (ident [])
path_of (s ∷ more) = further_steps (one_step (step_of (is_ident s) s)) more

abbrev pub is_negative : ℤ → Bool
is_negative (pos n) = false
is_negative (negsuc n) = true

abbrev pub literal_of : Value → Literal
literal_of (value.Bool b) = truth b
literal_of (value.Int n) = number (is_negative n) (Some n)
literal_of (value.Text s) = text s

-- the canonical derivation of a condition, in each position
abbrev mutual
  pub cond_of : Formula → Cond
  cond_of (compares p op v) = one_conj (one_neg (test (compare (path_of p) op (literal_of v))))
  cond_of (is_there p) = one_conj (one_neg (test (exist (path_of p))))
  cond_of (begins p s) = one_conj (one_neg (test (start (path_of p) s)))
  cond_of (negated a) = one_conj (one_neg (not_neg (neg_of a)))
  cond_of (both a b) = one_conj (more_negs (conj_of a) (neg_of b))
  cond_of (either a b) = more_conjs (cond_of a) (conj_of b)

  pub conj_of : Formula → Conj
  conj_of (compares p op v) = one_neg (test (compare (path_of p) op (literal_of v)))
  conj_of (is_there p) = one_neg (test (exist (path_of p)))
  conj_of (begins p s) = one_neg (test (start (path_of p) s))
  conj_of (negated a) = one_neg (not_neg (neg_of a))
  conj_of (both a b) = more_negs (conj_of a) (neg_of b)
  conj_of (either a b) = one_neg (group (more_conjs (cond_of a) (conj_of b)))

  pub neg_of : Formula → Neg
  neg_of (compares p op v) = test (compare (path_of p) op (literal_of v))
  neg_of (is_there p) = test (exist (path_of p))
  neg_of (begins p s) = test (start (path_of p) s)
  neg_of (negated a) = not_neg (neg_of a)
  neg_of (both a b) = group (one_conj (more_negs (conj_of a) (neg_of b)))
  neg_of (either a b) = group (more_conjs (cond_of a) (conj_of b))

-- how deep a derivation nests
abbrev mutual
  pub cond_depth : Cond → ℕ
  cond_depth (one_conj c) = conj_depth c
  cond_depth (more_conjs a c) = max (cond_depth a) (conj_depth c)

  pub conj_depth : Conj → ℕ
  conj_depth (one_neg a) = neg_depth a
  conj_depth (more_negs c a) = max (conj_depth c) (neg_depth a)

  pub neg_depth : Neg → ℕ
  neg_depth (not_neg a) = suc (neg_depth a)
  neg_depth (group c) = suc (cond_depth c)
  neg_depth (test t) = 0

-- the looser the position, the less it nests
cond_of-conj_of : (a : Formula) → cond_depth (cond_of a) ≤ conj_depth (conj_of a)
cond_of-conj_of (compares p op v) = omega arith
cond_of-conj_of (is_there p) = omega arith
cond_of-conj_of (begins p s) = omega arith
cond_of-conj_of (negated a) = omega arith
cond_of-conj_of (both a b) = omega arith
cond_of-conj_of (either a b) = omega arith

conj_of-neg_of : (a : Formula) → conj_depth (conj_of a) ≤ neg_depth (neg_of a)
conj_of-neg_of (compares p op v) = omega arith
conj_of-neg_of (is_there p) = omega arith
conj_of-neg_of (begins p s) = omega arith
conj_of-neg_of (negated a) = omega arith
conj_of-neg_of (both a b) = omega arith
conj_of-neg_of (either a b) = omega arith

-- and parentheses add one
neg_of-cond_of : (a : Formula) → neg_depth (neg_of a) ≤ suc (cond_depth (cond_of a))
neg_of-cond_of (compares p op v) = omega arith
neg_of-cond_of (is_there p) = omega arith
neg_of-cond_of (begins p s) = omega arith
neg_of-cond_of (negated a) = omega arith
neg_of-cond_of (both a b) = omega arith
neg_of-cond_of (either a b) = omega arith

test-depth : (t : Test) → neg_depth (neg_of (test_formula t)) ≤ 0
test-depth (compare p op l) = omega arith
test-depth (exist p) = omega arith
test-depth (start p s) = omega arith

-- the canonical derivation nests no deeper
mutual
  pub cond_shallow : (c : Cond) → cond_depth (cond_of (cond_formula c)) ≤ cond_depth c
  cond_shallow (one_conj c) = omega (arith, cond_of-conj_of (conj_formula c), conj_shallow c)
  cond_shallow (more_conjs a c) = omega (arith, cond_shallow a, conj_shallow c)

  pub conj_shallow : (c : Conj) → conj_depth (conj_of (conj_formula c)) ≤ conj_depth c
  conj_shallow (one_neg a) = omega (arith, conj_of-neg_of (neg_formula a), neg_shallow a)
  conj_shallow (more_negs c a) = omega (arith, conj_shallow c, neg_shallow a)

  pub neg_shallow : (a : Neg) → neg_depth (neg_of (neg_formula a)) ≤ neg_depth a
  neg_shallow (not_neg a) = omega (arith, neg_shallow a)
  neg_shallow (group c) = omega (arith, neg_of-cond_of (cond_formula c), cond_shallow c)
  neg_shallow (test t) = test-depth t
