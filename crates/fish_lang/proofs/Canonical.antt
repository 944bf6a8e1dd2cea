-- The canonical derivation means what it is of, and nothing in it is refused.
use Rattle.std.proofs.Common.{◌≡◌, ℕ, ◌+◌, ◌<◌, ◌≤◌, suc, List, [], ◌∷◌, ◌++◌, refl, sym, ◌∙◌, arith, append_assoc, append-nil}
use Rattle.std.specs.Prelude.{Bool, true, false, nat_lt, Option, Some, None, option_map}
use Rattle.std.proofs.lemmas.Bool.Decides.{nat_tests}
use Rattle.fish_value.specs.declared.value.Value.{Value}
use Rattle.fish_value.specs.declared.value.Value.TheVariants as value
use Rattle.fish_lang.specs.Definition.{Steps, Formula, compares, is_there, begins, negated, both, either}
use Rattle.fish_lang.specs.Definition.{Definition, takes, eaches, buckets, flags}
use Rattle.fish_lang.specs.Grammar.{Terminal, keyword, terminals, path_terminals, literal_terminal}
use Rattle.fish_lang.specs.Grammar.{test_terminals, cond_terminals, conj_terminals}
use Rattle.fish_lang.specs.Grammar.{neg_terminals, width_fault, nesting_fault, when_terminals}
use Rattle.fish_lang.specs.Derivation.{Path, one_step, more_steps, compare, exist, start, step_name, path_steps}
use Rattle.fish_lang.specs.Derivation.{literal_value, cond_formula, conj_formula, neg_formula, meaning}
use Rattle.fish_lang.specs.Token.{is_ident}
use Rattle.fish_lang.specs.declared.definition.Op.{Op}
use Rattle.fish_lang.specs.declared.token.Keyword.TheVariants as word
use Rattle.fish_lang.proofs.Depths.{step_of, further_steps, path_of, literal_of, cond_of, conj_of, neg_of, cond_depth}
use Rattle.fish_lang.proofs.Depths.{conj_depth, neg_depth}
use Rattle.fish_lang.proofs.Spelling.{when_of, derivation_of}
use Rattle.fish_lang.proofs.Writable.{IsCondition, IsPath, IsWhen, IsWritable}

step_of-name : (b : Bool) (s : List ℕ) → step_name (step_of b s) ≡ s
step_of-name true s = refl
step_of-name false s = refl

further-steps : (p : Path) (more : Steps) → path_steps (further_steps p more) ≡ path_steps p ++ more
further-steps p [] = sym (append-nil _)
further-steps p (s ∷ more) = further-steps (more_steps p (step_of (is_ident s) s)) more
    ∙ rw (step_of-name (is_ident s) s, append_assoc)

path-means : (p : Steps) → IsPath p → path_steps (path_of p) ≡ p
path-means [] h = absurd h
path-means (s ∷ more) h = further-steps (one_step (step_of (is_ident s) s)) more
    ∙ rw (step_of-name (is_ident s) s)

literal-means : (v : Value) → literal_value (literal_of v) ≡ v
literal-means (value.Bool b) = refl
literal-means (value.Int n) = refl
literal-means (value.Text s) = refl

-- a condition at each position
record Means (a : Formula) : Type 0 where
  cond : cond_formula (cond_of a) ≡ a
  conj : conj_formula (conj_of a) ≡ a
  neg : neg_formula (neg_of a) ≡ a

means : (a : Formula) → IsCondition a → Means a
means (compares p op v) h =
    let e : compares (path_steps (path_of p)) op (literal_value (literal_of v)) ≡ compares p op v =
    rw (path-means p h.0, literal-means v) in
    record { cond = e; conj = e; neg = e }
means (is_there p) h =
    let e : is_there (path_steps (path_of p)) ≡ is_there p = rw (path-means p h) in
    record { cond = e; conj = e; neg = e }
means (begins p s) h =
    let e : begins (path_steps (path_of p)) s ≡ begins p s = rw (path-means p h.0) in
    record { cond = e; conj = e; neg = e }
means (negated a) h =
    let e : negated (neg_formula (neg_of a)) ≡ negated a = rw ((means a h).neg) in
    record { cond = e; conj = e; neg = e }
means (both a b) h =
    let e : both (conj_formula (conj_of a)) (neg_formula (neg_of b))
    ≡ both a b = rw ((means a h.0).conj, (means b h.1).neg) in
    record { cond = e; conj = e; neg = e }
means (either a b) h =
    let e : either (cond_formula (cond_of a)) (conj_formula (conj_of b))
    ≡ either a b = rw ((means a h.0).cond, (means b h.1).conj) in
    record { cond = e; conj = e; neg = e }

when-means : (w : Option Formula) → IsWhen w → option_map cond_formula (when_of w) ≡ w
when-means None h = refl
when-means (Some a) h = rw ((means a h).cond)

pub derivation-means : (d : Definition) → IsWritable d → meaning (derivation_of d) ≡ d
derivation-means (takes p w) h = rw (path-means p h.0, when-means w h.1)
derivation-means (eaches p w) h = rw (path-means p h.0, when-means w h.1)
derivation-means (buckets p n w) h = rw (path-means p h.0, when-means w h.3)
derivation-means (flags a) h = rw ((means a h).cond)

-- no position of these is refused
abbrev pub AreFine : List Terminal → Type 0
AreFine [] = Unit {0}
AreFine (x ∷ xs) = (x.fault ≡ None) × AreFine xs

pub fine-append : (xs ys : List Terminal) → AreFine xs → AreFine ys → AreFine (xs ++ ys)
fine-append [] ys f g = g
fine-append (x ∷ xs) ys f g = (f.0, fine-append xs ys f.1 g)

pub fine-front : (xs ys : List Terminal) → AreFine (xs ++ ys) → AreFine xs × AreFine ys
fine-front [] ys f = (tt, f)
fine-front (x ∷ xs) ys f = let rest = fine-front xs ys f.1 in ((f.0, rest.0), rest.1)

path-fine : (p : Path) → AreFine (path_terminals p)
path-fine (one_step s) = (refl, tt)
path-fine (more_steps p s) = fine-append (path_terminals p) _ (path-fine p) (refl, (refl, tt))

literal-fine : (v : Value) → (literal_terminal (literal_of v)).fault ≡ None
literal-fine (value.Bool true) = refl
literal-fine (value.Bool false) = refl
literal-fine (value.Int n) = refl
literal-fine (value.Text s) = refl

shallow : (n : ℕ) → n < 16 → nesting_fault n ≡ None
shallow n h =
    let e : nat_lt n 16 ≡ true = grind (arith, nat_tests) in
    rw e

compares-fine : (p : Path) (op : Op) (v : Value) → AreFine (test_terminals (compare p op (literal_of v)))
compares-fine p op v = fine-append (path_terminals p) _ (path-fine p) (refl, (literal-fine v, tt))

is_there-fine : (p : Path) → AreFine (test_terminals (exist p))
is_there-fine p = fine-append (path_terminals p) _ (path-fine p) (refl, tt)

begins-fine : (p : Path) (s : List ℕ) → AreFine (test_terminals (start p s))
begins-fine p s = fine-append (path_terminals p) _ (path-fine p) (refl, (refl, tt))

-- a condition that nests no deeper than 16, at each position
mutual
  cond-fine : (a : Formula) (n : ℕ) → n + cond_depth (cond_of a) ≤ 16 → AreFine (cond_terminals n (cond_of a))
  cond-fine (compares p op v) n h = compares-fine (path_of p) op v
  cond-fine (is_there p) n h = is_there-fine (path_of p)
  cond-fine (begins p s) n h = begins-fine (path_of p) s
  cond-fine (negated a) n h = (shallow n (omega arith), neg-fine a (suc n) (omega arith))
  cond-fine (both a b) n h = fine-append (conj_terminals n (conj_of a)) _ (conj-fine a n (omega arith))
      (refl, neg-fine b n (omega arith))
  cond-fine (either a b) n h = fine-append (cond_terminals n (cond_of a)) _
      (cond-fine a n (omega arith)) (refl, conj-fine b n (omega arith))

  conj-fine : (a : Formula) (n : ℕ) → n + conj_depth (conj_of a) ≤ 16 → AreFine (conj_terminals n (conj_of a))
  conj-fine (compares p op v) n h = compares-fine (path_of p) op v
  conj-fine (is_there p) n h = is_there-fine (path_of p)
  conj-fine (begins p s) n h = begins-fine (path_of p) s
  conj-fine (negated a) n h = (shallow n (omega arith), neg-fine a (suc n) (omega arith))
  conj-fine (both a b) n h = fine-append (conj_terminals n (conj_of a)) _ (conj-fine a n (omega arith))
      (refl, neg-fine b n (omega arith))
  conj-fine (either a b) n h = (
    shallow n (omega arith),
    fine-append (cond_terminals (suc n) (cond_of a)
        ++ keyword word.Or ∷ conj_terminals (suc n) (conj_of b)) _
        (fine-append (cond_terminals (suc n) (cond_of a)) _ (cond-fine a (suc n) (omega arith))
        (refl, conj-fine b (suc n) (omega arith))) (refl, tt),
  )

  neg-fine : (a : Formula) (n : ℕ) → n + neg_depth (neg_of a) ≤ 16 → AreFine (neg_terminals n (neg_of a))
  neg-fine (compares p op v) n h = compares-fine (path_of p) op v
  neg-fine (is_there p) n h = is_there-fine (path_of p)
  neg-fine (begins p s) n h = begins-fine (path_of p) s
  neg-fine (negated a) n h = (shallow n (omega arith), neg-fine a (suc n) (omega arith))
  neg-fine (both a b) n h = (
    shallow n (omega arith),
    fine-append (conj_terminals (suc n) (conj_of a)
        ++ keyword word.And ∷ neg_terminals (suc n) (neg_of b)) _
        (fine-append (conj_terminals (suc n) (conj_of a)) _ (conj-fine a (suc n) (omega arith))
        (refl, neg-fine b (suc n) (omega arith))) (refl, tt),
  )
  neg-fine (either a b) n h = (
    shallow n (omega arith),
    fine-append (cond_terminals (suc n) (cond_of a)
        ++ keyword word.Or ∷ conj_terminals (suc n) (conj_of b)) _
        (fine-append (cond_terminals (suc n) (cond_of a)) _ (cond-fine a (suc n) (omega arith))
        (refl, conj-fine b (suc n) (omega arith))) (refl, tt),
  )

-- the nesting of a definition's condition
abbrev pub when_depth : Option Formula → ℕ
when_depth None = 0
when_depth (Some a) = cond_depth (cond_of a)

abbrev pub IsShallow : Definition → Type 0
IsShallow (takes p w) = when_depth w ≤ 16
IsShallow (eaches p w) = when_depth w ≤ 16
IsShallow (buckets p n w) = (when_depth w ≤ 16) × (width_fault (Some n) ≡ None)
IsShallow (flags a) = cond_depth (cond_of a) ≤ 16

when-fine : (w : Option Formula) → when_depth w ≤ 16 → AreFine (when_terminals (when_of w))
when-fine None h = tt
when-fine (Some a) h = (refl, cond-fine a 0 (omega arith))

pub derivation-fine : (d : Definition) → IsShallow d → AreFine (terminals (derivation_of d))
derivation-fine (takes p w) h =
    (refl, fine-append (path_terminals (path_of p)) _ (path-fine (path_of p)) (when-fine w h))
derivation-fine (eaches p w) h =
    (refl, fine-append (path_terminals (path_of p)) _ (path-fine (path_of p)) (when-fine w h))
derivation-fine (buckets p n w) h =
    (refl, fine-append (path_terminals (path_of p)) _ (path-fine (path_of p)) (refl, (h.1, when-fine w h.0)))
derivation-fine (flags a) h = (refl, (refl, cond-fine a 0 (omega arith)))
