-- What a source means can be written, nests no deeper than 16, and so is read from its canonical text.
use Rattle.std.proofs.Common.{◌≡◌, ℕ, ◌+◌, ◌<◌, ◌≤◌, zero, suc, List, [], ◌∷◌, ◌++◌, refl, sym, ◌∙◌, ap, subst, arith}
use Rattle.std.proofs.Common.{length, take, drop, inl, inr}
use Rattle.std.specs.Prelude.{Bool, true, false, nat_lt, if◌then◌else◌, Option, Some, None, IsUtf8}
use Rattle.std.proofs.lemmas.Bool.Decides.{nat_tests}
use Rattle.fish_lang.specs.Canonical.{definition_text}
use Rattle.fish_lang.specs.Definition.{Steps, Definition}
use Rattle.fish_lang.specs.Grammar.{Terminal, terminal, spelled, terminals, step_token, path_terminals, literal_terminal, test_terminals}
use Rattle.fish_lang.specs.Grammar.{cond_terminals, conj_terminals, neg_terminals}
use Rattle.fish_lang.specs.Derivation.{Step, ident, string, Path, one_step, more_steps, Literal, truth, number, text}
use Rattle.fish_lang.specs.Derivation.{Test, compare, exist, start, Cond, one_conj, more_conjs, Conj, one_neg}
use Rattle.fish_lang.specs.Derivation.{more_negs, Neg, not_neg, group, test, Derivation, take_def, each_def, bucket_def, flag_def}
use Rattle.fish_lang.specs.Derivation.{step_name, path_steps, literal_value, test_formula, cond_formula, conj_formula}
use Rattle.fish_lang.specs.Derivation.{neg_formula, meaning}
use Rattle.fish_lang.specs.Language.{kinds, unrefused, IsRead, IsAccepted}
use Rattle.fish_lang.specs.Token.{tokens, tokens_from, token_of, listed, length_behind}
use Rattle.fish_lang.specs.declared.fault.Fault.TheVariants.{TooDeep}
use Rattle.fish_lang.specs.declared.token.Token.{Token}
use Rattle.fish_lang.specs.declared.token.Token.TheVariants as kind
use Rattle.fish_lang.specs.declared.token.Placed.{Placed}
use Rattle.fish_lang.proofs.Canonical.{AreFine, derivation-fine, derivation-means, IsShallow}
use Rattle.fish_lang.proofs.Depths.{cond_of, cond_depth, conj_depth, neg_depth, cond_shallow}
use Rattle.fish_lang.proofs.Spelling.{derivation_of, definition-lexed}
use Rattle.fish_lang.proofs.Words.{lexed}
use Rattle.fish_lang.proofs.Proper.{IsProper, IsProperIfAny, token-proper}
use Rattle.fish_lang.proofs.Writable.{AreTexts, IsCondition, IsLiteral, IsPath, IsWritable}

-- positions of a source of which none is refused
abbrev AreGood : List Terminal → Type 0
AreGood [] = Unit {0}
AreGood (x ∷ xs) = (x.fault ≡ None) × IsProper x.token × AreGood xs

good-front : (xs ys : List Terminal) → AreGood (xs ++ ys) → AreGood xs × AreGood ys
good-front [] ys f = (tt, f)
good-front (x ∷ xs) ys f = let rest = good-front xs ys f.2 in ((f.0, f.1, rest.0), rest.1)

listed-good : (at : ℕ) (t : Option Token) (ts : List Placed) → IsProperIfAny t
    → AreGood (unrefused ts) → AreGood (unrefused (listed at t ts))
listed-good at None ts f g = g
listed-good at (Some t) ts f g = (refl, f, g)

tokens-good : (most at : ℕ) (b : List ℕ) → AreGood (unrefused (tokens_from most at b))
tokens-good zero at b = tt
tokens-good (suc most) at [] = tt
tokens-good (suc most) at (c ∷ b) = listed-good at (token_of (c ∷ take (length_behind c b) b)) _
    (token-proper (c ∷ take (length_behind c b) b)) (tokens-good most _ (drop (length_behind c b) b))

source-good : (b : List ℕ) → AreGood (unrefused (tokens b))
unfolding tokens
source-good b = tokens-good (length b) 0 b

-- so its parts can be written
step-good : (s : Step) → IsProper (step_token s) → IsUtf8 (step_name s)
step-good (ident s) h = h
step-good (string s) h = h

AreTexts-push : (p : Steps) (s : List ℕ) → AreTexts p → IsUtf8 s → AreTexts (p ++ s ∷ [])
AreTexts-push [] s f g = (g, tt)
AreTexts-push (t ∷ p) s f g = (f.0, AreTexts-push p s f.1 g)

IsPath-push : (p : Steps) (s : List ℕ) → IsPath p → IsUtf8 s → IsPath (p ++ s ∷ [])
IsPath-push [] s f g = (g, tt)
IsPath-push (t ∷ p) s f g = (f.0, AreTexts-push p s f.1 g)

path-good : (p : Path) → AreGood (path_terminals p) → IsPath (path_steps p)
path-good (one_step s) h = (step-good s h.1, tt)
path-good (more_steps p s) h =
    let parts = good-front (path_terminals p) (terminal kind.Dot ∷ terminal (step_token s) ∷ []) h in
    IsPath-push (path_steps p) (step_name s) (path-good p parts.0) (step-good s parts.1.2.1)

literal-good : (l : Literal) → (literal_terminal l).fault ≡ None → IsProper (literal_terminal l).token
    → IsLiteral (literal_value l)
literal-good (truth true) f g = tt
literal-good (truth false) f g = tt
literal-good (number negative (Some n)) f g = g.0
literal-good (number negative None) f g = cc
literal-good (text s) f g = g

test-good : (t : Test) → AreGood (test_terminals t) → IsCondition (test_formula t)
test-good (compare p op l) h =
    let parts = good-front (path_terminals p) _ h in
    (path-good p parts.0, literal-good l parts.1.2.0 parts.1.2.1)
test-good (exist p) h = path-good p (good-front (path_terminals p) _ h).0
test-good (start p s) h =
    let parts = good-front (path_terminals p) _ h in
    (path-good p parts.0, parts.1.2.1)

mutual
  cond-good : (c : Cond) (n : ℕ) → AreGood (cond_terminals n c) → IsCondition (cond_formula c)
  cond-good (one_conj c) n h = conj-good c n h
  cond-good (more_conjs a c) n h = let parts = good-front (cond_terminals n a) _ h in
      (cond-good a n parts.0, conj-good c n parts.1.2)

  conj-good : (c : Conj) (n : ℕ) → AreGood (conj_terminals n c) → IsCondition (conj_formula c)
  conj-good (one_neg a) n h = neg-good a n h
  conj-good (more_negs c a) n h = let parts = good-front (conj_terminals n c) _ h in
      (conj-good c n parts.0, neg-good a n parts.1.2)

  neg-good : (a : Neg) (n : ℕ) → AreGood (neg_terminals n a) → IsCondition (neg_formula a)
  neg-good (not_neg a) n h = neg-good a (suc n) h.2
  neg-good (group c) n h = cond-good c (suc n) (good-front (cond_terminals (suc n) c) _ h.2).0
  neg-good (test t) n h = test-good t h

-- and nest no deeper than 16
nests : (n : ℕ) (b : Bool) → nat_lt n 16 ≡ b → (if b then None else Some TooDeep) ≡ None → n < 16
nests n true e h = grind (arith, nat_tests)
nests n false e h = cc

mutual
  cond-deep : (c : Cond) (n : ℕ) → n ≤ 16 → AreGood (cond_terminals n c) → n + cond_depth c ≤ 16
  cond-deep (one_conj c) n l h = conj-deep c n l h
  cond-deep (more_conjs a c) n l h = let parts = good-front (cond_terminals n a) _ h in
      omega (arith, cond-deep a n l parts.0, conj-deep c n l parts.1.2)

  conj-deep : (c : Conj) (n : ℕ) → n ≤ 16 → AreGood (conj_terminals n c) → n + conj_depth c ≤ 16
  conj-deep (one_neg a) n l h = neg-deep a n l h
  conj-deep (more_negs c a) n l h = let parts = good-front (conj_terminals n c) _ h in
      omega (arith, conj-deep c n l parts.0, neg-deep a n l parts.1.2)

  neg-deep : (a : Neg) (n : ℕ) → n ≤ 16 → AreGood (neg_terminals n a) → n + neg_depth a ≤ 16
  neg-deep (not_neg a) n l h = let below : n < 16 = nests n (nat_lt n 16) refl h.0 in
      omega (arith, neg-deep a (suc n) below h.2)
  neg-deep (group c) n l h = let below : n < 16 = nests n (nat_lt n 16) refl h.0 in
      omega (arith, cond-deep c (suc n) below (good-front (cond_terminals (suc n) c) _ h.2).0)
  neg-deep (test t) n l h = omega arith

whole-deep : (c : Cond) → AreGood (cond_terminals 0 c) → cond_depth (cond_of (cond_formula c)) ≤ 16
whole-deep c h = omega (arith, cond-deep c 0 (omega arith) h, cond_shallow c)

-- a whole definition
record Keeps (d : Definition) : Type 0 where
  writable : IsWritable d
  shallow : IsShallow d

keeps : (tree : Derivation) → AreGood (terminals tree) → Keeps (meaning tree)
keeps (take_def p None) h =
    record { writable = (path-good p (good-front (path_terminals p) _ h.2).0, tt); shallow = omega arith }
keeps (each_def p None) h =
    record { writable = (path-good p (good-front (path_terminals p) _ h.2).0, tt); shallow = omega arith }
keeps (take_def p (Some c)) h =
    let parts = good-front (path_terminals p) _ h.2 in
    record { writable = (path-good p parts.0, cond-good c 0 parts.1.2); shallow = whole-deep c parts.1.2 }
keeps (each_def p (Some c)) h =
    let parts = good-front (path_terminals p) _ h.2 in
    record { writable = (path-good p parts.0, cond-good c 0 parts.1.2); shallow = whole-deep c parts.1.2 }
keeps (bucket_def p None w) h = let parts = good-front (path_terminals p) _ h.2 in cc (parts.1.2.0)
keeps (bucket_def p (Some n) None) h =
    let parts = good-front (path_terminals p) _ h.2 in
    let wide = parts.1.2 in
    record { writable = (path-good p parts.0, wide.1.0, wide.1.1 refl, tt); shallow = (omega arith, wide.0) }
keeps (bucket_def p (Some n) (Some c)) h =
    let parts = good-front (path_terminals p) _ h.2 in
    let wide = parts.1.2 in
    record {
      writable = (path-good p parts.0, wide.1.0, wide.1.1 refl, cond-good c 0 wide.2.2);
      shallow = (whole-deep c wide.2.2, wide.0);
    }
keeps (flag_def c) h = record { writable = cond-good c 0 h.2.2; shallow = whole-deep c h.2.2 }

-- positions of which none is refused are their tokens
terminal-by : (x : Terminal) (t : Token) → x.token ≡ t → x.fault ≡ None → x ≡ terminal t
terminal-by x t e f = ap (λ z. let s : Terminal = record { token = z; fault = x.fault } in s) e
    ∙ ap (λ z. let s : Terminal = record { token = t; fault = z } in s) f

fine-unrefused : (xs : List Terminal) (ts : List Placed) → AreFine xs → spelled xs ≡ kinds ts → xs ≡ unrefused ts
fine-unrefused [] [] f e = refl
fine-unrefused [] (t ∷ ts) f e = cc
fine-unrefused (x ∷ xs) [] f e = cc
fine-unrefused (x ∷ xs) (t ∷ ts) f e =
    let same : x.token ≡ t.token = cc in
    let here : x ≡ terminal t.token = terminal-by x t.token same f.0 in
    let rest : xs ≡ unrefused ts = fine-unrefused xs ts f.1 cc in
    cc

kinds-lexed : (b : List ℕ) → kinds (tokens b) ≡ lexed b
unfolding tokens lexed
kinds-lexed b = refl

-- the canonical text is read as what it is of
pub read-again : (b : List ℕ) (d : Definition) → IsRead (tokens b) d → IsRead (tokens (definition_text d)) d
read-again b d h =
    let P : List Terminal → Type 0 = λ z. AreGood z in
    let Q : Definition → Type 0 = λ z. Keeps z in
    let kept : Keeps d = subst Q h.means (keeps h.tree (subst P (sym h.spells) (source-good b))) in
    record {
      tree = derivation_of d;
      spells = fine-unrefused (terminals (derivation_of d)) (tokens (definition_text d))
          (derivation-fine d kept.shallow) (sym (definition-lexed d kept.writable)
          ∙ sym (kinds-lexed (definition_text d)));
      means = derivation-means d kept.writable;
    }

pub accepted-again : (b : List ℕ) (d : Definition) → IsAccepted b d → IsAccepted (definition_text d) d
accepted-again b d (inl h) = cc (h.1)
accepted-again b d (inr h) = inr (omega (arith, h.1.1), (read-again b d h.1.0, h.1.1))
