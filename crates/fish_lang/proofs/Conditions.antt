-- The canonical text of a condition is lexed to the tokens of its canonical derivation.
use Rattle.std.proofs.Common.{◌≡◌, ℕ, suc, List, [], ◌∷◌, ◌++◌, refl, sym, ◌∙◌, ap, subst, append_assoc, append-nil}
use Rattle.std.specs.Prelude.{Bool, true, false, IsUtf8, codes}
use Rattle.fish_value.specs.declared.value.Value.{Value}
use Rattle.fish_value.specs.declared.value.Value.TheVariants as value
use Rattle.fish_lang.specs.Canonical.{step_text, steps_text, path_text, op_text, formula_text}
use Rattle.fish_lang.specs.Definition.{Steps, Formula, compares, is_there, begins, negated, both, either}
use Rattle.fish_lang.specs.Grammar.{Terminal, terminal, keyword, spelled, step_token, path_terminals, literal_terminal, test_terminals}
use Rattle.fish_lang.specs.Grammar.{cond_terminals, conj_terminals, neg_terminals, nesting_fault}
use Rattle.fish_lang.specs.Derivation.{Path, one_step, more_steps, compare, exist, start}
use Rattle.fish_lang.specs.Token.{is_ident}
use Rattle.fish_value.specs.ValueText.{value_print}
use Rattle.fish_lang.specs.declared.definition.Op.{Op}
use Rattle.fish_lang.specs.declared.definition.Op.TheVariants.{Eq, Ne, Lt, Le, Gt, Ge}
use Rattle.fish_value.specs.Json.{quoted}
use Rattle.fish_lang.specs.declared.print.Part.{Part}
use Rattle.fish_lang.specs.declared.print.Part.TheVariants.{Whole, OfOr, OfAnd}
use Rattle.fish_lang.specs.declared.token.Keyword.TheVariants as word
use Rattle.fish_lang.specs.declared.token.Token.{Token}
use Rattle.fish_lang.specs.declared.token.Token.TheVariants as kind
use Rattle.fish_lang.proofs.Depths.{step_of, further_steps, path_of, literal_of, cond_of, conj_of, neg_of}
use Rattle.fish_lang.proofs.Lexed.{lexed-not, lexed-and, lexed-or, lexed-starts, lexed-exists, lexed-true, lexed-false}
use Rattle.fish_lang.proofs.Lexed.{lexed-op, lexed-string, lexed-ident}
use Rattle.fish_lang.proofs.Numerals.{lexed-int}
use Rattle.fish_lang.proofs.Ways.{spelled-append}
use Rattle.fish_lang.proofs.Writable.{AreTexts, IsPath, IsLiteral, IsCondition}
use Rattle.fish_lang.proofs.Words.{lexed, lexed-open, lexed-close, lexed-dot, EndsWord}

-- a step
pub step-lexed : (s rest : List ℕ) (bare : Bool) → is_ident s ≡ bare → IsUtf8 s → EndsWord rest
    → lexed (step_text s ++ rest) ≡ step_token (step_of bare s) ∷ lexed rest
unfolding step_text
step-lexed s rest true e h ends = rw e (lexed-ident s rest e ends)
step-lexed s rest false e h ends = rw e (lexed-string s rest h)

-- the tokens of further steps
abbrev pub dots : Steps → List Token
dots [] = []
dots (s ∷ more) = kind.Dot ∷ step_token (step_of (is_ident s) s) ∷ dots more

pub steps-end : (more : Steps) (rest : List ℕ) → EndsWord rest → EndsWord (steps_text more ++ rest)
steps-end [] rest h = h
steps-end (s ∷ more) rest h = refl

pub steps-lexed : (more : Steps) (rest : List ℕ) → AreTexts more → EndsWord rest
    → lexed (steps_text more ++ rest) ≡ dots more ++ lexed rest
steps-lexed [] rest h ends = refl
steps-lexed (s ∷ more) rest h ends =
    rw append_assoc (lexed-dot (step_text s ++ (steps_text more ++ rest))
    ∙ ap (λ ts. kind.Dot ∷ ts) (step-lexed s (steps_text more ++ rest) (is_ident s) refl h.0
    (steps-end more rest ends)
    ∙ ap (λ ts. step_token (step_of (is_ident s) s) ∷ ts) (steps-lexed more rest h.1 ends)))

pub further-spelled : (p : Path) (more : Steps) → spelled (path_terminals (further_steps p more))
    ≡ spelled (path_terminals p) ++ dots more
further-spelled p [] = sym (append-nil _)
further-spelled p (s ∷ more) = further-spelled (more_steps p (step_of (is_ident s) s)) more
    ∙ rw (
      spelled-append (path_terminals p)
          (terminal kind.Dot ∷ terminal (step_token (step_of (is_ident s) s)) ∷ []),
      append_assoc,
    )

pub path-lexed : (p : Steps) (rest : List ℕ) → IsPath p → EndsWord rest → lexed (path_text p ++ rest)
    ≡ spelled (path_terminals (path_of p)) ++ lexed rest
path-lexed [] rest h ends = absurd h
path-lexed (s ∷ more) rest h ends =
    rw (append_assoc, further-spelled (one_step (step_of (is_ident s) s)) more)
    (step-lexed s (steps_text more ++ rest) (is_ident s) refl h.0 (steps-end more rest ends)
    ∙ ap (λ ts. step_token (step_of (is_ident s) s) ∷ ts) (steps-lexed more rest h.1 ends))

pub literal-lexed : (v : Value) (rest : List ℕ) → IsLiteral v → EndsWord rest
    → lexed (value_print v ++ rest) ≡ (literal_terminal (literal_of v)).token ∷ lexed rest
literal-lexed (value.Bool true) rest h ends = lexed-true rest ends
literal-lexed (value.Bool false) rest h ends = lexed-false rest ends
literal-lexed (value.Int n) rest h ends = lexed-int n rest h ends
literal-lexed (value.Text s) rest h ends = lexed-string s rest h

-- a sign begins with a space
pub op-ends : (o : Op) (rest : List ℕ) → EndsWord (op_text o ++ rest)
op-ends Eq rest = refl
op-ends Ne rest = refl
op-ends Lt rest = refl
op-ends Le rest = refl
op-ends Gt rest = refl
op-ends Ge rest = refl

-- the tests
pub compares-lexed : (p : Steps) (o : Op) (v : Value) (rest : List ℕ) → IsPath p → IsLiteral v
    → EndsWord rest → lexed ((path_text p ++ (op_text o ++ value_print v)) ++ rest)
    ≡ spelled (test_terminals (compare (path_of p) o (literal_of v))) ++ lexed rest
compares-lexed p o v rest h k ends =
    rw (
      append_assoc,
      append_assoc,
      spelled-append (path_terminals (path_of p))
          (terminal (kind.Compare o) ∷ literal_terminal (literal_of v) ∷ []),
      append_assoc,
    )
    (path-lexed p (op_text o ++ (value_print v ++ rest)) h (op-ends o (value_print v ++ rest))
    ∙ ap (λ ts. spelled (path_terminals (path_of p)) ++ ts) (lexed-op o (value_print v ++ rest)
    ∙ ap (λ ts. kind.Compare o ∷ ts) (literal-lexed v rest k ends)))

pub is_there-lexed : (p : Steps) (rest : List ℕ) → IsPath p → EndsWord rest
    → lexed ((path_text p ++ codes " exists") ++ rest) ≡ spelled (test_terminals (exist (path_of p)))
    ++ lexed rest
is_there-lexed p rest h ends =
    rw (append_assoc, spelled-append (path_terminals (path_of p)) (keyword word.Exists ∷ []), append_assoc)
    (path-lexed p (codes " exists" ++ rest) h refl
    ∙ ap (λ ts. spelled (path_terminals (path_of p)) ++ ts) (lexed-exists rest ends))

pub begins-lexed : (p : Steps) (s rest : List ℕ) → IsPath p → IsUtf8 s → EndsWord rest
    → lexed ((path_text p ++ (codes " starts " ++ quoted s)) ++ rest)
    ≡ spelled (test_terminals (start (path_of p) s)) ++ lexed rest
begins-lexed p s rest h k ends =
    rw (
      append_assoc,
      append_assoc,
      spelled-append (path_terminals (path_of p))
          (keyword word.Starts ∷ terminal (kind.Str s) ∷ []),
      append_assoc,
    )
    (path-lexed p (codes " starts " ++ (quoted s ++ rest)) h refl
    ∙ ap (λ ts. spelled (path_terminals (path_of p)) ++ ts) (lexed-starts (quoted s ++ rest)
    ∙ ap (λ ts. kind.Keyword word.Starts ∷ ts) (lexed-string s rest k)))

-- a token that nests
abbrev pub nests_at : ℕ → Token → Terminal
nests_at n t = record { token = t; fault = nesting_fault n }

-- what stands at each position
abbrev pub part_terminals : ℕ → Part → Formula → List Terminal
part_terminals n Whole a = cond_terminals n (cond_of a)
part_terminals n OfOr a = conj_terminals n (conj_of a)
part_terminals n OfAnd a = neg_terminals n (neg_of a)

-- a text is lexed to these tokens, where no word goes on after it
abbrev pub LexesTo : List ℕ → List Terminal → Type 0
LexesTo text xs = (rest : List ℕ) → EndsWord rest → lexed (text ++ rest) ≡ spelled xs ++ lexed rest

pub not-lexed : (text : List ℕ) (x : Terminal) (xs : List Terminal) → x.token ≡ kind.Keyword word.Not
    → LexesTo text xs → LexesTo (codes "not " ++ text) (x ∷ xs)
not-lexed text x xs is h rest ends =
    rw is (lexed-not (text ++ rest) ∙ ap (λ ts. kind.Keyword word.Not ∷ ts) (h rest ends))

pub and-lexed : (s t : List ℕ) (xs ys : List Terminal) → LexesTo s xs → LexesTo t ys
    → LexesTo (s ++ (codes " and " ++ t)) (xs ++ keyword word.And ∷ ys)
and-lexed s t xs ys f g rest ends =
    simp (append_assoc, spelled-append)
    (f (codes " and " ++ (t ++ rest)) refl ∙ ap (λ ts. spelled xs ++ ts) (lexed-and (t ++ rest)
    ∙ ap (λ ts. kind.Keyword word.And ∷ ts) (g rest ends)))

pub or-lexed : (s t : List ℕ) (xs ys : List Terminal) → LexesTo s xs → LexesTo t ys
    → LexesTo (s ++ (codes " or " ++ t)) (xs ++ keyword word.Or ∷ ys)
or-lexed s t xs ys f g rest ends =
    simp (append_assoc, spelled-append)
    (f (codes " or " ++ (t ++ rest)) refl ∙ ap (λ ts. spelled xs ++ ts) (lexed-or (t ++ rest)
    ∙ ap (λ ts. kind.Keyword word.Or ∷ ts) (g rest ends)))

pub group-lexed : (text : List ℕ) (x : Terminal) (xs : List Terminal) → x.token ≡ kind.Open → LexesTo text xs
    → LexesTo (40 ∷ (text ++ 41 ∷ [])) (x ∷ (xs ++ terminal kind.Close ∷ []))
group-lexed text x xs is f rest ends =
    rw (append_assoc, is, spelled-append xs (terminal kind.Close ∷ []), append_assoc)
    (lexed-open (text ++ 41 ∷ rest)
    ∙ ap (λ ts. kind.Open ∷ ts) (f (41 ∷ rest) refl ∙ ap (λ ts. spelled xs ++ ts) (lexed-close rest)))

-- a text by another spelling of it
pub by-text : (s t : List ℕ) (xs : List Terminal) → s ≡ t → LexesTo s xs → LexesTo t xs
by-text s t xs e h = let P : List ℕ → Type 0 = λ z. LexesTo z xs in subst P e h

-- bare, and in parentheses
pub and-bare : (s t : List ℕ) (xs ys : List Terminal) → LexesTo s xs → LexesTo t ys
    → LexesTo (s ++ (codes " and " ++ (t ++ []))) (xs ++ keyword word.And ∷ ys)
and-bare s t xs ys f g = and-lexed s (t ++ []) xs ys f (by-text t (t ++ []) ys (sym (append-nil t)) g)

pub or-bare : (s t : List ℕ) (xs ys : List Terminal) → LexesTo s xs → LexesTo t ys
    → LexesTo (s ++ (codes " or " ++ (t ++ []))) (xs ++ keyword word.Or ∷ ys)
or-bare s t xs ys f g = or-lexed s (t ++ []) xs ys f (by-text t (t ++ []) ys (sym (append-nil t)) g)

pub and-closed : (s t : List ℕ) (x : Terminal) (xs ys : List Terminal) → x.token ≡ kind.Open → LexesTo s xs
    → LexesTo t ys → LexesTo (40 ∷ (s ++ (codes " and " ++ (t ++ 41 ∷ []))))
    (x ∷ ((xs ++ keyword word.And ∷ ys) ++ terminal kind.Close ∷ []))
and-closed s t x xs ys is f g =
    by-text (40 ∷ ((s ++ (codes " and " ++ t)) ++ 41 ∷ []))
    (40 ∷ (s ++ (codes " and " ++ (t ++ 41 ∷ []))))
    (x ∷ ((xs ++ keyword word.And ∷ ys) ++ terminal kind.Close ∷ [])) (simp append_assoc)
    (group-lexed (s ++ (codes " and " ++ t)) x (xs ++ keyword word.And ∷ ys) is (and-lexed s t xs ys f g))

pub or-closed : (s t : List ℕ) (x : Terminal) (xs ys : List Terminal) → x.token ≡ kind.Open → LexesTo s xs
    → LexesTo t ys → LexesTo (40 ∷ (s ++ (codes " or " ++ (t ++ 41 ∷ []))))
    (x ∷ ((xs ++ keyword word.Or ∷ ys) ++ terminal kind.Close ∷ []))
or-closed s t x xs ys is f g =
    by-text (40 ∷ ((s ++ (codes " or " ++ t)) ++ 41 ∷ []))
    (40 ∷ (s ++ (codes " or " ++ (t ++ 41 ∷ []))))
    (x ∷ ((xs ++ keyword word.Or ∷ ys) ++ terminal kind.Close ∷ [])) (simp append_assoc)
    (group-lexed (s ++ (codes " or " ++ t)) x (xs ++ keyword word.Or ∷ ys) is (or-lexed s t xs ys f g))

-- a condition at each position
pub condition-lexed : (part : Part) (a : Formula) (n : ℕ) → IsCondition a
    → LexesTo (formula_text part a) (part_terminals n part a)
condition-lexed Whole (compares p o v) n h = λ rest ends. compares-lexed p o v rest h.0 h.1 ends
condition-lexed OfOr (compares p o v) n h = λ rest ends. compares-lexed p o v rest h.0 h.1 ends
condition-lexed OfAnd (compares p o v) n h = λ rest ends. compares-lexed p o v rest h.0 h.1 ends
condition-lexed Whole (is_there p) n h = λ rest ends. is_there-lexed p rest h ends
condition-lexed OfOr (is_there p) n h = λ rest ends. is_there-lexed p rest h ends
condition-lexed OfAnd (is_there p) n h = λ rest ends. is_there-lexed p rest h ends
condition-lexed Whole (begins p s) n h = λ rest ends. begins-lexed p s rest h.0 h.1 ends
condition-lexed OfOr (begins p s) n h = λ rest ends. begins-lexed p s rest h.0 h.1 ends
condition-lexed OfAnd (begins p s) n h = λ rest ends. begins-lexed p s rest h.0 h.1 ends
condition-lexed Whole (negated a) n h = not-lexed (formula_text OfAnd a)
    (nests_at n (kind.Keyword word.Not)) (neg_terminals (suc n) (neg_of a)) refl
    (condition-lexed OfAnd a (suc n) h)
condition-lexed OfOr (negated a) n h = not-lexed (formula_text OfAnd a)
    (nests_at n (kind.Keyword word.Not)) (neg_terminals (suc n) (neg_of a)) refl
    (condition-lexed OfAnd a (suc n) h)
condition-lexed OfAnd (negated a) n h = not-lexed (formula_text OfAnd a)
    (nests_at n (kind.Keyword word.Not)) (neg_terminals (suc n) (neg_of a)) refl
    (condition-lexed OfAnd a (suc n) h)
condition-lexed Whole (both a b) n h = and-bare (formula_text OfOr a) (formula_text OfAnd b)
    (conj_terminals n (conj_of a)) (neg_terminals n (neg_of b)) (condition-lexed OfOr a n h.0)
    (condition-lexed OfAnd b n h.1)
condition-lexed OfOr (both a b) n h = and-bare (formula_text OfOr a) (formula_text OfAnd b)
    (conj_terminals n (conj_of a)) (neg_terminals n (neg_of b)) (condition-lexed OfOr a n h.0)
    (condition-lexed OfAnd b n h.1)
condition-lexed OfAnd (both a b) n h = and-closed (formula_text OfOr a) (formula_text OfAnd b)
    (nests_at n kind.Open) (conj_terminals (suc n) (conj_of a)) (neg_terminals (suc n) (neg_of b)) refl
    (condition-lexed OfOr a (suc n) h.0) (condition-lexed OfAnd b (suc n) h.1)
condition-lexed Whole (either a b) n h = or-bare (formula_text Whole a) (formula_text OfOr b)
    (cond_terminals n (cond_of a)) (conj_terminals n (conj_of b)) (condition-lexed Whole a n h.0)
    (condition-lexed OfOr b n h.1)
condition-lexed OfOr (either a b) n h = or-closed (formula_text Whole a) (formula_text OfOr b)
    (nests_at n kind.Open) (cond_terminals (suc n) (cond_of a)) (conj_terminals (suc n) (conj_of b)) refl
    (condition-lexed Whole a (suc n) h.0) (condition-lexed OfOr b (suc n) h.1)
condition-lexed OfAnd (either a b) n h = or-closed (formula_text Whole a) (formula_text OfOr b)
    (nests_at n kind.Open) (cond_terminals (suc n) (cond_of a)) (conj_terminals (suc n) (conj_of b)) refl
    (condition-lexed Whole a (suc n) h.0) (condition-lexed OfOr b (suc n) h.1)
